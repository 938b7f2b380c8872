use Rattle.std.proofs.Common.{◌≡◌, ◌++◌, map, drop}
use Rattle.pp_declared_bodies.specs.Bodies.{ref_to}
use Rattle.pp_declared_bodies.proofs.declaring.push_refs.Given as goal

abbrev pub invariant-loop-title : goal.invariant-loop-title
invariant-loop-title l = l.refs ++ map (ref_to l.kind) (drop l.title-index l.titles) ≡ l.initial.refs ++ map (ref_to l.kind) l.titles
