use Rattle.std.proofs.Common.{◌≡◌, ◌++◌, drop}
use Rattle.dep_graph.specs.Numbered.{crossing}
use Rattle.dep_graph.proofs.joined.push_crossing.Given as goal

abbrev pub invariant-loop-a : goal.invariant-loop-a
invariant-loop-a l = l.edges ++ crossing (drop l.a-index l.from) l.to ≡ l.initial.edges ++ crossing l.from l.to
