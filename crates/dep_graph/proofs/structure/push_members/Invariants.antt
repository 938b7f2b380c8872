use Rattle.std.proofs.Common.{◌≡◌, ◌++◌, drop}
use Rattle.std.specs.List.{flat_map}
use Rattle.dep_graph.specs.Numbered.{member_edges}
use Rattle.dep_graph.proofs.structure.push_members.Given as goal

abbrev pub invariant-loop-place : goal.invariant-loop-place
invariant-loop-place l = l.edges ++ flat_map (member_edges l.catalog l.outer) (drop l.place-index l.places) ≡ l.initial.edges ++ flat_map (member_edges l.catalog l.outer) l.places
