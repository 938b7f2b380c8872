use Rattle.std.proofs.Common.{◌≡◌, ◌++◌, drop}
use Rattle.std.specs.Prelude.{map}
use Rattle.dep_graph.proofs.joined.push_to.Given as goal

abbrev pub invariant-loop-a : goal.invariant-loop-a
invariant-loop-a l = l.edges ++ map (λ a. (a, l.b)) (drop l.a-index l.from) ≡ l.initial.edges ++ map (λ a. (a, l.b)) l.from
