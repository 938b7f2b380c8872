use Rattle.std.proofs.Common.{◌≡◌, ◌++◌, drop}
use Rattle.std.specs.Prelude.{map}
use Rattle.dep_graph.proofs.joined.push_from.Given as goal

abbrev pub invariant-loop-b : goal.invariant-loop-b
invariant-loop-b l = l.edges ++ map (λ b. (l.a, b)) (drop l.b-index l.to) ≡ l.initial.edges ++ map (λ b. (l.a, b)) l.to
