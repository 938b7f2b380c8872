use Rattle.std.proofs.Common.{◌≡◌, ◌++◌, drop}
use Rattle.dep_graph.specs.Named.{kept_edges}
use Rattle.dep_graph.proofs.named.push_all_kept.Given as goal

abbrev pub invariant-loop-target : goal.invariant-loop-target
invariant-loop-target l = l.edges ++ kept_edges l.links l.place (drop l.target-index l.targets) ≡ l.initial.edges ++ kept_edges l.links l.place l.targets
