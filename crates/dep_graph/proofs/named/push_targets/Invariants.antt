use Rattle.std.proofs.Common.{◌≡◌, ◌++◌, drop}
use Rattle.dep_graph.specs.Named.{named_among}
use Rattle.dep_graph.proofs.named.push_targets.Given as goal

abbrev pub invariant-loop-place : goal.invariant-loop-place
invariant-loop-place l = l.targets ++ named_among l.catalog l.kind l.name (drop l.place-index l.plain) ≡ l.initial.targets ++ named_among l.catalog l.kind l.name l.plain
