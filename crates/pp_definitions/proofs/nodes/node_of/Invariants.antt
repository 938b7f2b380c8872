use Rattle.std.proofs.Common.{◌≡◌, drop}
use Rattle.std.specs.Prelude.{option_map}
use Rattle.catalog_semantics.specs.Sites.{node_of}
use Rattle.pp_definitions.proofs.nodes.node_of.Given as goal

abbrev pub invariant-loop-node : goal.invariant-loop-node
invariant-loop-node l = node_of (option_map (λ x. x.now) l.name) (drop l.node-index l.nodes) ≡ node_of (option_map (λ x. x.now) l.name) l.nodes
