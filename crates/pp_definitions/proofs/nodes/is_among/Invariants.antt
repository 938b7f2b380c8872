use Rattle.std.proofs.Common.{◌≡◌, drop}
use Rattle.std.specs.Prelude.{option_map}
use Rattle.std.specs.List.{list_any}
use Rattle.catalog_semantics.specs.Sites.{is_same_node}
use Rattle.pp_definitions.proofs.nodes.is_among.Given as goal

abbrev pub invariant-loop-own : goal.invariant-loop-own
invariant-loop-own l = list_any (is_same_node (option_map (λ x. x.now) l.name)) (drop l.own-index l.names) ≡ list_any (is_same_node (option_map (λ x. x.now) l.name)) l.names
