use Rattle.std.proofs.Common.{◌≡◌, ◌++◌, drop, option_map}
use Rattle.serde_json.specs.View.{items_view}
use Rattle.compiled_text.specs.Reading.{edges_of}
use Rattle.compiled_text.proofs.edges.edges_of.Given as goal

-- what was read, with what is still to be read
abbrev pub invariant-loop-item : goal.invariant-loop-item
invariant-loop-item l = option_map (λ more. l.edges ++ more) (edges_of l.resources (items_view (drop l.item-index l.items))) ≡ edges_of l.resources (items_view l.items)
