use Rattle.std.proofs.Common.{◌≡◌, ◌++◌, drop, option_map}
use Rattle.serde_json.specs.View.{items_view}
use Rattle.order_text.specs.OrderText.{texts_of}
use Rattle.order_text.proofs.reading.texts_of.Given as goal

-- what was read, with what is still to be read
abbrev pub invariant-loop-item : goal.invariant-loop-item
invariant-loop-item l = option_map (λ more. l.texts ++ more) (texts_of (items_view (drop l.item-index l.items))) ≡ texts_of (items_view l.items)
