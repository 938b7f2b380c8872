-- The text of an order: a JSON array of references, as they are shown.
use Rattle.std.specs.Prelude.{◌≡◌, ℕ, List, [], ◌∷◌, map, Option, Some, option_map, IsUtf8}
use Rattle.serde_json.specs.Data.{string, array, Items, no_items, item}
use Rattle.serde_json.specs.Find.{as_str}
use Rattle.serde_json.specs.Read.{read}
use Rattle.serde_json.specs.View.{items_of}
use Rattle.serde_json.specs.Written.{compact_text}
use Rattle.rh_base.specs.Reading.{◌>>=◌}

-- the items are these texts, in order
abbrev pub AreTexts : List (List ℕ) → Items → Type 0
AreTexts [] no_items = Unit {0}
AreTexts [] (item d items) = ⊥
AreTexts (t ∷ ts) no_items = ⊥
AreTexts (t ∷ ts) (item d items) = (d ≡ string t) × AreTexts ts items

-- The bytes are UTF-8 and an array of these texts.
pub record IsOrderText (bytes : List ℕ) (ts : List (List ℕ)) : Type 0 where
  pub text : IsUtf8 bytes
  pub items : Items
  pub is_read : read bytes ≡ Some (array items)
  pub are_texts : AreTexts ts items

-- the same, as it is read
abbrev pub texts_of : Items → Option (List (List ℕ))
texts_of no_items = Some []
texts_of (item d items) = as_str d >>= (λ t. option_map (λ ts. t ∷ ts) (texts_of items))

-- the text that is written, without blanks
abbrev pub order_text : List (List ℕ) → List ℕ
order_text ts = compact_text (array (items_of (map string ts)))
