-- The text that is written of an order is one of its texts.
use Rattle.std.proofs.Common.{◌≡◌, ℕ, ◌≤◌, false, List, [], ◌∷◌, map, Some, IsUtf8, refl, ap, subst, ◌∙◌, arith, Vec, Global}
use Rattle.serde_json.specs.Data.{string, array, Items, depth, items_depth}
use Rattle.serde_json.specs.Read.{read, max_depth}
use Rattle.serde_json.specs.View.{items_of, view}
use Rattle.serde_json.specs.Written.{compact_text, has_float, items_have_float}
use Rattle.serde_json.specs.declared.value.Value as json
use Rattle.serde_json.proofs.Views.{view-Array}
use Rattle.order_text.specs.OrderText.{AreTexts, IsOrderText, order_text}

-- the items of these texts
abbrev strings : List (List ℕ) → Items
strings ts = items_of (map string ts)

-- texts have no float
no_float : (ts : List (List ℕ)) → items_have_float (strings ts) ≡ false
no_float [] = refl
no_float (t ∷ ts) = no_float ts

-- and are plain values
shallow : (ts : List (List ℕ)) → items_depth (strings ts) ≤ 0
shallow [] = omega arith
shallow (t ∷ ts) = omega (arith, shallow ts)

-- the items of texts are these texts
are_texts : (ts : List (List ℕ)) → AreTexts ts (strings ts)
are_texts [] = tt
are_texts (t ∷ ts) = (refl, are_texts ts)

-- what is stored with the items of texts is their list
stored_is : (v : Vec json.Value Global) (ts : List (List ℕ)) → map view v.items ≡ map string ts → view (json.Array v) ≡ array (strings ts)
stored_is v ts e = view-Array v ∙ ap (λ ds. array (items_of ds)) e

-- and is written as the text of the order
pub written_text : (v : Vec json.Value Global) (ts : List (List ℕ)) (text : List ℕ) → map view v.items ≡ map string ts
    → (has_float (view (json.Array v)) ≡ false → text ≡ compact_text (view (json.Array v))) → text ≡ order_text ts
written_text v ts text e h = subst (λ d. has_float d ≡ false → text ≡ compact_text d) (stored_is v ts e) h (no_float ts)

-- and what is written is a text of the order
pub written_again : (v : Vec json.Value Global) (ts : List (List ℕ)) (text : List ℕ) → map view v.items ≡ map string ts → IsUtf8 text
    → (depth (view (json.Array v)) ≤ max_depth → read text ≡ Some (view (json.Array v))) → IsOrderText text ts
written_again v ts text e utf8 h =
    record {
      text = utf8;
      items = strings ts;
      is_read = subst (λ d. depth d ≤ max_depth → read text ≡ Some d) (stored_is v ts e) h (omega (arith, shallow ts));
      are_texts = are_texts ts;
    }
