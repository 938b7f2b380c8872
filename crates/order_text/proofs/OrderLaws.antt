-- The texts that are read are those of the form, both ways.
use Rattle.std.proofs.Common.{◌≡◌, ℕ, List, [], ◌∷◌, Some, None, option_map, IsUtf8, codes, refl, sym, ap, subst, ◌∙◌}
use Rattle.serde_json.specs.Data.{Data, null, boolean, number, string, array, object, Items, no_items, item}
use Rattle.serde_json.specs.Find.{as_str, as_array}
use Rattle.serde_json.specs.Read.{read}
use Rattle.rh_base.specs.Reading.{◌>>=◌}
use Rattle.rh_base.specs.Refused.{IfRefused, IsRefusal}
use Rattle.rh_base.specs.declared.fault.Fault.{Fault}
use Rattle.rh_base.specs.declared.fault.Fault.TheVariants.{Refused, Memory}
use Rattle.order_text.specs.OrderText.{AreTexts, IsOrderText, texts_of}
use Rattle.rh_base.proofs.Options.{bind_some, map_some}
use Rattle.std.proofs.lemmas.Option.{none-some, same_Some}
use Rattle.json_parts.proofs.DataLaws.{string_is}

-- JSON that gives items is their list
array_is : (d : Data) (items : Items) → Some items ≡ as_array d → d ≡ array items
array_is null items h = absurd (none-some items (sym h))
array_is (boolean b) items h = absurd (none-some items (sym h))
array_is (number n) items h = absurd (none-some items (sym h))
array_is (string s) items h = absurd (none-some items (sym h))
array_is (array found) items h = ap array (same_Some found items (sym h))
array_is (object found) items h = absurd (none-some items (sym h))

-- the texts that are read of items are those of their form
texts_are : (items : Items) (ts : List (List ℕ)) → texts_of items ≡ Some ts → AreTexts ts items
texts_are no_items ts h = subst (λ l. AreTexts l no_items) (same_Some [] ts h) tt
texts_are (item d items) ts h =
    let first = bind_some (as_str d) (λ t. option_map (λ l. t ∷ l) (texts_of items)) ts h in
    let rest = map_some (λ l. first.0 ∷ l) (texts_of items) ts first.2 in
    subst (λ l. AreTexts l (item d items)) rest.2 (string_is d first.0 first.1, texts_are items rest.0 rest.1)

-- and texts of the form are read
texts_back : (items : Items) (ts : List (List ℕ)) → AreTexts ts items → texts_of items ≡ Some ts
texts_back no_items [] h = refl
texts_back no_items (t ∷ ts) h = absurd h
texts_back (item d items) [] h = absurd h
texts_back (item d items) (t ∷ ts) h = ap (λ e. as_str e >>= (λ u. option_map (λ l. u ∷ l) (texts_of items))) h.0 ∙ ap (option_map (λ l. t ∷ l)) (texts_back items ts h.1)

-- bytes are read as one list only
same_items : (bytes : List ℕ) (a b : Items) → read bytes ≡ Some (array a) → read bytes ≡ Some (array b) → a ≡ b
same_items bytes a b e f = at (same_Some (array a) (array b) (sym e ∙ f))
  where
    at : array a ≡ array b → a ≡ b
    at h = cc

-- the texts of an order are read of the list that the bytes are read as
same_texts : (bytes : List ℕ) (items : Items) (ts : List (List ℕ)) → read bytes ≡ Some (array items) → IsOrderText bytes ts → texts_of items ≡ Some ts
same_texts bytes items ts e h = ap texts_of (same_items bytes items h.items e h.is_read) ∙ texts_back h.items ts h.are_texts

-- bytes are the text of one order only
pub one : (bytes : List ℕ) (a b : List (List ℕ)) → IsOrderText bytes a → IsOrderText bytes b → a ≡ b
one bytes a b h k = same_Some a b (sym (texts_back h.items a h.are_texts) ∙ same_texts bytes h.items b h.is_read k)

-- and bytes whose list gives texts are a text of these
pub order_read : (bytes : List ℕ) (json : Data) (items : Items) (ts : List (List ℕ)) → IsUtf8 bytes → read bytes ≡ Some json → Some items ≡ as_array json → texts_of items ≡ Some ts → IsOrderText bytes ts
order_read bytes json items ts text e is h =
    record { text = text; items = items; is_read = e ∙ ap (λ d. Some d) (array_is json items is); are_texts = texts_are items ts h }

-- bytes whose list gives none are a text of none
no_texts : (bytes : List ℕ) (json : Data) (items : Items) → read bytes ≡ Some json → Some items ≡ as_array json → texts_of items ≡ None → (ts : List (List ℕ)) → IsOrderText bytes ts → ⊥
no_texts bytes json items e is n ts h = none-some ts (sym n ∙ same_texts bytes items ts (e ∙ ap (λ d. Some d) (array_is json items is)) h)

-- and a refusal for that comes with it
pub refused_texts : (bytes : List ℕ) (json : Data) (items : Items) (f : Fault) → read bytes ≡ Some json → Some items ≡ as_array json → texts_of items ≡ None → IfRefused f (IsRefusal 63 0 (codes "order"))
    → IfRefused f (λ r. IsRefusal 63 0 (codes "order") r × ((ts : List (List ℕ)) → IsOrderText bytes ts → ⊥))
refused_texts bytes json items (Refused r) e is n h = (h, no_texts bytes json items e is n)
refused_texts bytes json items (Memory m) e is n h = tt
