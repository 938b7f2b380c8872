-- Steps of reading, and what stands in JSON.
use Rattle.std.proofs.Common.{◌≡◌, ℕ, ◌&&◌, List, [], ◌∷◌, ◌++◌, Option, Some, ap, ◌∙◌}
use Rattle.serde_json.specs.Data.{Data, Num, null, boolean, number, string, array, object, Items}
use Rattle.serde_json.specs.Find.{as_array, as_str, as_number}
use Rattle.rh_base.specs.Reading.{◌>>=◌}
use Rattle.rh_base.proofs.Options.{bind_some}
use Rattle.std.proofs.lemmas.Option.{none-some, same_Some}
use Rattle.json_parts.proofs.DataLaws.{array_is, string_is}

-- ---- what stands in JSON

-- what is read as a number is one
pub number_found : (d : Data) (n : Num) → as_number d ≡ Some n → d ≡ number n
number_found null n h = absurd (none-some n h)
number_found (boolean b) n h = absurd (none-some n h)
number_found (number m) n h = ap number (same_Some m n h)
number_found (string s) n h = absurd (none-some n h)
number_found (array found) n h = absurd (none-some n h)
number_found (object found) n h = absurd (none-some n h)

-- a text that is read at a key stands there
pub text_member : (o : Option Data) (text : List ℕ) → (o >>= as_str) ≡ Some text → o ≡ Some (string text)
text_member o text h = let d = bind_some o as_str text h in d.1 ∙ ap (λ e. Some e) (string_is d.0 text d.2)

-- so does an array
pub items_member : (o : Option Data) (items : Items) → (o >>= as_array) ≡ Some items → o ≡ Some (array items)
items_member o items h = let d = bind_some o as_array items h in d.1 ∙ ap (λ e. Some e) (array_is d.0 items d.2)
