-- The facts of a machine: the value of a JSON object.
use Rattle.std.specs.Prelude.{◌≡◌, ℕ, ℤ, List, [], ◌∷◌, Option, Some, None, IsUtf8}
use Rattle.serde_json.specs.Data.{Data, null, boolean, number, string, array, object, Items, no_items, item, Members, no_members, member}
use Rattle.serde_json.specs.Find.{as_i64}
use Rattle.serde_json.specs.Read.{read}
use Rattle.pp_value.specs.declared.value.Value.{Value}
use Rattle.pp_value.specs.declared.value.Value.TheVariants as v
use Rattle.pp_value.specs.Values.{Pair}

-- a whole number of 64 bits with a sign; any other number is opaque
abbrev pub whole_or_opaque : Option ℤ → Value
whole_or_opaque None = v.Opaque
whole_or_opaque (Some n) = v.Int n

-- null is undef, and an array a list; the pairs of an object come in the byte order of their keys, as what is read has them
abbrev mutual
  pub fact_of : Data → Value
  fact_of null = v.Undef
  fact_of (boolean b) = v.Bool b
  fact_of (number n) = whole_or_opaque (as_i64 n)
  fact_of (string text) = v.Str text
  fact_of (array items) = v.List (facts_of items)
  fact_of (object members) = v.Map (pairs_of members)

  pub facts_of : Items → List Value
  facts_of no_items = []
  facts_of (item d items) = fact_of d ∷ facts_of items

  pub pairs_of : Members → List Pair
  pairs_of no_members = []
  pairs_of (member key d members) = (key, fact_of d) ∷ pairs_of members

-- The bytes are a JSON object of this value.
pub record AreFacts (bytes : List ℕ) (x : Value) : Type 0 where
  pub text : IsUtf8 bytes
  pub members : Members
  pub is_read : read bytes ≡ Some (object members)
  pub value : x ≡ fact_of (object members)
