-- The values of a compiled catalog.
use Rattle.std.specs.Prelude.{◌≡◌, Bool, false, List, [], ◌∷◌, Option, Some, None, if◌then◌else◌, codes}
use Rattle.std.specs.Str.{bytes_eq}
use Rattle.serde_json.specs.Data.{Data, null, boolean, number, string, array, object, Items, no_items, item, Members, no_members, member}
use Rattle.serde_json.specs.Find.{as_i64, get_member}
use Rattle.pp_value.specs.declared.value.Value.{Value}
use Rattle.pp_value.specs.declared.value.Value.TheVariants as v
use Rattle.pp_value.specs.Table.{or_undef}
use Rattle.pp_value.specs.Values.{Pair, value_at}
use Rattle.pp_eval.specs.Facts.{whole_or_opaque}

-- the text `Sensitive`
abbrev pub is_sensitive : Data → Bool
is_sensitive null = false
is_sensitive (boolean b) = false
is_sensitive (number n) = false
is_sensitive (string text) = bytes_eq text (codes "Sensitive")
is_sensitive (array items) = false
is_sensitive (object _) = false

-- An object that says no type of its own is a map. One of the type `Sensitive` stands for the value that it keeps, undef where it keeps
-- none; one of another type is opaque.
abbrev pub object_value : Option Data → List Pair → Value
object_value None pairs = v.Map pairs
object_value (Some d) pairs = if is_sensitive d then or_undef (value_at (codes "__pvalue") pairs) else v.Opaque

-- As facts are read: null is undef, whole numbers are those of 64 bits with a sign, and other numbers are opaque; but an object may say
-- its type, by the key `__ptype`.
abbrev mutual
  pub value_of : Data → Value
  value_of null = v.Undef
  value_of (boolean b) = v.Bool b
  value_of (number n) = whole_or_opaque (as_i64 n)
  value_of (string text) = v.Str text
  value_of (array items) = v.List (values_of items)
  value_of (object members) = object_value (get_member (codes "__ptype") members) (pairs_of members)

  pub values_of : Items → List Value
  values_of no_items = []
  values_of (item d items) = value_of d ∷ values_of items

  pub pairs_of : Members → List Pair
  pairs_of no_members = []
  pairs_of (member key d members) = (key, value_of d) ∷ pairs_of members

-- no object in it says its type
abbrev mutual
  pub SaysNoType : Data → Type 0
  SaysNoType null = Unit {0}
  SaysNoType (boolean b) = Unit {0}
  SaysNoType (number n) = Unit {0}
  SaysNoType (string text) = Unit {0}
  SaysNoType (array items) = SayNoType items
  SaysNoType (object members) = (get_member (codes "__ptype") members ≡ None) × HaveNoType members

  pub SayNoType : Items → Type 0
  SayNoType no_items = Unit {0}
  SayNoType (item d items) = SaysNoType d × SayNoType items

  pub HaveNoType : Members → Type 0
  HaveNoType no_members = Unit {0}
  HaveNoType (member key d members) = SaysNoType d × HaveNoType members
