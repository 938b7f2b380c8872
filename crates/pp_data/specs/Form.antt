-- The form of class data: which levels a text gives.
use Rattle.std.specs.Prelude.{◌≡◌, ◌⊎◌, ℕ, List, [], ◌∷◌, Option, Some, None, IsUtf8, codes}
use Rattle.serde_json.specs.Data.{Data, object, array, Items, no_items, item, Members, no_members, member}
use Rattle.serde_json.specs.Find.{get_member}
use Rattle.serde_json.specs.Read.{read}
use Rattle.pp_value.specs.Values.{Pair}
use Rattle.pp_eval.specs.Facts.{pairs_of}
use Rattle.pp_data.specs.declared.data.Level.{Level}

-- each key of the object is one of these
abbrev pub HasOnly : (List ℕ → Type 0) → Members → Type 0
HasOnly IsKey no_members = Unit {0}
HasOnly IsKey (member key d members) = IsKey key × HasOnly IsKey members

-- an object, whose values are read as facts are
pub record ArePairs (pairs : List Pair) (d : Data) : Type 0 where
  pub members : Members
  pub is_object : d ≡ object members
  pub are : pairs ≡ pairs_of members

-- what a level asks for: nothing, where `when` is left out
abbrev pub IsWhen : List Pair → Option Data → Type 0
IsWhen pairs None = pairs ≡ []
IsWhen pairs (Some d) = ArePairs pairs d

abbrev pub IsKeyOfLevel : List ℕ → Type 0
IsKeyOfLevel key = (key ≡ codes "when") ⊎ (key ≡ codes "values")

-- {"when": {FACT: VALUE, ..}, "values": {KEY: VALUE, ..}}, where `when` may be left out
pub record IsLevel (level : Level) (d : Data) : Type 0 where
  pub members : Members
  pub is_object : d ≡ object members
  pub only : HasOnly IsKeyOfLevel members
  pub when : IsWhen level.when (get_member (codes "when") members)
  pub given : Data
  pub stands : get_member (codes "values") members ≡ Some given
  pub values : ArePairs level.values given

-- an array of levels, in order
abbrev pub AreLevels : List Level → Items → Type 0
AreLevels [] no_items = Unit {0}
AreLevels [] (item d items) = ⊥
AreLevels (level ∷ levels) no_items = ⊥
AreLevels (level ∷ levels) (item d items) = IsLevel level d × AreLevels levels items

-- {"levels": [LEVEL, ..]}
pub record IsData (levels : List Level) (d : Data) : Type 0 where
  pub members : Members
  pub is_object : d ≡ object members
  pub only : HasOnly (λ key. key ≡ codes "levels") members
  pub items : Items
  pub stands : get_member (codes "levels") members ≡ Some (array items)
  pub are : AreLevels levels items

-- The bytes are UTF-8 and JSON of this form, and these are its levels. Of equal keys of an object the last counts.
pub record AreData (bytes : List ℕ) (levels : List Level) : Type 0 where
  pub text : IsUtf8 bytes
  pub json : Data
  pub is_read : read bytes ≡ Some json
  pub is_data : IsData levels json
