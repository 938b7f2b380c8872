-- Values as compact JSON (RFC 8259); the members of an object stand in the byte order of their keys.
use Rattle.std.specs.Prelude.{◌≡◌, ℕ, List, [], ◌∷◌, map, refl}
use Rattle.std.proofs.Common.{ap}
use Rattle.serde_json.specs.Data.{Data, null, boolean, number, string, array, object, Items, no_items, item, Members, no_members, put}
use Rattle.serde_json.specs.Find.{of_integer}
use Rattle.serde_json.specs.View.{items_of}
use Rattle.serde_json.specs.Written.{compact_text}
use Rattle.pp_value.specs.declared.value.Value.{Value, Row_of-Value, end_of-Value, more_of-Value}
use Rattle.pp_value.specs.declared.value.Value.TheVariants as v
use Rattle.pp_value.specs.declared.value.Value.TheBlock as block
use Rattle.pp_value.specs.Values.{Keys, Pair}
use Rattle.pp_value.specs.Shown.{shown_ref}

-- undef is null, and a reference its shown text; an opaque value, which stands in no catalog, is null
abbrev mutual
  pub data_of : Value → Data
  data_of v.Undef = null
  data_of (v.Bool b) = boolean b
  data_of (v.Int n) = number (of_integer n)
  data_of (v.Str text) = string text
  data_of (v.List' shape row) = array (data_row row)
  data_of (v.Map' keys row) = object (data_keyed no_members keys row)
  data_of (v.Refer r) = string (shown_ref r)
  data_of v.Opaque = null

  pub data_row : {m : _} → Row_of-Value m → Items
  data_row end_of-Value = no_items
  data_row (more_of-Value x row) = item (data_of x) (data_row row)

  pub data_keyed : {m : _} → Members → Keys → Row_of-Value m → Members
  data_keyed members [] row = members
  data_keyed members (k ∷ keys) end_of-Value = members
  data_keyed members (k ∷ keys) (more_of-Value x row) = data_keyed (put k.0 (data_of x) members) keys row

-- without blanks
abbrev pub json : Value → List ℕ
json x = compact_text (data_of x)

-- ---- the same in the words of lists

-- these members, and then those of the pairs
abbrev pub members_with : Members → List Pair → Members
members_with members [] = members
members_with members (p ∷ pairs) = members_with (put p.0 (data_of p.1) members) pairs

pub data_list : (xs : List Value) → data_of (v.List xs) ≡ array (items_of (map data_of xs))
unfolding block.hidden-the_row-Value-0 denote.Hole.Carrier.hidden
data_list xs = ap array (rows xs)
  where
    rows : (xs : List Value) → data_row (block.hidden-the_row-Value-0 xs) ≡ items_of (map data_of xs)
    rows [] = refl
    rows (x ∷ xs) = ap (λ items. item (data_of x) items) (rows xs)

pub data_map : (xs : List Pair) → data_of (v.Map xs) ≡ object (members_with no_members xs)
unfolding block.shape-the_row-Value-1 block.hidden-the_row-Value-1 denote.Hole.Carrier.hidden
data_map xs = ap object (rows no_members xs)
  where
    rows : (so_far : Members) (xs : List Pair)
        → data_keyed so_far (block.shape-the_row-Value-1 xs) (block.hidden-the_row-Value-1 xs) ≡ members_with so_far xs
    rows so_far [] = refl
    rows so_far (p ∷ xs) = rows (put p.0 (data_of p.1) so_far) xs
