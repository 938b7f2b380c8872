-- Values: which are equal, which hold an opaque one, and how large and how deep they are.
use Rattle.std.specs.Prelude.{ℕ, ◌+◌, ℤ, Bool, true, false, ◌||◌, ◌&&◌, ◌==◌, nat_lt, max, List, [], ◌∷◌, length, Option, Some, None}
use Rattle.std.specs.Str.{bytes_eq}
use Rattle.std.specs.Ordering.{int_eq}
use Rattle.rh_base.specs.declared.limits.TheConstants.{VALUE_SIZE, VALUE_DEPTH}
pub use Rattle.pp_value.specs.Keys.{value_at, with_pair, HasDistinctKeys}
use Rattle.pp_value.specs.declared.value.Ref.{Ref}
use Rattle.pp_value.specs.declared.value.Value.{Value, Row_of-Value, end_of-Value, more_of-Value, items-the_row-Value}
use Rattle.pp_value.specs.declared.value.Value.TheVariants as v
use Rattle.pp_value.specs.Texts.{same_text}

-- a key and its value
abbrev pub Pair : Type 0
Pair = List ℕ × Value

-- the keys of a map, beside which its values stand in a row
abbrev pub Keys : Type 0
Keys = List (List ℕ × Unit {0})

-- the keys of a map, each with its value
abbrev pub keyed : {m : _} → Keys → Row_of-Value m → List Pair
keyed [] row = []
keyed (k ∷ keys) end_of-Value = []
keyed (k ∷ keys) (more_of-Value x row) = (k.0, x) ∷ keyed keys row

-- ---- one level of a value

abbrev pub is_undef : Value → Bool
is_undef v.Undef = true
is_undef _ = false

-- the test of the truth value, of the number, and so on; no value of another kind passes
abbrev pub on_bool : (Bool → Bool) → Value → Bool
on_bool test (v.Bool b) = test b
on_bool test _ = false

abbrev pub on_int : (ℤ → Bool) → Value → Bool
on_int test (v.Int n) = test n
on_int test _ = false

abbrev pub on_text : (List ℕ → Bool) → Value → Bool
on_text test (v.Str text) = test text
on_text test _ = false

abbrev pub on_list : (List Value → Bool) → Value → Bool
on_list test (v.List' shape row) = test (items-the_row-Value _ row)
on_list test _ = false

abbrev pub on_map : (List Pair → Bool) → Value → Bool
on_map test (v.Map' keys row) = test (keyed keys row)
on_map test _ = false

abbrev pub on_refer : (Ref → Bool) → Value → Bool
on_refer test (v.Refer r) = test r
on_refer test _ = false

-- there is a value, and it passes the test
abbrev pub passes : (Value → Bool) → Option Value → Bool
passes test None = false
passes test (Some x) = test x

-- ---- opaque values

-- an opaque value stands anywhere in it
abbrev mutual
  pub has_opaque : Value → Bool
  has_opaque v.Undef = false
  has_opaque (v.Bool b) = false
  has_opaque (v.Int n) = false
  has_opaque (v.Str text) = false
  has_opaque (v.List' shape row) = opaque_in_row row
  has_opaque (v.Map' keys row) = opaque_in_row row
  has_opaque (v.Refer r) = false
  has_opaque v.Opaque = true

  pub opaque_in_row : {m : _} → Row_of-Value m → Bool
  opaque_in_row end_of-Value = false
  opaque_in_row (more_of-Value x row) = has_opaque x || opaque_in_row row

-- ---- equal values

abbrev pub same_bool : Bool → Bool → Bool
same_bool true b = b
same_bool false true = false
same_bool false false = true

abbrev pub same_int : ℤ → ℤ → Bool
same_int a b = int_eq a b

-- the kind and the exact title
abbrev pub same_ref : Ref → Ref → Bool
same_ref a b = bytes_eq a.kind b.kind && bytes_eq a.title b.title

-- Values of one kind: texts without regard to ASCII case, numbers, truth values and undef by value, lists member by member,
-- maps by their pairs in any order (as many, and each key of the one has an equal value in the other), references by kind and title.
abbrev mutual
  pub same : Value → Value → Bool
  same v.Undef b = is_undef b
  same (v.Bool x) b = on_bool (same_bool x) b
  same (v.Int n) b = on_int (same_int n) b
  same (v.Str text) b = on_text (same_text text) b
  same (v.List' shape row) b = on_list (same_row row) b
  same (v.Map' keys row) b = on_map (λ pairs. (length keys == length pairs) && same_pairs keys row pairs) b
  same (v.Refer r) b = on_refer (same_ref r) b
  same v.Opaque b = false

  pub same_row : {m : _} → Row_of-Value m → List Value → Bool
  same_row end_of-Value [] = true
  same_row end_of-Value (y ∷ ys) = false
  same_row (more_of-Value x row) [] = false
  same_row (more_of-Value x row) (y ∷ ys) = same x y && same_row row ys

  pub same_pairs : {m : _} → Keys → Row_of-Value m → List Pair → Bool
  same_pairs [] row pairs = true
  same_pairs (k ∷ keys) end_of-Value pairs = true
  same_pairs (k ∷ keys) (more_of-Value x row) pairs = passes (same x) (value_at k.0 pairs) && same_pairs keys row pairs

-- ---- sizes

abbrev pub size_of_keys : Keys → ℕ
size_of_keys [] = 0
size_of_keys (k ∷ keys) = (1 + length k.0) + size_of_keys keys

-- 1 for undef, truth values, numbers and opaque values; 1 and the bytes for texts, and for both texts of a reference;
-- 1 and the sizes of the members for a list; 1 and for each pair 1, the bytes of the key and the size of the value for a map
abbrev mutual
  pub size_of : Value → ℕ
  size_of v.Undef = 1
  size_of (v.Bool b) = 1
  size_of (v.Int n) = 1
  size_of (v.Str text) = 1 + length text
  size_of (v.List' shape row) = 1 + size_of_row row
  size_of (v.Map' keys row) = 1 + (size_of_keys keys + size_of_row row)
  size_of (v.Refer r) = 1 + (length r.kind + length r.title)
  size_of v.Opaque = 1

  pub size_of_row : {m : _} → Row_of-Value m → ℕ
  size_of_row end_of-Value = 0
  size_of_row (more_of-Value x row) = size_of x + size_of_row row

-- ---- depth

-- none for what has no members; a list and a map nest one level deeper than the deepest of their members
abbrev mutual
  pub depth_of : Value → ℕ
  depth_of v.Undef = 0
  depth_of (v.Bool b) = 0
  depth_of (v.Int n) = 0
  depth_of (v.Str text) = 0
  depth_of (v.List' shape row) = 1 + depth_of_row row
  depth_of (v.Map' keys row) = 1 + depth_of_row row
  depth_of (v.Refer r) = 0
  depth_of v.Opaque = 0

  pub depth_of_row : {m : _} → Row_of-Value m → ℕ
  depth_of_row end_of-Value = 0
  depth_of_row (more_of-Value x row) = max (depth_of x) (depth_of_row row)

-- ---- limits

-- it is larger than a value may be, or nests deeper
abbrev pub exceeds_limits : Value → Bool
exceeds_limits x = nat_lt VALUE_SIZE (size_of x) || nat_lt VALUE_DEPTH (depth_of x)
