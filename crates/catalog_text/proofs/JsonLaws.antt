-- The JSON of a value has no number with a fraction.
use Rattle.std.proofs.Common.{◌≡◌, ℕ, Bool, true, false, ◌||◌, List, [], ◌∷◌, ℤ, pos, negsuc, refl, ap, ap₂}
use Rattle.std.specs.declared.cmp.Ordering.{Ordering}
use Rattle.std.specs.declared.cmp.Ordering.TheVariants.{Less, Equal, Greater}
use Rattle.std.specs.Ordering.{nat_cmp, match_ordering}
use Rattle.std.specs.Cmp.Lexicographic.{slice_cmp}
use Rattle.serde_json.specs.Data.{Data, number, Members, no_members, member, put}
use Rattle.serde_json.specs.Find.{of_integer}
use Rattle.serde_json.specs.Written.{has_float, items_have_float, members_have_float}
use Rattle.pp_value.specs.declared.value.Value.{Value, Row_of-Value, end_of-Value, more_of-Value}
use Rattle.pp_value.specs.declared.value.Value.TheVariants as v
use Rattle.pp_value.specs.Values.{Keys}
use Rattle.catalog_text.specs.Json.{data_of, data_row, data_keyed}

-- a whole number has no fraction
whole : (n : ℤ) → has_float (number (of_integer n)) ≡ false
whole (pos n) = refl
whole (negsuc n) = refl

-- one more member without a fraction leaves the object without
none_put : (k : List ℕ) (d : Data) (ms : Members) → has_float d ≡ false → members_have_float ms ≡ false → members_have_float (put k d ms) ≡ false
none_put k d no_members h none = ap (λ b. b || false) h
none_put k d (member l e ms) h none = at (slice_cmp nat_cmp k l) (left (has_float e) (members_have_float ms) none) (none_put k d ms h (right (has_float e) (members_have_float ms) none))
  where
    left : (a b : Bool) → (a || b) ≡ false → a ≡ false
    left true b x = cc
    left false b x = refl

    right : (a b : Bool) → (a || b) ≡ false → b ≡ false
    right true b x = cc
    right false b x = x

    at : (o : Ordering) → has_float e ≡ false → members_have_float (put k d ms) ≡ false
        → members_have_float (match_ordering o (member k d (member l e ms)) (member l d ms) (member l e (put k d ms))) ≡ false
    at Less this later = ap₂ (λ a b. a || b) h none
    at Equal this later = ap₂ (λ a b. a || b) h (right (has_float e) (members_have_float ms) none)
    at Greater this later = ap₂ (λ a b. a || b) this later

mutual
  -- a value has no number with a fraction
  pub no_float : (x : Value) → has_float (data_of x) ≡ false
  no_float v.Undef = refl
  no_float (v.Bool b) = refl
  no_float (v.Int n) = whole n
  no_float (v.Str text) = refl
  no_float (v.List' shape row) = row_without row
  no_float (v.Map' keys row) = keyed_without no_members keys row refl
  no_float (v.Refer r) = refl
  no_float v.Opaque = refl

  -- nor has a list of values
  row_without : {m : _} (row : Row_of-Value m) → items_have_float (data_row row) ≡ false
  row_without end_of-Value = refl
  row_without (more_of-Value x row) = ap₂ (λ a b. a || b) (no_float x) (row_without row)

  -- nor has a map, behind members that have none
  keyed_without : {m : _} (so_far : Members) (keys : Keys) (row : Row_of-Value m) → members_have_float so_far ≡ false → members_have_float (data_keyed so_far keys row) ≡ false
  keyed_without so_far [] row none = none
  keyed_without so_far (k ∷ keys) end_of-Value none = none
  keyed_without so_far (k ∷ keys) (more_of-Value x row) none = keyed_without (put k.0 (data_of x) so_far) keys row (none_put k.0 (data_of x) so_far (no_float x) none)
