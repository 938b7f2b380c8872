-- Which values exceed the limits.
use Rattle.std.proofs.Common.{◌≡◌, ℕ, ◌-◌, ◌^◌, ◌<◌, ◌≤◌, min, Bool, true, false, ◌||◌, [], ◌∷◌, Ok, refl, ap, ◌∙◌, arith}
use Rattle.std.specs.Prelude.{nat_lt}
use Rattle.std.proofs.lemmas.Bool.{ltb-true, ltb-false, lt-ltb, le-ltb, or_from}
use Rattle.rh_base.specs.declared.limits.TheConstants.{VALUE_SIZE, VALUE_DEPTH}
use Rattle.pp_value.specs.declared.value.Value.{Value, Row_of-Value, end_of-Value, more_of-Value, items-the_row-Value}
use Rattle.pp_value.specs.declared.value.Value.TheVariants as v
use Rattle.pp_value.specs.Values.{Keys, keyed, size_of, size_of_row, depth_of, depth_of_row, exceeds_limits}
use Rattle.pp_value.specs.Table.{index_table}
use Rattle.pp_value.proofs.Members.{Items, Held, Members, index_so}

-- a number that stops at the greatest u64 is over a lower limit where the test of the number itself says so
over_by : (t : Bool) (limit n : ℕ) → limit < 2 ^ 64 - 1 → nat_lt limit n ≡ t → nat_lt limit (min n (2 ^ 64 - 1)) ≡ t
over_by true limit n low h = let high = ltb-true limit n h in lt-ltb limit (min n (2 ^ 64 - 1)) (omega arith)
over_by false limit n low h = let small = ltb-false limit n h in le-ltb limit (min n (2 ^ 64 - 1)) (omega arith)

-- a number that stops at the greatest u64 is over a lower limit where the number itself is
pub over : (limit n r : ℕ) → limit < 2 ^ 64 - 1 → r ≡ min n (2 ^ 64 - 1) → nat_lt limit r ≡ nat_lt limit n
over limit n r low h = ap (nat_lt limit) h ∙ over_by (nat_lt limit n) limit n low refl

-- ---- members

-- neither larger than this size nor deeper than this depth
pub record Within (size depth : ℕ) (x : Value) : Type 0 where
  pub small : size_of x ≤ size
  pub flat : depth_of x ≤ depth

-- where a disjunction is false its first side is
or_left : (a b : Bool) → (a || b) ≡ false → a ≡ false
or_left true b h = h
or_left false b h = refl

-- and so is its second
pub or_right : (a b : Bool) → (a || b) ≡ false → b ≡ false
or_right true b h = cc
or_right false b h = h

-- a value that doesn't exceed the limits is within them
pub within_is : (x : Value) → exceeds_limits x ≡ false → Within VALUE_SIZE VALUE_DEPTH x
within_is x h = record {
  small = ltb-false VALUE_SIZE (size_of x) (or_left _ (nat_lt VALUE_DEPTH (depth_of x)) h);
  flat = ltb-false VALUE_DEPTH (depth_of x) (or_right (nat_lt VALUE_SIZE (size_of x)) _ h);
}

-- and one within them doesn't exceed them
pub is_within : (x : Value) → Within VALUE_SIZE VALUE_DEPTH x → exceeds_limits x ≡ false
is_within x w =
    or_from _ _ (le-ltb VALUE_SIZE (size_of x) w.small) (le-ltb VALUE_DEPTH (depth_of x) w.flat)

module _ (size depth : ℕ) where
  -- the members of a list are within what the list is within
  items_within : {m : _} (row : Row_of-Value m) → size_of_row row ≤ size → depth_of_row row ≤ depth → Items (Within size depth) (items-the_row-Value _ row)
  items_within end_of-Value h k = tt
  items_within (more_of-Value x row) h k = (record { small = omega arith; flat = omega arith }, items_within row (omega arith) (omega arith))

  -- the values of a map are within what the map is within
  pairs_within : {m : _} (keys : Keys) (row : Row_of-Value m) → size_of_row row ≤ size → depth_of_row row ≤ depth → Held (Within size depth) (keyed keys row)
  pairs_within [] row h k = tt
  pairs_within (k ∷ keys) end_of-Value h d = tt
  pairs_within (k ∷ keys) (more_of-Value x row) h d = (record { small = omega arith; flat = omega arith }, pairs_within keys row (omega arith) (omega arith))

  -- so are the members of each value
  members_within : (a : Value) → Within size depth a → Members (Within size depth) a
  members_within v.Undef w = tt
  members_within (v.Bool b) w = tt
  members_within (v.Int n) w = tt
  members_within (v.Str text) w = tt
  members_within (v.List' s row) w = let small = w.small in let flat = w.flat in items_within row (omega arith) (omega arith)
  members_within (v.Map' keys row) w = let small = w.small in let flat = w.flat in pairs_within keys row (omega arith) (omega arith)
  members_within (v.Refer r) w = tt
  members_within v.Opaque w = tt

-- a member of a value that doesn't exceed the limits doesn't either
pub member_within : (a key x : Value) → exceeds_limits a ≡ false → index_table a key ≡ Ok x → exceeds_limits x ≡ false
member_within a key x h e =
    is_within x (index_so (Within VALUE_SIZE VALUE_DEPTH) (record { small = omega arith; flat = omega arith }) a key x (members_within VALUE_SIZE VALUE_DEPTH a (within_is a h)) e)
