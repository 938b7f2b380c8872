-- What each member of a list or of a map is, a member that is looked for is too.
use Rattle.std.proofs.Common.{◌≡◌, ℕ, zero, suc, ℤ, pos, negsuc, ◌+◌, ◌-◌, Bool, true, false, cond, List, [], ◌∷◌, length, Option, Some, None, Result, Ok, sym, subst}
use Rattle.std.specs.Prelude.{slice_get, nat_lt}
use Rattle.std.specs.List.{AllByRecursion}
use Rattle.std.specs.Str.{bytes_eq}
use Rattle.pp_value.specs.declared.value.Value.{Value, items-the_row-Value}
use Rattle.pp_value.specs.declared.value.Value.TheVariants as v
use Rattle.pp_value.specs.declared.fault.Misfit.{Misfit}
use Rattle.pp_value.specs.Values.{Pair, keyed, value_at}
use Rattle.pp_value.specs.Table.{index_table, or_undef, member_at}
use Rattle.pp_value.proofs.Distinct.{by_test, at_first, at_later}

module _ (P : Value → Type 0) where
  -- so of each member of a list
  abbrev pub Items : List Value → Type 0
  Items xs = AllByRecursion P xs

  -- so of the value of each pair
  abbrev pub Held : List Pair → Type 0
  Held xs = AllByRecursion (λ p. P p.1) xs

  -- the members of a list, or the values of a map
  abbrev pub Members : Value → Type 0
  Members (v.List' s row) = Items (items-the_row-Value _ row)
  Members (v.Map' keys row) = Held (keyed keys row)
  Members _ = Unit {0}

  -- so of a value, if there is one
  abbrev IfSo : Option Value → Type 0
  IfSo None = Unit {0}
  IfSo (Some x) = P x

  -- so of the value of a key, if it has one
  at_key : (key : List ℕ) (xs : List Pair) → Held xs → IfSo (value_at key xs)
  at_key key [] h = tt
  at_key key (p ∷ xs) h =
      by_test (bytes_eq p.0 key) (IfSo (value_at key (p ∷ xs)))
      (λ e. subst IfSo (sym (at_first key p xs e)) h.0)
      (λ e. subst IfSo (sym (at_later key p xs e)) (at_key key xs h.1))

  -- so of the member at a place, if there is one
  get_so : (xs : List Value) (n : ℕ) → Items xs → IfSo (slice_get xs n)
  get_so [] n h = tt
  get_so (x ∷ xs) zero h = h.0
  get_so (x ∷ xs) (suc n) h = get_so xs n h.1

  module _ (undef : P v.Undef) where
    -- so of what is found, or of undef
    found_so : (o : Option Value) → IfSo o → P (or_undef o)
    found_so None h = undef
    found_so (Some x) h = h

    -- so of a member counted from the end, or of undef
    from_end_so : (xs : List Value) (n : ℕ) (t : Bool) → Items xs → P (cond t (or_undef (slice_get xs n)) v.Undef)
    from_end_so xs n true h = found_so (slice_get xs n) (get_so xs n h)
    from_end_so xs n false h = undef

    -- so of the member at a number
    member_so : (xs : List Value) (n : ℤ) → Items xs → P (member_at xs n)
    member_so xs (pos n) h = found_so (slice_get xs n) (get_so xs n h)
    member_so xs (negsuc n) h = from_end_so xs (length xs - (n + 1)) (nat_lt n (length xs)) h

    -- so of an equal result
    same_so : (x y : Value) → P x → ◌≡◌ {A = Result Value Misfit} (Ok x) (Ok y) → P y
    same_so x y p h = let same : x ≡ y = cc in subst P same p

    -- so of what an index gives
    pub index_so : (a key x : Value) → Members a → index_table a key ≡ Ok x → P x
    index_so (v.List' s row) (v.Int n) x h e = same_so (member_at (items-the_row-Value _ row) n) x (member_so (items-the_row-Value _ row) n h) e
    index_so (v.Map' keys row) (v.Str key) x h e = same_so (or_undef (value_at key (keyed keys row))) x (found_so (value_at key (keyed keys row)) (at_key key (keyed keys row) h)) e
    index_so _ _ x h e = cc
