-- Equality is symmetric, where maps have distinct keys.
use Rattle.std.proofs.Common.{◌≡◌, ℕ, ℤ, Bool, true, false, cond, ◌&&◌, ◌||◌, ◌==◌, List, [], ◌∷◌, length, Option, Some, None, Ok, Err, refl, ap, sym, ◌∙◌, subst, arith}
use Rattle.std.specs.List.{AllByRecursion}
use Rattle.std.specs.Ordering.{int_eq}
use Rattle.std.specs.Str.{bytes_eq}
use Rattle.std.proofs.lemmas.Slice.Eq.{bytes_eq-Decides}
use Rattle.std.proofs.lemmas.Bool.Decides.{Decides-int_eq, Decides-eqb}
use mathlib.Core.Former.{this, arity}
use Rattle.pp_value.specs.formers.keyed.Keyed.{the_former}
use Rattle.pp_value.specs.declared.value.Ref.{Ref}
use Rattle.pp_value.specs.declared.value.Value.{Value, Row_of-Value, end_of-Value, more_of-Value, items-the_row-Value}
use Rattle.pp_value.specs.declared.value.Value.TheVariants as v
use Rattle.pp_value.specs.declared.fault.Misfit.TheVariants.{Operand}
use Rattle.pp_value.specs.Texts.{lowered}
use Rattle.pp_value.specs.Values.{Pair, Keys, keyed, value_at, passes, HasDistinctKeys, has_opaque, same, same_row, same_pairs, same_bool, same_ref}
use Rattle.pp_value.specs.Table.{equal_table}
use Rattle.pp_value.specs.Proper.{IsProper, AreProper}
use Rattle.pp_value.proofs.Distinct.{by_test, same_key, key_itself, at_first, at_later, AllIn, each_back}
use Rattle.pp_value.proofs.PlaceLaws.{one_bool}
use Rattle.std.proofs.lemmas.Bool.{and_from}

-- ---- truth values

-- where a conjunction holds its first side does
and_left : (a b : Bool) → (a && b) ≡ true → a ≡ true
and_left true b h = refl
and_left false b h = h

-- and so does its second
and_right : (a b : Bool) → (a && b) ≡ true → b ≡ true
and_right true b h = h
and_right false b h = cc

-- ---- what has no members

-- truth values are equal in both directions
bool_back : (a b : Bool) → same_bool a b ≡ true → same_bool b a ≡ true
bool_back true true h = refl
bool_back true false h = h
bool_back false true h = h
bool_back false false h = refl

-- so are numbers
int_back : (a b : ℤ) → int_eq a b ≡ true → int_eq b a ≡ true
int_back a b h = (Decides-int_eq b a).1 (sym ((Decides-int_eq a b).0 h))

-- so are texts
bytes_back : (a b : List ℕ) → bytes_eq a b ≡ true → bytes_eq b a ≡ true
bytes_back a b h = (bytes_eq-Decides b a).1 (sym ((bytes_eq-Decides a b).0 h))

-- so are references
ref_back : (a b : Ref) → same_ref a b ≡ true → same_ref b a ≡ true
ref_back a b h = and_from _ _ (bytes_back a.kind b.kind (and_left _ _ h)) (bytes_back a.title b.title (and_right (bytes_eq a.kind b.kind) _ h))

-- ---- pairs

-- the key has a value in the map, which is equal to the pair's
abbrev Matches : List Pair → Pair → Type 0
Matches ys p = (y : Value) × ((value_at p.0 ys ≡ Some y) × (same y p.1 ≡ true))

-- so it is of each pair
abbrev Alike : List Pair → List Pair → Type 0
Alike ys xs = AllByRecursion (Matches ys) xs

-- keys of pairs that match stand in the map
all_in : (xs ys : List Pair) → Alike ys xs → AllIn ys xs
all_in [] ys all = tt
all_in (p ∷ xs) ys all = ((λ none. let clash : ◌≡◌ {A = Option Value} (Some all.0.0) None = sym all.0.1.0 ∙ none in cc), all_in xs ys all.1)

-- what a key has among such pairs has an equal in the map
at_key : (xs ys : List Pair) (key : List ℕ) (x : Value) → Alike ys xs → value_at key xs ≡ Some x → (y : Value) × ((value_at key ys ≡ Some y) × (same y x ≡ true))
at_key [] ys key x all h = cc
at_key (p ∷ xs) ys key x all h =
    by_test (bytes_eq p.0 key) ((y : Value) × ((value_at key ys ≡ Some y) × (same y x ≡ true)))
    (λ e.
    let value : p.1 ≡ x = let both : ◌≡◌ {A = Option Value} (Some p.1) (Some x) = sym (at_first key p xs e) ∙ h in cc in
    (all.0.0, (ap (λ k. value_at k ys) (sym (same_key p.0 key e)) ∙ all.0.1.0, ap (same all.0.0) (sym value) ∙ all.0.1.1)))
    (λ e. at_key xs ys key x all.1 (sym (at_later key p xs e) ∙ h))

-- where the keys are as many, what a key has in the map has an equal among the pairs
back_at : (xs ys : List Pair) (key : List ℕ) (y : Value) (o : Option Value) → value_at key xs ≡ o → HasDistinctKeys xs → Alike ys xs → length xs ≡ length ys → value_at key ys ≡ Some y → passes (same y) o ≡ true
back_at xs ys key y (Some x) e distinct all many h =
    let found = at_key xs ys key x all e in
    let value : found.0 ≡ y = let both : ◌≡◌ {A = Option Value} (Some found.0) (Some y) = sym found.1.0 ∙ h in cc in
    ap (λ z. same z x) (sym value) ∙ found.1.1
back_at xs ys key y None e distinct all many h =
    absurd (each_back xs ys key distinct (all_in xs ys all) many (λ none. let clash : ◌≡◌ {A = Option Value} (Some y) None = sym h ∙ none in cc) e)

-- the value of a key further on is that of the whole
further : (p : Pair) (pairs : List Pair) (key : List ℕ) (y : Value) → value_at p.0 pairs ≡ None → value_at key pairs ≡ Some y → value_at key (p ∷ pairs) ≡ Some y
further p pairs key y none h =
    by_test (bytes_eq p.0 key) (value_at key (p ∷ pairs) ≡ Some y)
    (λ e. let clash : ◌≡◌ {A = Option Value} (Some y) None = sym h ∙ (ap (λ k. value_at k pairs) (sym (same_key p.0 key e)) ∙ none) in cc)
    (λ e. at_later key p pairs e ∙ h)

-- pairs whose values have equals in a map are the same as in it
pairs_back : {m : _} (keys : Keys) (row : Row_of-Value m) (xs : List Pair) → HasDistinctKeys (keyed keys row) → ((key : List ℕ) (y : Value) → value_at key (keyed keys row) ≡ Some y → passes (same y) (value_at key xs) ≡ true) → same_pairs keys row xs ≡ true
pairs_back [] row xs distinct f = refl
pairs_back (k ∷ keys) end_of-Value xs distinct f = refl
pairs_back (k ∷ keys) (more_of-Value x row) xs distinct f =
    and_from _ _ (f k.0 x (at_first k.0 (k.0, x) (keyed keys row) (key_itself k.0)))
    (pairs_back keys row xs distinct.1 (λ key y h. f key y (further (k.0, x) (keyed keys row) key y distinct.0 h)))

-- beside each key stands a value
count_keys : (keys : Keys) (row : Row_of-Value (arity (the_former this) keys)) → length keys ≡ length (keyed keys row)
count_keys [] row = refl
count_keys (k ∷ keys) (more_of-Value x row) = let rest = count_keys keys row in omega arith

-- the value of a key is proper where all in the row are
value_proper : {m : _} (keys : Keys) (row : Row_of-Value m) (key : List ℕ) (y : Value) → AreProper row → value_at key (keyed keys row) ≡ Some y → IsProper y
value_proper [] row key y all h = cc
value_proper (k ∷ keys) end_of-Value key y all h = cc
value_proper (k ∷ keys) (more_of-Value x row) key y all h =
    by_test (bytes_eq k.0 key) (IsProper y)
    (λ e. let value : x ≡ y = let both : ◌≡◌ {A = Option Value} (Some x) (Some y) = sym (at_first key (k.0, x) (keyed keys row) e) ∙ h in cc in subst IsProper value all.0)
    (λ e. value_proper keys row key y all.1 (sym (at_later key (k.0, x) (keyed keys row) e) ∙ h))

-- a value that passes against that of its key matches it
one_alike : {n : _} (key : List ℕ) (x : Value) (others : Keys) (other : Row_of-Value n) (o : Option Value) → value_at key (keyed others other) ≡ o → ((y : Value) → IsProper y → same x y ≡ true → same y x ≡ true) → AreProper other → passes (same x) o ≡ true → Matches (keyed others other) (key, x)
one_alike key x others other (Some y) e back q h = (y, (e, back y (value_proper others other key y q e) h))
one_alike key x others other None e back q h = cc

-- ---- values

mutual
  -- a value that is equal to another is so the other way round
  same_back : (a b : Value) → IsProper a → IsProper b → same a b ≡ true → same b a ≡ true
  same_back v.Undef v.Undef p q h = refl
  same_back (v.Bool x) (v.Bool y) p q h = bool_back x y h
  same_back (v.Int x) (v.Int y) p q h = int_back x y h
  same_back (v.Str x) (v.Str y) p q h = bytes_back (lowered x) (lowered y) h
  same_back (v.List' s row) (v.List' s' row') p q h = rows_back row row' p q h
  same_back (v.Map' keys row) (v.Map' others other) p q h =
      let xs = keyed keys row in
      let ys = keyed others other in
      let many : length xs ≡ length ys = sym (count_keys keys row) ∙ (Decides-eqb (length keys) (length ys)).0 (and_left _ _ h) in
      let all : Alike ys xs = alike keys row others other p.1 q.1 (and_right (length keys == length ys) _ h) in
      and_from _ _ ((Decides-eqb (length others) (length xs)).1 (count_keys others other ∙ sym many))
      (pairs_back others other xs q.0 (λ key y e. back_at xs ys key y (value_at key xs) refl p.0 all many e))
  same_back (v.Refer x) (v.Refer y) p q h = ref_back x y h
  same_back _ _ p q h = cc

  -- so are lists, member by member
  rows_back : {m n : _} (row : Row_of-Value m) (other : Row_of-Value n) → AreProper row → AreProper other → same_row row (items-the_row-Value _ other) ≡ true → same_row other (items-the_row-Value _ row) ≡ true
  rows_back end_of-Value end_of-Value p q h = refl
  rows_back end_of-Value (more_of-Value y other) p q h = h
  rows_back (more_of-Value x row) end_of-Value p q h = h
  rows_back (more_of-Value x row) (more_of-Value y other) p q h =
      and_from _ _ (same_back x y p.0 q.0 (and_left _ _ h)) (rows_back row other p.1 q.1 (and_right (same x y) _ h))

  -- the pairs of a map that is the same as another match those of the other
  alike : {m n : _} (keys : Keys) (row : Row_of-Value m) (others : Keys) (other : Row_of-Value n) → AreProper row → AreProper other → same_pairs keys row (keyed others other) ≡ true → Alike (keyed others other) (keyed keys row)
  alike [] row others other p q h = tt
  alike (k ∷ keys) end_of-Value others other p q h = tt
  alike (k ∷ keys) (more_of-Value x row) others other p q h = (
    one_alike k.0 x others other (value_at k.0 (keyed others other)) refl (λ y r. same_back x y p.0 r) q (and_left _ _ h),
    alike keys row others other p.1 q (and_right (passes (same x) (value_at k.0 (keyed others other))) _ h),
  )

-- a disjunction is the same the other way round
or_back : (a b : Bool) → (a || b) ≡ (b || a)
or_back true true = refl
or_back true false = refl
or_back false true = refl
or_back false false = refl

-- `==` answers alike in both directions, where maps have distinct keys
pub symmetric : (a b : Value) → IsProper a → IsProper b → equal_table a b ≡ equal_table b a
symmetric a b p q =
    let opaque = or_back (has_opaque a) (has_opaque b) in
    let equal = one_bool (same a b) (same b a) (same_back a b p q) (same_back b a q p) in
    λ i. cond (opaque i) (Err Operand) (Ok (equal i))
