-- What the names of plain resources find: where each has one of its own, its position.
use Rattle.std.proofs.Common.{◌≡◌, ℕ, zero, suc, ◌+◌, ◌<◌, ◌≤◌, Bool, true, false, cond, List, [], ◌∷◌, ◌++◌, length, drop, ◌⊎◌, inl, inr, Option, Some, None, is_some, refl, sym, ap, subst, ◌∙◌, arith, add-one}
use Rattle.std.proofs.lemmas.Option.{none-some, same_Some}
use Rattle.std.specs.Prelude.{slice_index}
use Rattle.std.specs.Str.{bytes_eq}
use Rattle.std.proofs.lemmas.Slice.Eq.{bytes_eq-Decides}
use Rattle.catalog_semantics.specs.Catalogs.{Catalog}
use Rattle.graph_semantics.specs.Graphs.{reference_at}
use Rattle.allowed_order.specs.Names.{position_of, with_name, with_names}
use Rattle.allowed_order.specs.AllowedOrder.{shown_at, AreToldApart}

-- ---- one name more at the end

-- what is found with one more name is found without it, or is that one
last_or_front : (t u : List ℕ) (i j : ℕ) (names : List (List ℕ × ℕ)) → position_of t (names ++ (u, j) ∷ []) ≡ Some i → (position_of t names ≡ Some i) ⊎ ((t ≡ u) × (j ≡ i))
last_or_front t u i j [] h = at (bytes_eq t u) refl h where
  at : (b : Bool) → bytes_eq t u ≡ b → cond b (Some j) None ≡ Some i → (None ≡ Some i) ⊎ ((t ≡ u) × (j ≡ i))
  at true e k = inr ((bytes_eq-Decides t u).0 e, same_Some j i k)
  at false e k = absurd (none-some i k)
last_or_front t u i j (n ∷ names) h = at (last_or_front t u i j names) (bytes_eq t n.0) h where
  at : (position_of t (names ++ (u, j) ∷ []) ≡ Some i → (position_of t names ≡ Some i) ⊎ ((t ≡ u) × (j ≡ i)))
      → (b : Bool) → cond b (Some n.1) (position_of t (names ++ (u, j) ∷ [])) ≡ Some i → (cond b (Some n.1) (position_of t names) ≡ Some i) ⊎ ((t ≡ u) × (j ≡ i))
  at more true k = inl k
  at more false k = more k

-- what is found is found with one more
stays_front : (t u : List ℕ) (i j : ℕ) (names : List (List ℕ × ℕ)) → position_of t names ≡ Some i → position_of t (names ++ (u, j) ∷ []) ≡ Some i
stays_front t u i j [] h = absurd (none-some i h)
stays_front t u i j (n ∷ names) h = at (stays_front t u i j names) (bytes_eq t n.0) h where
  at : (position_of t names ≡ Some i → position_of t (names ++ (u, j) ∷ []) ≡ Some i)
      → (b : Bool) → cond b (Some n.1) (position_of t names) ≡ Some i → cond b (Some n.1) (position_of t (names ++ (u, j) ∷ [])) ≡ Some i
  at more true k = k
  at more false k = more k

-- and so is the one more, where it wasn't there
found_last : (t : List ℕ) (j : ℕ) (names : List (List ℕ × ℕ)) → position_of t names ≡ None → position_of t (names ++ (t, j) ∷ []) ≡ Some j
found_last t j [] h = ap (λ b. cond b (Some j) None) ((bytes_eq-Decides t t).1 refl)
found_last t j (n ∷ names) h = at (found_last t j names) (bytes_eq t n.0) h where
  at : (position_of t names ≡ None → position_of t (names ++ (t, j) ∷ []) ≡ Some j)
      → (b : Bool) → cond b (Some n.1) (position_of t names) ≡ None → cond b (Some n.1) (position_of t (names ++ (t, j) ∷ [])) ≡ Some j
  at more true k = absurd (none-some n.1 (sym k))
  at more false k = more k

-- ---- a place of a list

-- the rest begins with the place at this position
at_place : (all : List ℕ) (n place : ℕ) (plain : List ℕ) → drop n all ≡ place ∷ plain → (slice_index all n ≡ place) × (drop (suc n) all ≡ plain) × (n < length all)
at_place [] zero place plain h = cc
at_place [] (suc n) place plain h = cc
at_place (x ∷ all) zero place plain h = (head h, tail h, omega arith) where
  head : x ∷ all ≡ place ∷ plain → x ≡ place
  head e = cc

  tail : x ∷ all ≡ place ∷ plain → all ≡ plain
  tail e = cc
at_place (x ∷ all) (suc n) place plain h = let rest = at_place all n place plain h in (rest.0, rest.1, omega (arith, rest.2))

-- where nothing is left, the position is past the last
at_end : (all : List ℕ) (n : ℕ) → drop n all ≡ [] → length all ≤ n
at_end [] n h = omega arith
at_end (x ∷ all) zero h = absurd (never h) where
  never : x ∷ all ≡ [] → ⊥
  never e = cc
at_end (x ∷ all) (suc n) h = omega (arith, at_end all n h)

-- ---- names of plain resources

-- what is found is the position of a resource that is shown so
abbrev pub Tells : Catalog → List ℕ → List (List ℕ × ℕ) → Type 0
Tells c all names = (t : List ℕ) (i : ℕ) → position_of t names ≡ Some i → (i < length all) × (t ≡ shown_at c all i)

-- the first n positions are found
abbrev pub Finds : Catalog → List ℕ → ℕ → List (List ℕ × ℕ) → Type 0
Finds c all n names = (i : ℕ) → i < n → position_of (shown_at c all i) names ≡ Some i

-- positions that are found are right with one more name
tells_with : (c : Catalog) (all : List ℕ) (names : List (List ℕ × ℕ)) (u : List ℕ) (n : ℕ) → n < length all → u ≡ shown_at c all n → Tells c all names → Tells c all (with_name names u n)
tells_with c all names u n less is tells t i h = at (is_some (position_of u names)) h where
  last : (position_of t names ≡ Some i) ⊎ ((t ≡ u) × (n ≡ i)) → (i < length all) × (t ≡ shown_at c all i)
  last (inl before) = tells t i before
  last (inr here) = (subst (λ k. k < length all) here.1 less, here.0 ∙ (is ∙ ap (shown_at c all) here.1))

  at : (b : Bool) → position_of t (cond b names (names ++ (u, n) ∷ [])) ≡ Some i → (i < length all) × (t ≡ shown_at c all i)
  at true k = tells t i k
  at false k = last (last_or_front t u i n names k)

-- what is found stays with one more name
kept_with : (names : List (List ℕ × ℕ)) (t u : List ℕ) (i n : ℕ) → position_of t names ≡ Some i → position_of t (with_name names u n) ≡ Some i
kept_with names t u i n h = at (is_some (position_of u names)) where
  at : (b : Bool) → position_of t (cond b names (names ++ (u, n) ∷ [])) ≡ Some i
  at true = h
  at false = stays_front t u i n names h

-- where no two are shown alike, each finds its own position
own_with : (c : Catalog) (all : List ℕ) (names : List (List ℕ × ℕ)) (n : ℕ) → AreToldApart c all → n < length all → Tells c all names → position_of (shown_at c all n) (with_name names (shown_at c all n) n) ≡ Some n
own_with c all names n apart less tells = at (position_of (shown_at c all n) names) refl where
  at : (o : Option ℕ) → position_of (shown_at c all n) names ≡ o → position_of (shown_at c all n) (cond (is_some o) names (names ++ (shown_at c all n, n) ∷ [])) ≡ Some n
  at None e = found_last (shown_at c all n) n names e
  at (Some k) e = let there = tells (shown_at c all n) k e in e ∙ ap Some (sym (apart n k less there.0 there.1))

-- so one position more is found
finds_with : (c : Catalog) (all : List ℕ) (names : List (List ℕ × ℕ)) (u : List ℕ) (n : ℕ) → AreToldApart c all → n < length all → u ≡ shown_at c all n
    → Tells c all names → Finds c all n names → Finds c all (suc n) (with_name names u n)
finds_with c all names u n apart less is tells finds i below = at (below_or_last i n below) where
  below_or_last : (i n : ℕ) → i < suc n → (i < n) ⊎ (n ≡ i)
  below_or_last zero zero h = inr refl
  below_or_last zero (suc n) h = inl (omega arith)
  below_or_last (suc i) zero h = absurd (never i h) where
    never : (i : ℕ) → suc i < 1 → ⊥
    never i h = omega (arith, h)
  below_or_last (suc i) (suc n) h = up (below_or_last i n (omega (arith, h))) where
    up : (i < n) ⊎ (n ≡ i) → (suc i < suc n) ⊎ (suc n ≡ suc i)
    up (inl k) = inl (omega (arith, k))
    up (inr k) = inr (ap suc k)

  at : (i < n) ⊎ (n ≡ i) → position_of (shown_at c all i) (with_name names u n) ≡ Some i
  at (inl before) = kept_with names (shown_at c all i) u i n (finds i before)
  at (inr here) = subst (λ k. position_of (shown_at c all k) (with_name names u n) ≡ Some k) here
      (subst (λ t. position_of (shown_at c all n) (with_name names t n) ≡ Some n) (sym is) (own_with c all names n apart less tells))

-- the reference at the first place of the rest is shown at this position
named_at : (c : Catalog) (all : List ℕ) (n place : ℕ) (plain : List ℕ) → drop n all ≡ place ∷ plain → reference_at c place ≡ shown_at c all n
named_at c all n place plain h = ap (reference_at c) (sym (at_place all n place plain h).0)

-- positions that are found are right with all names
pub tells_all : (c : Catalog) (all : List ℕ) (n : ℕ) (plain : List ℕ) (names : List (List ℕ × ℕ)) → drop n all ≡ plain → Tells c all names → Tells c all (with_names c n plain names)
tells_all c all n [] names h tells = tells
tells_all c all n (place ∷ plain) names h tells =
    let there = at_place all n place plain h in
    tells_all c all (n + 1) plain (with_name names (reference_at c place) n) (subst (λ m. drop m all ≡ plain) (sym (add-one n)) there.1)
    (tells_with c all names (reference_at c place) n there.2 (named_at c all n place plain h) tells)

-- and all positions are found
pub finds_all : (c : Catalog) (all : List ℕ) (n : ℕ) (plain : List ℕ) (names : List (List ℕ × ℕ)) → AreToldApart c all → drop n all ≡ plain → Tells c all names → Finds c all n names
    → Finds c all (length all) (with_names c n plain names)
finds_all c all n [] names apart h tells finds = λ i less. finds i (before i less (at_end all n h)) where
  before : (i : ℕ) → i < length all → length all ≤ n → i < n
  before i less end = omega arith
finds_all c all n (place ∷ plain) names apart h tells finds =
    let there = at_place all n place plain h in
    let is = named_at c all n place plain h in
    finds_all c all (n + 1) plain (with_name names (reference_at c place) n) apart (subst (λ m. drop m all ≡ plain) (sym (add-one n)) there.1)
    (tells_with c all names (reference_at c place) n there.2 is tells)
    (subst (λ m. Finds c all m (with_name names (reference_at c place) n)) (sym (add-one n)) (finds_with c all names (reference_at c place) n apart there.2 is tells finds))

-- ---- the names of all

-- without names nothing is found
no_names : (c : Catalog) (all : List ℕ) → Tells c all []
no_names c all t i h = absurd (none-some i h)

-- what the names of all plain resources find is right
pub names_tell : (c : Catalog) (all : List ℕ) → Tells c all (with_names c 0 all [])
names_tell c all = tells_all c all 0 all [] refl (no_names c all)

-- and where no two are shown alike, they find all
pub names_find : (c : Catalog) (all : List ℕ) → AreToldApart c all → Finds c all (length all) (with_names c 0 all [])
names_find c all apart = finds_all c all 0 all [] apart refl (no_names c all) (λ i less. absurd (never i less)) where
  never : (i : ℕ) → i < 0 → ⊥
  never i h = omega (arith, h)
