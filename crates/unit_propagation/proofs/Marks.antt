-- Laws of the marks of literals that hold.
use Rattle.std.proofs.Common.{◌≡◌, ◌⊎◌, inl, inr, ℕ, zero, suc, ◌+◌, ◌-◌, ◌*◌, ◌/◌, ◌%◌, ◌<◌, ◌≤◌, ◌^◌, Bool, true, false, true≢false, ◌||◌, if◌then◌else◌, List, [], ◌∷◌, ◌++◌, length, take, map, Option, None, Some, get_or, refl, sym, ap, ◌∙◌, subst, arith}
use Rattle.std.specs.Prelude.{◌==◌}
use Rattle.std.proofs.Math.ListN.{set, length-set}
use Rattle.std.proofs.Common.{get_or-set_other, get_or-set_same, length-append}
use Rattle.std.proofs.lemmas.Bool.{eqb-true, eq-eqb, ne_eqb, cases_eq, or_cases}
use Rattle.std.proofs.lemmas.List.Folds.{list_any-append, list_any_at}
use Rattle.unit_propagation.specs.Literals.{opposite, has}
use Rattle.unit_propagation.specs.Trails.{IsKept, reason_of}
use Rattle.unit_propagation.specs.Trails.{IsApart}

-- ---- literals and their opposites
-- the opposite of a positive literal, whose index is even, is the next one, that of a negative literal the one before
pub opposite_cases : (w : ℕ) → ((w % 2 ≡ 0) × (opposite w ≡ w + 1)) ⊎ ((w % 2 ≡ 1) × (opposite w ≡ w - 1))
opposite_cases w = elim (cases_eq (w % 2) 0) [
  | inl e ↦ inl (e, ap (λ b. if b then w + 1 else w - 1) (eq-eqb (w % 2) 0 e))
  | inr n ↦ inr (omega arith, ap (λ b. if b then w + 1 else w - 1) (ne_eqb (w % 2) 0 n))
]

-- the opposite of a literal over n variables is over n variables, too
pub opposite_below : (w n : ℕ) → w < 2 * n → opposite w < 2 * n
opposite_below w n h = elim (opposite_cases w) [ inl e ↦ omega arith | inr e ↦ omega arith ]

-- the opposite of the opposite is the literal itself
pub opposite_twice : (w : ℕ) → opposite (opposite w) ≡ w
opposite_twice w = elim (opposite_cases w) [
  | inl e ↦ elim (opposite_cases (opposite w)) [ inl f ↦ omega arith | inr f ↦ omega arith ]
  | inr e ↦ elim (opposite_cases (opposite w)) [ inl f ↦ omega arith | inr f ↦ omega arith ]
]

-- no literal is its opposite
pub opposite_differs : (w : ℕ) → opposite w ≡ w → ⊥
opposite_differs w h = elim (opposite_cases w) [ inl e ↦ omega arith | inr e ↦ omega arith ]

-- two literals of one variable are equal or opposite
pub same_half : (x w : ℕ) → x / 2 ≡ w / 2 → (x ≡ w) ⊎ (x ≡ opposite w)
same_half x w h = elim (opposite_cases w) [
  | inl e ↦ elim (cases_eq x w) [ inl s ↦ inl s | inr n ↦ inr (omega arith) ]
  | inr e ↦ elim (cases_eq x w) [ inl s ↦ inl s | inr n ↦ inr (omega arith) ]
]

-- ---- what stands in a list
-- a literal stands in a list with one more exactly where it stood there, or is the new one
pub has_more : (t : List ℕ) (w v : ℕ) → has (t ++ w ∷ []) v ≡ (has t v || ((v == w) || false))
has_more t w v = list_any-append (λ x. v == x) t (w ∷ [])

-- false adds nothing to a disjunction
or_false : (a : Bool) → (a || (false || false)) ≡ a
or_false true = refl
or_false false = refl

-- a disjunction with true is true
or_true : (a : Bool) → (a || (true || false)) ≡ true
or_true true = refl
or_true false = refl

-- the literal that is put last stands in the list
pub has_last : (t : List ℕ) (w : ℕ) → has (t ++ w ∷ []) w ≡ true
has_last t w = has_more t w w ∙ ap (λ b. has t w || (b || false)) (eq-eqb w w refl) ∙ or_true (has t w)

-- of literals other than the new one nothing changes
pub has_other : (t : List ℕ) (w v : ℕ) → (v ≡ w → ⊥) → has (t ++ w ∷ []) v ≡ has t v
has_other t w v n = has_more t w v ∙ ap (λ b. has t v || (b || false)) (ne_eqb v w n) ∙ or_false (has t v)

-- what stood in a list stands there with one more literal
pub has_kept : (t : List ℕ) (w v : ℕ) → has t v ≡ true → has (t ++ w ∷ []) v ≡ true
has_kept t w v h = has_more t w v ∙ ap (λ b. b || ((v == w) || false)) h

-- the literal at a place of a list stands in it
pub has_at : (t : List ℕ) (p : ℕ) → p < length t → has t (get_or t p 0) ≡ true
has_at t p h = list_any_at (λ x. get_or t p 0 == x) t p 0 h (eq-eqb (get_or t p 0) (get_or t p 0) refl)

-- the literals from before keep their places when one is put last
pub get_front : (t : List ℕ) (w p : ℕ) → p < length t → get_or (t ++ w ∷ []) p 0 ≡ get_or t p 0
get_front [] w p h = absurd (omega arith)
get_front (x ∷ t) w zero h = refl
get_front (x ∷ t) w (suc p) h = get_front t w p (omega arith)

-- the literal that is put last stands at the end
pub get_end : (t : List ℕ) (w p : ℕ) → p ≡ length t → get_or (t ++ w ∷ []) p 0 ≡ w
get_end [] w p h = ap (λ q. get_or (w ∷ []) q 0) h
get_end (x ∷ t) w zero h = absurd (omega arith)
get_end (x ∷ t) w (suc p) h = get_end t w p (omega arith)

-- ---- the trail
-- an empty trail with no marks is kept
pub kept_none : (holds : List Bool) (places : List ℕ) → length places ≤ 2 ^ 31 → length holds ≡ 2 * length places → ((w : ℕ) → get_or holds w false ≡ false) → IsKept holds places [] [] [] 0
kept_none holds places s h f = record {
  small = s;
  long_holds = h;
  long_reasons = refl;
  short = omega arith;
  within = λ p l. absurd (omega arith);
  marks = f;
  placed = λ p l. absurd (omega arith);
  rising = λ k l. absurd (omega arith);
  reached = omega arith;
}

module _ (holds : List Bool) (places literals reasons starts : List ℕ) (done w r : ℕ) (k : IsKept holds places literals reasons starts done) where
  module _ (below : w < 2 * length places) (free : has literals w ≡ false) (other : has literals (opposite w) ≡ false) (few : length literals + 1 < 2 ^ 32) where
    -- the trail has one literal more
    long : length (literals ++ w ∷ []) ≡ length literals + 1
    long = length-append literals (w ∷ [])

    -- just its literals are marked
    marks_more : (v : ℕ) → get_or (set holds w true) v false ≡ has (literals ++ w ∷ []) v
    marks_more v = elim (cases_eq v w) [
      | inl e ↦
          let lt : w < length holds = (let l = k.long_holds in omega arith) in
          ap (λ x. get_or (set holds w true) x false) e ∙ get_or-set_same holds w true false lt ∙ sym (has_last literals w) ∙ ap (λ x. has (literals ++ w ∷ []) x) (sym e)
      | inr n ↦ get_or-set_other holds w v true false n ∙ k.marks v ∙ sym (has_other literals w v n)
    ]

    -- and each has its place
    placed_more : (p : ℕ) → p < length (literals ++ w ∷ []) → get_or (set places (w / 2) (length literals)) (get_or (literals ++ w ∷ []) p 0 / 2) 0 ≡ p
    placed_more p h = elim (cases_eq p (length literals)) [
      | inl e ↦
          let lt : w / 2 < length places = omega arith in
          ap (λ x. get_or (set places (w / 2) (length literals)) (x / 2) 0) (get_end literals w p e) ∙ get_or-set_same places (w / 2) (length literals) 0 lt ∙ sym e
      | inr n ↦
          let h2 : p < length literals = omega (arith, long) in
          let x = get_or literals p 0 in
          let ne : x / 2 ≡ w / 2 → ⊥ = λ s. elim (same_half x w s) [
            | inl same ↦ true≢false (sym (has_at literals p h2) ∙ ap (has literals) same ∙ free)
            | inr same ↦ true≢false (sym (has_at literals p h2) ∙ ap (has literals) same ∙ other)
          ] in
          ap (λ y. get_or (set places (w / 2) (length literals)) (y / 2) 0) (get_front literals w p h2)
          ∙ get_or-set_other places (w / 2) (x / 2) (length literals) 0 ne ∙ k.placed p h2
    ]

    -- a trail with one more unassigned literal is kept, once the literal is marked and its place is written down
    pub kept_more : IsKept (set holds w true) (set places (w / 2) (length literals)) (literals ++ w ∷ []) (reasons ++ r ∷ []) starts done
    kept_more =
        let lp = length-set places (w / 2) (length literals) in
        let lh = length-set holds w true in
        let lr = length-append reasons (r ∷ []) in
        let small = k.small in
        let q1 = k.long_holds in
        let q2 = k.long_reasons in
        let q3 = k.reached in
        record {
          small = omega (arith, lp, small);
          long_holds = omega (arith, lp, lh, q1);
          long_reasons = omega (arith, lr, long, q2);
          short = omega (arith, long, few);
          within = λ p h. elim (cases_eq p (length literals)) [
            | inl e ↦ subst (λ x. x < 2 * length (set places (w / 2) (length literals))) (sym (get_end literals w p e)) (omega (arith, lp, below))
            | inr n ↦
                let h2 : p < length literals = omega (arith, long) in
                let lt = k.within p h2 in
                subst (λ x. x < 2 * length (set places (w / 2) (length literals))) (sym (get_front literals w p h2)) (omega (arith, lp, lt))
          ];
          marks = marks_more;
          placed = placed_more;
          rising = λ j h. let u = k.rising j h in (let u0 = u.0 in omega (arith, long, u0), u.1);
          reached = omega (arith, long, q3);
        }

-- ---- places
-- a literal and its opposite have one variable
pub half_opposite : (w : ℕ) → opposite w / 2 ≡ w / 2
half_opposite w = elim (opposite_cases w) [ inl e ↦ omega arith | inr e ↦ omega arith ]

-- a place of a literal in a list
pub record Standing (c : List ℕ) (x : ℕ) : Type 0 where
  pub place : ℕ
  pub within : place < length c
  pub is : get_or c place 0 ≡ x

-- a literal that stands in a list has a place there
pub standing : (c : List ℕ) (x : ℕ) → has c x ≡ true → Standing c x
standing [] x h = absurd (true≢false (sym h))
standing (y ∷ c) x h = elim (or_cases (x == y) (has c x) h) [
  | inl e ↦ record { place = 0; within = omega arith; is = sym (eqb-true x y e) }
  | inr r ↦ let s = standing c x r in record { place = suc s.place; within = (let q = s.within in omega arith); is = s.is }
]

-- no two literals of a trail are of one variable
pub apart : (holds : List Bool) (places literals reasons starts : List ℕ) (done : ℕ) → IsKept holds places literals reasons starts done → IsApart literals
apart holds places literals reasons starts done k p q a b e = sym (k.placed p a) ∙ ap (λ i. get_or places i 0) e ∙ k.placed q b

-- the place that is kept of a false literal is that of its opposite on the trail
pub place_is : (holds : List Bool) (places literals reasons starts : List ℕ) (done w : ℕ) → IsKept holds places literals reasons starts done → has literals (opposite w) ≡ true
    → (get_or places (w / 2) 0 < length literals) × (get_or literals (get_or places (w / 2) 0) 0 ≡ opposite w)
place_is holds places literals reasons starts done w k h =
    let s = standing literals (opposite w) h in
    let e : get_or places (w / 2) 0 ≡ s.place = ap (λ i. get_or places i 0) (sym (half_opposite w)) ∙ ap (λ x. get_or places (x / 2) 0) (sym s.is) ∙ k.placed s.place s.within in
    let l = s.within in
    (omega arith, ap (λ i. get_or literals i 0) e ∙ s.is)

-- ---- reasons
-- two clauses are one where they are one reason
pub some_same : (m n : ℕ) → Some m ≡ Some n → m ≡ n
some_same m n e = ap value e
  where
    value : Option ℕ → ℕ
    value None = m
    value (Some k) = k

-- a clause isn't no reason
pub some_none : (n : ℕ) → Some n ≡ None → ⊥
some_none n e = absurd cc

-- the reasons in front stay when there is one more
pub reason_front : (reasons : List (Option ℕ)) (r : Option ℕ) (p : ℕ) → p < length reasons → get_or (reasons ++ r ∷ []) p None ≡ get_or reasons p None
reason_front [] r p l = absurd (omega arith)
reason_front (y ∷ reasons) r zero l = refl
reason_front (y ∷ reasons) r (suc p) l = reason_front reasons r p (omega arith)

-- the last reason, where it is a clause
pub reason_end : (reasons : List (Option ℕ)) (n p : ℕ) → p ≡ length reasons → get_or (reasons ++ Some n ∷ []) p None ≡ Some n
reason_end reasons n p e = ap (λ i. get_or (reasons ++ Some n ∷ []) i None) e ∙ last reasons
  where
    last : (rs : List (Option ℕ)) → get_or (rs ++ Some n ∷ []) (length rs) None ≡ Some n
    last [] = refl
    last (r ∷ rs) = last rs

-- the numbers in front are kept for the reasons in front
pub reasons_back : (numbers : List ℕ) (b : ℕ) → map reason_of (take b numbers) ≡ take b (map reason_of numbers)
reasons_back numbers zero = refl
reasons_back [] (suc b) = refl
reasons_back (m ∷ numbers) (suc b) = ap (λ rs. reason_of m ∷ rs) (reasons_back numbers b)
