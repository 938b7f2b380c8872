-- The exchange of two neighbours at a place.
use Rattle.std.proofs.Common.{◌≡◌, ℕ, zero, suc, ◌+◌, ◌<◌, ◌≤◌, ◌==◌, Bool, true, false, cond, List, [], ◌∷◌, ◌++◌, length, refl, sym, ap, subst, ◌∙◌, arith}
use Rattle.std.proofs.lemmas.Bool.{eqb-false}
use Rattle.fs_semantics.specs.Orders.{Told, NoneAhead, times, IsLinearExtension, IsFree}
use Rattle.order_places.specs.Places.{exchanged, AreNeighbours}
use Rattle.fs_semantics.proofs.Counts.{all_back}

-- the parts of an order at a place
record Parts (j : ℕ) (order : List ℕ) : Type 0 where
  front : List ℕ
  left : ℕ
  right : ℕ
  back : List ℕ
  was : order ≡ front ++ left ∷ right ∷ back
  is : exchanged j order ≡ front ++ right ∷ left ∷ back

-- an order is what stands ahead of a place, the two there and next, and what stands behind
parts : (j : ℕ) (order : List ℕ) → j + 1 < length order → Parts j order
parts j [] h = absurd (omega (arith, h))
parts j (a ∷ []) h = absurd (omega (arith, h))
parts zero (a ∷ b ∷ order) h = record { front = []; left = a; right = b; back = order; was = refl; is = refl }
parts (suc j) (a ∷ b ∷ order) h = let p = parts j (b ∷ order) (omega (arith, h)) in record { front = a ∷ p.front; left = p.left; right = p.right; back = p.back; was = ap (λ xs. a ∷ xs) p.was; is = ap (λ xs. a ∷ xs) p.is }

-- the end of an allowed order keeps what comes before what
none_ahead : (before : ℕ → ℕ → Type 0) (front back : List ℕ) → NoneAhead before (front ++ back) → NoneAhead before back
none_ahead before [] back h = h
none_ahead before (i ∷ front) back h = none_ahead before front back h.1

-- a number stands in the end of a list no more often than in the list
behind_less : (k : ℕ) (front back : List ℕ) → times k back ≤ times k (front ++ back)
behind_less k [] back = omega arith
behind_less k (i ∷ front) back = let less = behind_less k front back in omega (arith, less)

-- a number that stands first and second stands there twice
twice : (a : ℕ) (back : List ℕ) → 2 ≤ times a (a ∷ a ∷ back)
twice a back = let one = equal a in let sum : times a (a ∷ a ∷ back) ≡ 1 + (1 + times a back) = (λ i. cond (one i) 1 0 + (cond (one i) 1 0 + times a back)) in omega (arith, sum)
  where
    equal : (i : ℕ) → (i == i) ≡ true
    equal i = elim (i == i) as (λ b. (i == i) ≡ b → b ≡ true) [ true ↦ λ k. refl | false ↦ λ k. absurd (eqb-false i i k refl) ] refl

-- two neighbours that stand either way round in allowed orders are free
pub free : (n : ℕ) (before : ℕ → ℕ → Bool) (front back : List ℕ) (a b : ℕ) → IsLinearExtension n (Told before) (front ++ a ∷ b ∷ back) → IsLinearExtension n (Told before) (front ++ b ∷ a ∷ back) → IsFree (Told before) a b
free n before front back a b one other = record {
  differ = λ same.
      let low : a < n = (all_back (λ k. k < n) front (a ∷ b ∷ back) one.below).0 in
      let two : 2 ≤ times a (a ∷ b ∷ back) = subst (λ c. 2 ≤ times a (a ∷ c ∷ back)) same (twice a back) in
      let less = behind_less a front (a ∷ b ∷ back) in
      let single = one.once a low in
      absurd (omega (arith, two, less, single));
  not_before = (none_ahead (Told before) front (b ∷ a ∷ back) other.kept).0.0;
  not_after = (none_ahead (Told before) front (a ∷ b ∷ back) one.kept).0.0;
}

-- an allowed order and its exchange at a place are neighbours, if that is allowed too
pub neighbours : (n : ℕ) (before : ℕ → ℕ → Bool) (order : List ℕ) (j : ℕ) → j + 1 < length order → IsLinearExtension n (Told before) order → IsLinearExtension n (Told before) (exchanged j order) → AreNeighbours n before order (exchanged j order)
neighbours n before order j h one other = let p = parts j order h in record {
  first = one;
  second = other;
  exchange = record {
    front = p.front;
    left = p.left;
    right = p.right;
    back = p.back;
    was = p.was;
    is = p.is;
    free = free n before p.front p.back p.left p.right (subst (IsLinearExtension n (Told before)) p.was one) (subst (IsLinearExtension n (Told before)) p.is other);
  };
}

-- to exchange further behind leaves the first node
pub skip : (j a : ℕ) (order : List ℕ) → exchanged (suc j) (a ∷ order) ≡ a ∷ exchanged j order
skip j a [] = refl
skip j a (b ∷ order) = refl

-- to exchange behind a front exchanges the two that follow it
at_front : (front back : List ℕ) (a b : ℕ) → exchanged (length front) (front ++ a ∷ b ∷ back) ≡ front ++ b ∷ a ∷ back
at_front [] back a b = refl
at_front (i ∷ front) back a b = skip (length front) i (front ++ a ∷ b ∷ back) ∙ ap (λ xs. i ∷ xs) (at_front front back a b)

-- both of these stand in the order
longer : (front back : List ℕ) (a b : ℕ) → length front + 1 < length (front ++ a ∷ b ∷ back)
longer [] back a b = omega arith
longer (i ∷ front) back a b = let more = longer front back a b in omega (arith, more)

-- neighbours differ by the exchange at some place
pub placed : (n : ℕ) (before : ℕ → ℕ → Bool) (order other : List ℕ) → AreNeighbours n before order other → (j : ℕ) × (j + 1 < length order) × (exchanged j order ≡ other)
placed n before order other h = let e = h.exchange in (
  length e.front,
  subst (λ xs. length e.front + 1 < length xs) (sym e.was) (longer e.front e.back e.left e.right),
  ap (exchanged (length e.front)) e.was ∙ at_front e.front e.back e.left e.right ∙ sym e.is,
)
