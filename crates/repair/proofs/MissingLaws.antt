-- The arrow that a run follows, of two that differ by one exchange.
use Rattle.std.proofs.Common.{◌≡◌, ◌≢◌, ℕ, zero, suc, cond, ◌+◌, ◌<◌, ◌≤◌, List, [], ◌∷◌, ◌++◌, length, drop, Option, Some, None, refl, sym, ap, ◌∙◌, subst, subst₂, arith, eq-eqb, ne_eqb}
use Rattle.std.specs.Prelude.{IsSome}
use Rattle.fs_semantics.specs.FileTree.{Tree}
use Rattle.fs_semantics.specs.Programs.{Program, Outcome}
use Rattle.fs_semantics.specs.Orders.{Told, times, IsLinearExtension, IsExchange, IsCounterexample, outcome}
use Rattle.fs_semantics.proofs.Counts.{times_append, times_itself, all_at}
use Rattle.orders.specs.Relation.{Relation, comes, Comes}
use Rattle.repair.specs.Arrows.{Follows}
use Rattle.repair.specs.Missing.{IsMissing, first_apart}
use Rattle.repair.proofs.RunLaws.{neighbours_ahead}

-- ---- where two lists first differ
-- beside nothing no place differs
none_beside : (p : List ℕ) → first_apart p [] ≡ None
none_beside [] = refl
none_beside (x ∷ p) = refl

-- past the end of one of them no place differs
pub ends_apart : (p q : List ℕ) (k : ℕ) → length q ≤ k → first_apart (drop k p) (drop k q) ≡ None
ends_apart p [] zero h = none_beside p
ends_apart p (y ∷ q) zero h = absurd (omega (arith, h))
ends_apart [] q (suc k) h = refl
ends_apart (x ∷ p) [] (suc k) h = none_beside (drop k p)
ends_apart (x ∷ p) (y ∷ q) (suc k) h = ends_apart p q k (omega (arith, h))

-- orders of which two neighbours are exchanged differ first at these two
apart_at : (front : List ℕ) (x y : ℕ) (back : List ℕ) → x ≢ y → first_apart (front ++ x ∷ y ∷ back) (front ++ y ∷ x ∷ back) ≡ Some (x, y)
apart_at [] x y back ne = ap (λ b. cond b (first_apart (y ∷ back) (x ∷ back)) (Some (x, y))) (ne_eqb x y ne)
apart_at (z ∷ front) x y back ne =
    ap (λ b. cond b (first_apart (front ++ x ∷ y ∷ back) (front ++ y ∷ x ∷ back)) (Some (z, z))) (eq-eqb z z refl) ∙ apart_at front x y back ne

-- ---- the arrow of the first of the two
-- an exchange is one the other way round
pub turned : (before : ℕ → ℕ → Type 0) (o p : List ℕ) → IsExchange before o p → IsExchange before p o
turned before o p e = record {
  front = e.front;
  left = e.right;
  right = e.left;
  back = e.back;
  was = e.is;
  is = e.was;
  free = record { differ = λ h. e.free.differ (sym h); not_before = e.free.not_after; not_after = e.free.not_before };
}

-- and so is a counterexample
pub other_way : (es : List Program) (before : ℕ → ℕ → Type 0) (t : Tree) (o p : List ℕ) → IsCounterexample es before t o p → IsCounterexample es before t p o
other_way es before t o p c = record { is_tree = c.is_tree; left_allowed = c.right_allowed; right_allowed = c.left_allowed; differ = λ h. c.differ (sym h) }

-- what stands next to one another in a run, each once
module _ (n : ℕ) (before : ℕ → ℕ → Type 0) (run front : List ℕ) (x y : ℕ) (back : List ℕ) (l : IsLinearExtension n before run) (was : run ≡ front ++ x ∷ y ∷ back) where
  -- a number stands in the run as often as in its parts
  count : (k : ℕ) → times k run ≡ times k front + times k (x ∷ y ∷ back)
  count k = ap (times k) was ∙ times_append k front (x ∷ y ∷ back)

  -- the first neighbour stands in the run
  first_there : 0 < times x run
  first_there = omega (arith, count x, times_itself x (y ∷ back))

  -- and so does the second
  second_there : 0 < times y run
  second_there = omega (arith, count y, times_itself y back)

  -- the first neighbour is a resource
  pub first_below : x < n
  first_below = all_at (λ k. k < n) run x l.below first_there

  -- and so is the second
  pub second_below : y < n
  second_below = all_at (λ k. k < n) run y l.below second_there

  -- the run follows the arrow from the first neighbour to the second
  pub next_ahead : x ≢ y → Follows run (x, y)
  next_ahead ne =
      let none : times y front ≡ 0 = omega (arith, count y, times_itself y back, l.once y second_below) in
      subst (λ o. Follows o (x, y)) (sym was) (neighbours_ahead front x y back ne none)

module _ (es : List Program) (order : Relation) (long : length es ≡ order.count) (t : Tree) (o p : List ℕ) (c : IsCounterexample es (Told (comes order)) t o p) (e : IsExchange (Told (comes order)) o p) where
  -- the orders of a counterexample by an exchange differ first at what is exchanged
  pub apart_there : first_apart o p ≡ Some (e.left, e.right)
  apart_there = subst₂ (λ a b. first_apart a b ≡ Some (e.left, e.right)) (sym e.was) (sym e.is) (apart_at e.front e.left e.right e.back e.free.differ)

  -- where the first order ends in a tree, the arrow of its neighbours is missing
  pub is_missing : IsSome (outcome es o t) → IsMissing es order (e.left, e.right)
  is_missing ends =
      let n = length es in
      record {
        between = record {
          from = subst (λ m. e.left < m) long (first_below n (Comes order) o e.front e.left e.right e.back c.left_allowed e.was);
          to = subst (λ m. e.right < m) long (second_below n (Comes order) o e.front e.left e.right e.back c.left_allowed e.was);
          free = e.free;
        };
        tree = t;
        is_tree = c.is_tree;
        run = o;
        run_allowed = c.left_allowed;
        follows = next_ahead n (Comes order) o e.front e.left e.right e.back c.left_allowed e.was e.free.differ;
        ends = ends;
        other = p;
        other_allowed = c.right_allowed;
        differ = c.differ;
      }

-- ---- what the code finds
-- an outcome that is a tree is one
pub has_ended : (u : Tree) (o : Outcome) → Some u ≡ o → IsSome o
has_ended u o e = subst IsSome e refl

-- and one that isn't Error is a tree
other_ends : (o : Outcome) → (None ≡ o → ⊥) → IsSome o
other_ends None h = absurd (h refl)
other_ends (Some u) h = refl

module _ (es : List Program) (order : Relation) (long : length es ≡ order.count) (t : Tree) (o p : List ℕ) (c : IsCounterexample es (Told (comes order)) t o p) (e : IsExchange (Told (comes order)) o p)
    (a b : ℕ) (found : Some (a, b) ≡ first_apart o p) where
  -- what is found is what is exchanged
  same : ◌≡◌ {A = ℕ × ℕ} (a, b) (e.left, e.right)
  same = let f : ◌≡◌ {A = Option (ℕ × ℕ)} (Some (a, b)) (Some (e.left, e.right)) = found ∙ apart_there es order long t o p c e in cc

  -- where the first order ends in a tree, the arrow that was found is missing
  pub first_follows : IsSome (outcome es o t) → IsMissing es order (a, b)
  first_follows ends = subst (IsMissing es order) (sym same) (is_missing es order long t o p c e ends)

  -- and where it ends in Error, the arrow the other way is
  pub second_follows : None ≡ outcome es o t → IsMissing es order (b, a)
  unfolding turned
  second_follows fails =
      let ends : IsSome (outcome es p t) = other_ends (outcome es p t) (λ h. c.differ (sym fails ∙ h)) in
      let f = turned (Told (comes order)) o p e in
      subst (λ q. IsMissing es order (q.1, q.0)) (sym same) (is_missing es order long t p o (other_way es (Told (comes order)) t o p c) f ends)
