-- Allowed orders are joined by exchanges of free neighbours; so what such exchanges leave is the same for all.
use Rattle.std.proofs.Common.{◌≡◌, ◌≢◌, ℕ, ◌+◌, ◌<◌, ◌≤◌, inl, inr, ⊎_elim, List, [], ◌∷◌, ◌++◌, length, get_or, Some, refl, sym, ap, ◌∙◌, subst, arith}
use Rattle.std.proofs.lemmas.Bool.{cases_lt}
use Rattle.std.specs.List.{AllByRecursion}
use Rattle.fs_semantics.specs.FileTree.{Tree, IsTree}
use Rattle.fs_semantics.specs.Programs.{Program, Id, and_then, run}
use Rattle.fs_semantics.specs.Changes.{IsProper}
use Rattle.fs_semantics.specs.Orders.{times, NoneAhead, IsLinearExtension, IsFree, IsExchange, outcome, IsDeterministic, IsCounterexample, NeighboursAgree, FreeCommute}
use Rattle.fs_semantics.proofs.Counts.{times_append, times_itself, times_other, times_found, all_append, all_front, all_back, all_at, all_from, none_ahead_behind, none_ahead_without}
use Rattle.fs_semantics.proofs.Permuted.{and_then_assoc, then_alike}
use Rattle.fs_semantics.proofs.Commuting.{none_above, same_times, outcome-append, outcome_keeps_tree}
use Rattle.fs_semantics.proofs.Decided.{outcome_told}

module _ (before : ℕ → ℕ → Type 0) where
  -- two neighbours of which the first needn't come first may be exchanged in an allowed order
  swapped_kept : (front : List ℕ) (x y : ℕ) (back : List ℕ) → (before x y → ⊥) → NoneAhead before (front ++ x ∷ y ∷ back) → NoneAhead before (front ++ y ∷ x ∷ back)
  swapped_kept [] x y back free h = ((free, h.1.0), (h.0.1, h.1.1))
  swapped_kept (z ∷ front) x y back free h =
      let P : ℕ → Type 0 = λ a. before a z → ⊥ in
      let rest = all_back P front (x ∷ y ∷ back) h.0 in
      (all_append P front (y ∷ x ∷ back) (all_front P front (x ∷ y ∷ back) h.0) (rest.1.0, (rest.0, rest.1.1)), swapped_kept front x y back free h.1)

  -- after an exchange an order is allowed still
  pub exchanged : (n : ℕ) (order other : List ℕ) → IsExchange before order other → IsLinearExtension n before order → IsLinearExtension n before other
  exchanged n order other e l =
      let P : ℕ → Type 0 = λ k. k < n in
      let below = subst (AllByRecursion P) e.was l.below in
      let rest = all_back P e.front (e.left ∷ e.right ∷ e.back) below in
      let kept = swapped_kept e.front e.left e.right e.back e.free.not_before (subst (NoneAhead before) e.was l.kept) in
      record {
        below = subst (AllByRecursion P) (sym e.is) (all_append P e.front (e.right ∷ e.left ∷ e.back) (all_front P e.front (e.left ∷ e.right ∷ e.back) below) (rest.1.0, (rest.0, rest.1.1)));
        once = λ k h.
            omega (arith, l.once k h, ap (times k) e.was, ap (times k) e.is, times_append k e.front (e.left ∷ e.right ∷ e.back), times_append k e.front (e.right ∷ e.left ∷ e.back));
        kept = subst (NoneAhead before) (sym e.is) kept;
      }

  -- lists joined by exchanges, whatever stands in them
  pub data Turned : List ℕ → List ℕ → Type 0 where
    same : {order : List ℕ} → Turned order order
    turn : {order other last : List ℕ} → IsExchange before order other → Turned other last → Turned order last

  -- exchanges behind a number are exchanges of the list with it in front
  turned_on : (x : ℕ) {order last : List ℕ} → Turned order last → Turned (x ∷ order) (x ∷ last)
  turned_on x same = same
  turned_on x (turn e t) =
      turn (record { front = x ∷ e.front; left = e.left; right = e.right; back = e.back; was = ap (λ o. x ∷ o) e.was; is = ap (λ o. x ∷ o) e.is; free = e.free }) (turned_on x t)

  -- exchanges after exchanges are exchanges
  turned_then : {order other last : List ℕ} → Turned order other → Turned other last → Turned order last
  turned_then same t = t
  turned_then (turn e s) t = turn e (turned_then s t)

  -- a number that is free of all ahead of it comes to the front by exchanges
  to_front : (front : List ℕ) (x : ℕ) (back : List ℕ) → AllByRecursion (λ z. IsFree before z x) front → Turned (front ++ x ∷ back) (x ∷ front ++ back)
  to_front [] x back h = same
  to_front (z ∷ front) x back h =
      turned_then (turned_on z (to_front front x back h.1))
      (turn (record { front = []; left = z; right = x; back = front ++ back; was = refl; is = refl; free = h.0 }) same)

  -- two allowed orders of the same numbers are joined by exchanges of free neighbours
  turned : (right left : List ℕ) → ((k : ℕ) → times k left ≡ times k right) → ((k : ℕ) → times k right ≤ 1) → NoneAhead before left → NoneAhead before right → Turned left right
  turned [] [] same_times once l r = same
  turned [] (x ∷ left) same_times once l r = absurd (omega (arith, same_times x, times_itself x left))
  turned (x ∷ right) left same_times once l r =
      let split = times_found x left (omega (arith, same_times x, times_itself x right)) in
      let front = split.0 in
      let back = split.1 in
      let kept = subst (NoneAhead before) split.2 l in
      let counts : (k : ℕ) → times k left ≡ times k front + times k (x ∷ back) = λ k. ap (times k) split.2 ∙ times_append k front (x ∷ back) in
      let free : (z : ℕ) → 0 < times z front → IsFree before z x = λ z m.
      let differ : z ≢ x = λ e. let m' : 0 < times x front = subst (λ v. 0 < times v front) e m in omega (arith, counts x, same_times x, once x, times_itself x back) in
      let there : 0 < times z right = omega (arith, counts z, same_times z, times_other z x right differ) in
      record { differ = differ; not_before = all_at (λ a. before a x → ⊥) right z r.0 there; not_after = all_at (λ a. before x a → ⊥) front z (none_ahead_behind before front x back kept) m } in
      subst (λ o. Turned o (x ∷ right)) (sym split.2)
      (turned_then (to_front front x back (all_from (λ z. IsFree before z x) front free))
      (turned_on x (turned right (front ++ back) (λ k. omega (arith, counts k, same_times k, times_append k front back)) (λ k. omega (arith, once k)) (none_ahead_without before front x back kept) r.1)))

  -- no number stands twice in an allowed order
  at_most_once : (n : ℕ) (order : List ℕ) → IsLinearExtension n before order → (k : ℕ) → times k order ≤ 1
  at_most_once n order l k = ⊎_elim (λ h. let e = l.once k h in omega arith) (λ h. let e = none_above n k order l.below h in omega arith) (cases_lt k n)

  -- any two allowed orders are joined
  pub joined : (n : ℕ) (from to : List ℕ) → IsLinearExtension n before from → IsLinearExtension n before to → Turned from to
  joined n from to l m = turned to from (same_times n before from to l m) (at_most_once n to m) l.kept m.kept

  -- where neighbours agree, all joined orders agree
  pub agree : {X : Type 0} (n : ℕ) (tells : List ℕ → X)
      → ((o p : List ℕ) → IsLinearExtension n before o → IsLinearExtension n before p → IsExchange before o p → tells o ≡ tells p)
      → {from to : List ℕ} → Turned from to → IsLinearExtension n before from → tells from ≡ tells to
  agree n tells h same l = refl
  agree n tells h (turn e j) l =
      let next = exchanged n _ _ e l in
      h _ _ l next e ∙ agree n tells h j next

  -- where orders that differ by one exchange of free neighbours end alike, all do
  pub neighbours_enough : (es : List Program) → NeighboursAgree es before → IsDeterministic es before
  neighbours_enough es h t tree o p a b = agree (length es) (λ order. outcome es order t) (h t tree) (joined (length es) o p a b) a

  -- where the ends differ, two neighbours do
  neighbours_differ : (es : List Program) (t : Tree) → IsTree t → {from to : List ℕ} → Turned from to → IsLinearExtension (length es) before from → outcome es from t ≢ outcome es to t
      → (o : List ℕ) × (p : List ℕ) × IsExchange before o p × IsCounterexample es before t o p
  neighbours_differ es t tree same l h = absurd (h refl)
  neighbours_differ es t tree (turn {order} {other} {last} e j) l h =
      let next = exchanged (length es) order other e l in
      elim (outcome_told (outcome es order t) (outcome es other t)) [
        | inl d ↦ neighbours_differ es t tree j next (λ k. h (d ∙ k))
        | inr n ↦ (order, other, e, record { is_tree = tree; left_allowed = l; right_allowed = next; differ = n })
      ]

  -- with any counterexample there is one whose orders differ by one exchange of free neighbours
  pub one_exchange : (es : List Program) (t : Tree) (o p : List ℕ) → IsCounterexample es before t o p → (q : List ℕ) × (r : List ℕ) × IsExchange before q r × IsCounterexample es before t q r
  one_exchange es t o p c = neighbours_differ es t c.is_tree (joined (length es) o p c.left_allowed c.right_allowed) c.left_allowed c.differ

  -- where two programs commute from where a front ends, orders that exchange them behind it end alike
  two_steps : (es : List Program) (front : List ℕ) (x y : ℕ) (back : List ℕ) (t : Tree)
      → ((u : Tree) → outcome es front t ≡ Some u → and_then (run (get_or es x Id) u) (run (get_or es y Id)) ≡ and_then (run (get_or es y Id) u) (run (get_or es x Id)))
      → outcome es (front ++ x ∷ y ∷ back) t ≡ outcome es (front ++ y ∷ x ∷ back) t
  two_steps es front x y back t alike =
      outcome-append es front (x ∷ y ∷ back) t
      ∙ then_alike (outcome es front t) (outcome es (x ∷ y ∷ back)) (outcome es (y ∷ x ∷ back)) (λ u is.
      sym (and_then_assoc (run (get_or es x Id) u) (run (get_or es y Id)) (outcome es back))
      ∙ ap (λ r. and_then r (outcome es back)) (alike u is)
      ∙ and_then_assoc (run (get_or es y Id) u) (run (get_or es x Id)) (outcome es back))
      ∙ sym (outcome-append es front (y ∷ x ∷ back) t)

  -- where free programs commute, all allowed orders end alike
  pub free_enough : (es : List Program) → AllByRecursion IsProper es → FreeCommute es before → IsDeterministic es before
  free_enough es proper commute = neighbours_enough es (λ t tree o p a b e.
      let P : ℕ → Type 0 = λ k. k < length es in
      let rest = all_back P e.front (e.left ∷ e.right ∷ e.back) (subst (AllByRecursion P) e.was a.below) in
      ap (λ order. outcome es order t) e.was
      ∙ two_steps es e.front e.left e.right e.back t (λ u is. commute e.left e.right rest.0 rest.1.0 e.free u (outcome_keeps_tree es proper e.front t u tree is))
      ∙ sym (ap (λ order. outcome es order t) e.is))
