-- What is asked from the trees in which given folders stand is asked of the graph with the guard in front.
use Rattle.std.proofs.Common.{◌≡◌, ◌↔◌, inl, inr, ℕ, Bool, ◌+◌, ◌<◌, List, [], ◌∷◌, ◌++◌, length, length-append, Some, None, sym, ap, subst, ◌∙◌}
use Rattle.std.specs.Prelude.{IsTrue, IsSome}
use Rattle.std.specs.List.{AllByRecursion}
use Rattle.fs_semantics.specs.FileTree.{Path, Tree, IsTree}
use Rattle.fs_semantics.specs.Programs.{Program, Outcome}
use Rattle.fs_semantics.specs.Orders.{Told, IsLinearExtension, IsFree, IsExchange, outcome, IsDeterministic, IsIdempotent, Succeeds, IsCounterexample}
use Rattle.fs_semantics.proofs.Counts.{all_back}
use Rattle.given_hosts.specs.Given.{Stand, IsGivenTree, IsDeterministicFrom, IsIdempotentFrom, SucceedsFrom, IsCounterexampleFrom, EndsWithFrom, AreEqualFrom}
use Rattle.given_hosts.specs.Guard.{guard, guarded, GoesFirst}
use Rattle.given_hosts.proofs.GuardLaws.{stand_told, ends_where_stand, fails_elsewhere, in_front, guard_first}
use Rattle.fs_semantics.proofs.Refuted.{some_not_none}

-- and one that ends in Error ends in no tree
none_not_some : (r : Outcome) (u : Tree) → r ≡ None → r ≡ Some u → ⊥
none_not_some r u h e = cc

-- the guard is one program more
pub longer : (given : List Path) (es : List Program) → length (guarded given es) ≡ length es + 1
longer given es = length-append es (guard given ∷ [])

module _ (given : List Path) (es : List Program) (before after : ℕ → ℕ → Bool) (first : GoesFirst (length es) before after) where
  -- the guard and then an allowed order is an allowed order with it
  pub guarded_order : (p : List ℕ) → IsLinearExtension (length es) (Told before) p → IsLinearExtension (length (guarded given es)) (Told after) (length es ∷ p)
  guarded_order p l = subst (λ n. IsLinearExtension n (Told after) (length es ∷ p)) (sym (longer given es)) (in_front (length es) before after first p l)

  -- and each allowed order with the guard is the guard and then an allowed one
  pub order_behind : (o : List ℕ) → IsLinearExtension (length (guarded given es)) (Told after) o → (p : List ℕ) × (o ≡ length es ∷ p) × IsLinearExtension (length es) (Told before) p
  order_behind o l = guard_first (length es) before after first o (subst (λ n. IsLinearExtension n (Told after) o) (longer given es) l)

  -- where the given folders stand, a run behind the guard ends as one without it
  same_where_stand : (t : Tree) (p : List ℕ) → Stand given t → IsLinearExtension (length es) (Told before) p → outcome (guarded given es) (length es ∷ p) t ≡ outcome es p t
  same_where_stand t p h l = ends_where_stand given es p t l.below h

  -- the same order ends alike
  same_end : (o p : List ℕ) (t : Tree) → o ≡ p → outcome (guarded given es) o t ≡ outcome (guarded given es) p t
  same_end o p t e = ap (λ q. outcome (guarded given es) q t) e

  -- with the guard all orders end alike exactly where they do from the trees in which the given folders stand
  pub deterministic : IsDeterministic (guarded given es) (Told after) ↔ IsDeterministicFrom given es (Told before)
  deterministic = (
    (λ h t g o p a b.
        sym (same_where_stand t o g.stand a)
        ∙ h t g.is_tree (length es ∷ o) (length es ∷ p) (guarded_order o a) (guarded_order p b)
        ∙ same_where_stand t p g.stand b),
    (λ h t tree o p a b.
        let l = order_behind o a in
        let r = order_behind p b in
        elim (stand_told given t) [
          | inl g ↦ same_end o (length es ∷ l.0) t l.1 ∙ same_where_stand t l.0 g l.2 ∙ h t (record { is_tree = tree; stand = g }) l.0 r.0 l.2 r.2
              ∙ sym (same_where_stand t r.0 g r.2) ∙ sym (same_end p (length es ∷ r.0) t r.1)
          | inr n ↦ same_end o (length es ∷ l.0) t l.1 ∙ fails_elsewhere given es l.0 t n ∙ sym (fails_elsewhere given es r.0 t n) ∙ sym (same_end p (length es ∷ r.0) t r.1)
        ]),
  )

  -- where no run behind the guard changes what one has left, none changes what one from the given folders has left
  pub idempotent : IsIdempotent (guarded given es) (Told after) → IsIdempotentFrom given es (Told before)
  idempotent h t g o p a b u e =
      let again = h t g.is_tree (length es ∷ o) (length es ∷ p) (guarded_order o a) (guarded_order p b) u (same_where_stand t o g.stand a ∙ e) in
      elim (stand_told given u) [
        | inl s ↦ sym (same_where_stand u p s b) ∙ again
        | inr n ↦ absurd (none_not_some (outcome (guarded given es) (length es ∷ p) u) u (fails_elsewhere given es p u n) again)
      ]

  -- where it ends in a tree, the given folders stood, and so it ends without the guard
  pub ended : (o : List ℕ) (t : Tree) (l : (p : List ℕ) × (o ≡ length es ∷ p) × IsLinearExtension (length es) (Told before) p)
      → (outcome (guarded given es) o t ≡ None → ⊥) → Stand given t × (outcome (guarded given es) o t ≡ outcome es l.0 t)
  ended o t l h = elim (stand_told given t) [
    | inl g ↦ (g, same_end o (length es ∷ l.0) t l.1 ∙ same_where_stand t l.0 g l.2)
    | inr n ↦ absurd (h (same_end o (length es ∷ l.0) t l.1 ∙ fails_elsewhere given es l.0 t n))
  ]

  -- with the guard some run ends in a tree exactly where one does from a tree in which they stand
  pub succeeds : Succeeds (guarded given es) (Told after) ↔ SucceedsFrom given es (Told before)
  succeeds = (
    (λ s.
        let l = order_behind s.order s.allowed in
        let e = ended s.order s.tree l (some_not_none (outcome (guarded given es) s.order s.tree) s.ends) in
        record { tree = s.tree; is_tree = record { is_tree = s.is_tree; stand = e.0 }; order = l.0; allowed = l.2; ends = subst IsSome e.1 s.ends }),
    (λ s. record {
      tree = s.tree;
      is_tree = s.is_tree.is_tree;
      order = length es ∷ s.order;
      allowed = guarded_order s.order s.allowed;
      ends = subst IsSome (sym (same_where_stand s.tree s.order s.is_tree.stand s.allowed)) s.ends;
    }),
  )

  -- an order that begins with the guard goes on with an allowed one
  pub tail_allowed : (o : List ℕ) → IsLinearExtension (length (guarded given es)) (Told after) (length es ∷ o) → IsLinearExtension (length es) (Told before) o
  tail_allowed o l =
      let b = order_behind (length es ∷ o) l in
      let same : o ≡ b.0 = cc in
      subst (IsLinearExtension (length es) (Told before)) (sym same) b.2

  -- a counterexample with the guard is one from a tree in which they stand
  pub counterexample : (t : Tree) (o p : List ℕ) → IsCounterexample (guarded given es) (Told after) t (length es ∷ o) (length es ∷ p) ↔ IsCounterexampleFrom given es (Told before) t o p
  counterexample t o p = (
    (λ c.
        let a = tail_allowed o c.left_allowed in
        let b = tail_allowed p c.right_allowed in
        elim (stand_told given t) [
          | inl g ↦ record {
            stand = g;
            shows = record {
              is_tree = c.is_tree;
              left_allowed = a;
              right_allowed = b;
              differ = λ e. c.differ (same_where_stand t o g a ∙ e ∙ sym (same_where_stand t p g b));
            };
          }
          | inr n ↦ absurd (c.differ (fails_elsewhere given es o t n ∙ sym (fails_elsewhere given es p t n)))
        ]),
    (λ c. record {
      is_tree = c.shows.is_tree;
      left_allowed = guarded_order o c.shows.left_allowed;
      right_allowed = guarded_order p c.shows.right_allowed;
      differ = λ e. c.shows.differ (sym (same_where_stand t o c.stand c.shows.left_allowed) ∙ e ∙ same_where_stand t p c.stand c.shows.right_allowed);
    }),
  )

  -- what every run leaves that ends
  pub leaves : (P : Tree → Type 0) → ((t : Tree) → IsTree t → (o : List ℕ) → IsLinearExtension (length (guarded given es)) (Told after) o → (u : Tree) → outcome (guarded given es) o t ≡ Some u → P u)
      ↔ ((t : Tree) → IsGivenTree given t → (o : List ℕ) → IsLinearExtension (length es) (Told before) o → (u : Tree) → outcome es o t ≡ Some u → P u)
  leaves P = (
    (λ h t g o a u e. h t g.is_tree (length es ∷ o) (guarded_order o a) u (same_where_stand t o g.stand a ∙ e)),
    (λ h t tree o a u e.
        let l = order_behind o a in
        let d = ended o t l (λ n. none_not_some (outcome (guarded given es) o t) u n e) in
        h t (record { is_tree = tree; stand = d.0 }) l.0 l.2 u (sym d.1 ∙ e)),
  )

-- a tree in which none is given
pub none_to_stand : (t : Tree) → IsTree t → IsGivenTree [] t
none_to_stand t h = record { is_tree = h; stand = tt }

-- with the guard all runs end in trees that pass exactly where they do from the trees in which they stand
pub ends_with : (given : List Path) (es : List Program) (before after : ℕ → ℕ → Bool) → GoesFirst (length es) before after → (passes : Tree → Bool)
    → EndsWithFrom [] (guarded given es) (Told after) passes ↔ EndsWithFrom given es (Told before) passes
ends_with given es before after first passes =
    let l = leaves given es before after first (λ u. IsTrue (passes u)) in
    ((λ h. l.0 (λ t tree. h t (none_to_stand t tree))), (λ h t g. l.1 h t g.is_tree))

-- with the guard the graphs are equal exactly where they are from the trees in which they stand
pub equal : (given : List Path) (es fs : List Program) (before after other guarded_other : ℕ → ℕ → Bool) → GoesFirst (length es) before after → GoesFirst (length fs) other guarded_other
    → AreEqualFrom [] (guarded given es) (Told after) (guarded given fs) (Told guarded_other) ↔ AreEqualFrom given es (Told before) fs (Told other)
equal given es fs before after other guarded_other first second = (
  (λ h t g o p a b.
      sym (ends_where_stand given es o t a.below g.stand)
      ∙ h t (none_to_stand t g.is_tree) (length es ∷ o) (length fs ∷ p) (guarded_order given es before after first o a) (guarded_order given fs other guarded_other second p b)
      ∙ ends_where_stand given fs p t b.below g.stand),
  (λ h t tree o p a b.
      let l = order_behind given es before after first o a in
      let r = order_behind given fs other guarded_other second p b in
      let left = ap (λ q. outcome (guarded given es) q t) l.1 in
      let right = ap (λ q. outcome (guarded given fs) q t) r.1 in
      elim (stand_told given t) [
        | inl g ↦ left ∙ ends_where_stand given es l.0 t l.2.below g ∙ h t (record { is_tree = tree.is_tree; stand = g }) l.0 r.0 l.2 r.2 ∙ sym (right ∙ ends_where_stand given fs r.0 t r.2.below g)
        | inr n ↦ left ∙ fails_elsewhere given es l.0 t n ∙ sym (right ∙ fails_elsewhere given fs r.0 t n)
      ]),
)

-- ---- exchanges

module _ (n : ℕ) (before after : ℕ → ℕ → Bool) (first : GoesFirst n before after) where
  -- programs that are free with the guard are free without it
  free_before : (a b : ℕ) → a < n → b < n → IsFree (Told after) a b → IsFree (Told before) a b
  free_before a b x y f = record { differ = f.differ; not_before = λ h. f.not_before ((first.others a b x y).1 h); not_after = λ h. f.not_after ((first.others b a y x).1 h) }

  -- and those that are free without it are free with it
  free_after : (a b : ℕ) → a < n → b < n → IsFree (Told before) a b → IsFree (Told after) a b
  free_after a b x y f = record { differ = f.differ; not_before = λ h. f.not_before ((first.others a b x y).0 h); not_after = λ h. f.not_after ((first.others b a y x).0 h) }

  -- an exchange behind the guard is one without it
  within : (front : List ℕ) (left right : ℕ) (back o p : List ℕ) → AllByRecursion (λ k. k < n) o → n ∷ o ≡ front ++ left ∷ right ∷ back → n ∷ p ≡ front ++ right ∷ left ∷ back
      → IsFree (Told after) left right → IsExchange (Told before) o p
  within [] left right back o p below was is f =
      let a : n ≡ left = cc in
      let b : n ≡ right = cc in
      absurd (f.differ (sym a ∙ b))
  within (x ∷ front) left right back o p below was is f =
      let a : o ≡ front ++ left ∷ right ∷ back = cc in
      let b : p ≡ front ++ right ∷ left ∷ back = cc in
      let two = all_back (λ k. k < n) front (left ∷ right ∷ back) (subst (AllByRecursion (λ k. k < n)) a below) in
      record { front = front; left = left; right = right; back = back; was = a; is = b; free = free_before left right two.0 two.1.0 f }

  -- behind the guard orders differ by an exchange exactly where they do without it
  pub exchange : (o p : List ℕ) → IsLinearExtension n (Told before) o → IsExchange (Told after) (n ∷ o) (n ∷ p) ↔ IsExchange (Told before) o p
  exchange o p l = (
    (λ e. within e.front e.left e.right e.back o p l.below e.was e.is e.free),
    (λ e.
        let two = all_back (λ k. k < n) e.front (e.left ∷ e.right ∷ e.back) (subst (AllByRecursion (λ k. k < n)) e.was l.below) in
        record { front = n ∷ e.front; left = e.left; right = e.right; back = e.back; was = ap (λ q. n ∷ q) e.was; is = ap (λ q. n ∷ q) e.is; free = free_after e.left e.right two.0 two.1.0 e.free }),
  )
