-- Second runs: the first began where the given folders stand, the second begins in what it left.
use Rattle.std.proofs.Common.{◌≡◌, ◌≢◌, ◌↔◌, ◌⊎◌, inl, inr, ℕ, zero, suc, Bool, ◌+◌, ◌<◌, List, [], ◌∷◌, length, length-append, get_or, Some, None, refl, sym, ap, subst, ◌∙◌}
use Rattle.std.specs.List.{AllByRecursion}
use Rattle.fs_semantics.specs.FileTree.{Path, Tree}
use Rattle.fs_semantics.specs.Programs.{Program, Id, Outcome, and_then, run, run_all}
use Rattle.fs_semantics.specs.Changes.{IsProper}
use Rattle.fs_semantics.specs.Orders.{Told, IsLinearExtension, outcome, IsDeterministic, IsCounterexample}
use Rattle.fs_semantics.proofs.ConstructLaws.{split_then}
use Rattle.fs_semantics.proofs.Commuting.{outcome_keeps_tree}
use Rattle.fs_semantics.proofs.Decided.{outcome_told}
use Rattle.given_hosts.specs.Given.{Stand, IsGivenTree, IsDeterministicFrom, IsIdempotentFrom, IsSecondRunCounterexampleFrom}
use Rattle.given_hosts.specs.Guard.{GoesFirst, steps_in, first_run, after_first, KeepsGiven}
use Rattle.given_hosts.proofs.GuardLaws.{stand_told, guard_stands, guard_fails, last_one, outcome_ahead, in_front, guard_first}
use Rattle.fs_semantics.proofs.Permuted.{then_alike}

-- the steps of an order end as the order does
steps_are : (es : List Program) (o : List ℕ) (t : Tree) → run_all (steps_in es o) t ≡ outcome es o t
steps_are es [] t = refl
steps_are es (i ∷ o) t = ap (and_then (run (get_or es i Id) t)) (λ n u. steps_are es o u n)

-- where the given folders stand, the first run as one program ends as the order does
pub first_stands : (given : List Path) (es : List Program) (o : List ℕ) (t : Tree) → Stand given t → run (first_run given es o) t ≡ outcome es o t
first_stands given es o t h = ap (λ r. and_then r (run_all (steps_in es o))) (guard_stands given t h) ∙ steps_are es o t

-- and elsewhere it ends in Error
pub first_fails : (given : List Path) (es : List Program) (o : List ℕ) (t : Tree) → (Stand given t → ⊥) → run (first_run given es o) t ≡ None
first_fails given es o t h = ap (λ r. and_then r (run_all (steps_in es o))) (guard_fails given t h)

-- an order behind the first run
behind_first : (given : List Path) (es : List Program) (first o : List ℕ) (t : Tree) → AllByRecursion (λ k. k < length es) o
    → outcome (after_first given es first) (length es ∷ o) t ≡ and_then (run (first_run given es first) t) (outcome es o)
behind_first given es first o t below =
    ap (λ e. and_then (run e t) (outcome (after_first given es first) o)) (last_one es (first_run given es first))
    ∙ ap (and_then (run (first_run given es first) t)) (λ n u. outcome_ahead es (first_run given es first ∷ []) o u below n)

-- of two outcomes that differ one differs from a third
differs_or_not : (a b c : Outcome) → (a ≡ b → ⊥) → (a ≢ c) ⊎ (b ≢ c)
differs_or_not a b c h = elim (outcome_told a c) [
  | inl e ↦ inr (λ k. h (e ∙ sym k))
  | inr n ↦ inl n
]

module _ (given : List Path) (es : List Program) (before : ℕ → ℕ → Bool) (sure : IsDeterministicFrom given es (Told before)) where
  -- that it is told of one order which a second run in it doesn't leave
  pub exact : IsIdempotentFrom given es (Told before) ↔ ((t : Tree) (o : List ℕ) → IsSecondRunCounterexampleFrom given es (Told before) t o → ⊥)
  exact = (
    (λ h t o c. c.shows.changes (h t (record { is_tree = c.shows.is_tree; stand = c.stand }) o o c.shows.allowed c.shows.allowed c.shows.after c.shows.ends)),
    (λ h t g o p a b u done. elim (outcome_told (outcome es p u) (Some u)) [
      | inl e ↦ e
      | inr n ↦ absurd (h t p (record { stand = g.stand; shows = record { is_tree = g.is_tree; allowed = b; after = u; ends = sure t g p o b a ∙ done; changes = n } }))
    ]),
  )

  -- where no program removes a given folder, the folders stand after a run
  leaves_given : (o : List ℕ) (t u : Tree) → ((i : ℕ) → KeepsGiven given (get_or es i Id)) → Stand given t → outcome es o t ≡ Some u → Stand given u
  leaves_given [] t u keep h done = let same : t ≡ u = cc in subst (Stand given) same h
  leaves_given (i ∷ o) t u keep h done =
      let step = split_then (run (get_or es i Id) t) (outcome es o) u done in
      leaves_given o step.0 u keep (keep i t step.0 h step.1) step.2

  -- what holds of all programs, and of the one that does nothing, holds of the one with a number
  all_at : (Q : Program → Type 0) (fs : List Program) → AllByRecursion Q fs → Q Id → (i : ℕ) → Q (get_or fs i Id)
  all_at Q [] all id i = id
  all_at Q (e ∷ fs) all id zero = all.0
  all_at Q (e ∷ fs) all id (suc i) = all_at Q fs all.1 id i

  -- where no program removes a given folder, one order stands for all
  pub kept : AllByRecursion IsProper es → AllByRecursion (KeepsGiven given) es → (first : List ℕ) → IsLinearExtension (length es) (Told before) first
      → ((t : Tree) → IsSecondRunCounterexampleFrom given es (Told before) t first → ⊥) → IsIdempotentFrom given es (Told before)
  kept proper keep first allowed h t g o p a b u done =
      let ends = sure t g first o allowed a ∙ done in
      let each = all_at (KeepsGiven given) es keep (λ v w s e. let same : v ≡ w = cc in subst (Stand given) same s) in
      let next : IsGivenTree given u = record { is_tree = outcome_keeps_tree es proper first t u g.is_tree ends; stand = leaves_given first t u each g.stand ends } in
      elim (outcome_told (outcome es first u) (Some u)) [
        | inl e ↦ sure u next p first b allowed ∙ e
        | inr n ↦ absurd (h t (record { stand = g.stand; shows = record { is_tree = g.is_tree; allowed = allowed; after = u; ends = ends; changes = n } }))
      ]

  module _ (first : List ℕ) (allowed : IsLinearExtension (length es) (Told before) first) (after : ℕ → ℕ → Bool) (goes : GoesFirst (length es) before after) where
    -- the first run is one program more
    longer : length (after_first given es first) ≡ length es + 1
    longer = length-append es (first_run given es first ∷ [])

    -- an allowed order with the first run is the first run and then an allowed one
    order_behind : (o : List ℕ) → IsLinearExtension (length (after_first given es first)) (Told after) o → (p : List ℕ) × (o ≡ length es ∷ p) × IsLinearExtension (length es) (Told before) p
    order_behind o l = guard_first (length es) before after goes o (subst (λ n. IsLinearExtension n (Told after) o) longer l)

    -- and it ends as that order does behind the first run
    ends_behind : (o p : List ℕ) (t : Tree) → o ≡ length es ∷ p → IsLinearExtension (length es) (Told before) p
        → outcome (after_first given es first) o t ≡ and_then (run (first_run given es first) t) (outcome es p)
    ends_behind o p t e l = ap (λ q. outcome (after_first given es first) q t) e ∙ behind_first given es first p t l.below

    -- where the given folders stand, it ends as that order does behind the first order
    where_stand : (o p : List ℕ) (t : Tree) → o ≡ length es ∷ p → IsLinearExtension (length es) (Told before) p → Stand given t
        → outcome (after_first given es first) o t ≡ and_then (outcome es first t) (outcome es p)
    where_stand o p t e l h = ends_behind o p t e l ∙ ap (λ r. and_then r (outcome es p)) (first_stands given es first t h)

    -- and elsewhere it ends in Error
    elsewhere : (o p : List ℕ) (t : Tree) → o ≡ length es ∷ p → IsLinearExtension (length es) (Told before) p → (Stand given t → ⊥)
        → outcome (after_first given es first) o t ≡ None
    elsewhere o p t e l h = ends_behind o p t e l ∙ ap (λ r. and_then r (outcome es p)) (first_fails given es first t h)

    -- where no second run changes anything, all orders behind the first run end alike
    alike : IsIdempotentFrom given es (Told before) → IsDeterministic (after_first given es first) (Told after)
    alike h t tree o p a b =
        let l = order_behind o a in
        let r = order_behind p b in
        elim (stand_told given t) [
          | inl g ↦ where_stand o l.0 t l.1 l.2 g
              ∙ then_alike (outcome es first t) (outcome es l.0) (outcome es r.0) (λ u done.
              h t (record { is_tree = tree; stand = g }) first l.0 allowed l.2 u done ∙ sym (h t (record { is_tree = tree; stand = g }) first r.0 allowed r.2 u done))
              ∙ sym (where_stand p r.0 t r.1 r.2 g)
          | inr n ↦ elsewhere o l.0 t l.1 l.2 n ∙ sym (elsewhere p r.0 t r.1 r.2 n)
        ]

    -- the first run and then an allowed order is an allowed order
    front : (p : List ℕ) → IsLinearExtension (length es) (Told before) p → IsLinearExtension (length (after_first given es first)) (Told after) (length es ∷ p)
    front p l = subst (λ n. IsLinearExtension n (Told after) (length es ∷ p)) (sym longer) (in_front (length es) before after goes p l)

    -- what stands behind the end of the first run
    from_end : (p : List ℕ) (t u : Tree) → Stand given t → IsLinearExtension (length es) (Told before) p → outcome es first t ≡ Some u
        → outcome (after_first given es first) (length es ∷ p) t ≡ outcome es p u
    from_end p t u g l done = where_stand (length es ∷ p) p t refl l g ∙ ap (λ r. and_then r (outcome es p)) done

    -- where those end alike, and the second run in the first order changes nothing, none does
    settled : IsDeterministic (after_first given es first) (Told after) → ((t : Tree) → IsSecondRunCounterexampleFrom given es (Told before) t first → ⊥)
        → IsIdempotentFrom given es (Told before)
    settled alike h t g o p a b u done =
        let ends = sure t g first o allowed a ∙ done in
        elim (outcome_told (outcome es first u) (Some u)) [
          | inl e ↦ sym (from_end p t u g.stand b ends) ∙ alike t g.is_tree (length es ∷ p) (length es ∷ first) (front p b) (front first allowed) ∙ from_end first t u g.stand allowed ends ∙ e
          | inr n ↦ absurd (h t (record { stand = g.stand; shows = record { is_tree = g.is_tree; allowed = allowed; after = u; ends = ends; changes = n } }))
        ]

    -- no second run changes anything exactly where those behind the first run end alike, and the one in its order changes nothing
    pub after_one : IsIdempotentFrom given es (Told before)
        ↔ (IsDeterministic (after_first given es first) (Told after) × ((t : Tree) → IsSecondRunCounterexampleFrom given es (Told before) t first → ⊥))
    after_one = (
      (λ h. (alike h, λ t c. exact.0 h t first c)),
      (λ h. settled h.0 h.1),
    )

    -- an outcome is Error or a tree
    ended : (r : Outcome) → (r ≡ None) ⊎ ((u : Tree) × (r ≡ Some u))
    ended None = inl refl
    ended (Some u) = inr (u, refl)

    -- a second run that changes what the first order left is shown in some order
    shown : (t u : Tree) (o : List ℕ) → IsGivenTree given t → IsLinearExtension (length es) (Told before) o → outcome es first t ≡ Some u → outcome es o u ≢ Some u
        → IsSecondRunCounterexampleFrom given es (Told before) t o
    shown t u o g l done n = record { stand = g.stand; shows = record { is_tree = g.is_tree; allowed = l; after = u; ends = sure t g o first l allowed ∙ done; changes = n } }

    -- orders behind the first run that end differently: one of them shows a second run that changes something
    pub one_changes : (t : Tree) (o p : List ℕ) → IsCounterexample (after_first given es first) (Told after) t (length es ∷ o) (length es ∷ p)
        → IsSecondRunCounterexampleFrom given es (Told before) t o ⊎ IsSecondRunCounterexampleFrom given es (Told before) t p
    one_changes t o p c =
        let l = order_behind (length es ∷ o) c.left_allowed in
        let r = order_behind (length es ∷ p) c.right_allowed in
        let left : o ≡ l.0 = cc in
        let right : p ≡ r.0 = cc in
        let a = subst (IsLinearExtension (length es) (Told before)) (sym left) l.2 in
        let b = subst (IsLinearExtension (length es) (Told before)) (sym right) r.2 in
        elim (stand_told given t) [
          | inl g ↦ let tree : IsGivenTree given t = record { is_tree = c.is_tree; stand = g } in
              elim (ended (outcome es first t)) [
                | inl fails ↦ absurd (c.differ (where_stand (length es ∷ o) o t refl a g ∙ ap (λ r. and_then r (outcome es o)) fails
                    ∙ sym (where_stand (length es ∷ p) p t refl b g ∙ ap (λ r. and_then r (outcome es p)) fails)))
                | inr done ↦ elim (differs_or_not (outcome es o done.0) (outcome es p done.0) (Some done.0)
                    (λ e. c.differ (from_end o t done.0 g a done.1 ∙ e ∙ sym (from_end p t done.0 g b done.1)))) [
                      | inl n ↦ inl (shown t done.0 o tree a done.1 n)
                      | inr n ↦ inr (shown t done.0 p tree b done.1 n)
                    ]
              ]
          | inr n ↦ absurd (c.differ (elsewhere (length es ∷ o) o t refl a n ∙ sym (elsewhere (length es ∷ p) p t refl b n)))
        ]
