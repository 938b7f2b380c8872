-- What stands behind a first run: all orders end alike there, or one of two shows a second run that changes something.
use Rattle.std.proofs.Common.{◌≡◌, ◌≢◌, ◌⊎◌, inl, inr, ℕ, Bool, true, false, ◌+◌, ◌<◌, List, [], ◌∷◌, ◌++◌, length, length-append, map, drop, get_or, Some, None, refl, sym, ap, subst, ◌∙◌}
use Rattle.std.specs.List.{AllByRecursion}
use Rattle.fs_semantics.specs.FileTree.{Path, Tree}
use Rattle.fs_semantics.specs.Programs.{Program, Programs, Id, Steps, none, next, Outcome, and_then}
use Rattle.fs_semantics.specs.Orders.{Told, IsLinearExtension, outcome, IsDeterministic, IsCounterexample}
use Rattle.fs_semantics.proofs.Commuting.{outcome-append}
use Rattle.given_hosts.specs.Given.{IsDeterministicFrom, IsIdempotentFrom, IsSecondRunCounterexampleFrom}
use Rattle.given_hosts.specs.Guard.{guard, GoesFirst, steps_in, first_run, after_first, guard_before}
use Rattle.given_hosts.proofs.GuardLaws.{guard_first, goes_first}
use Rattle.given_hosts.proofs.SecondRuns.{after_one, one_changes}
use Rattle.fs_lang.specs.Meaning.{program_of, programs_in}
use Rattle.fs_lang.specs.declared.program.Program.{Program as Code}
use Rattle.sure_folders.specs.Pruning.{chosen}
use Rattle.orders.specs.Relation.{Relation, comes}
use Rattle.cnf.specs.Formulas.{Formula}
use Rattle.proof_check.specs.Refuted.{HasNoModel}
use Rattle.order_encode.specs.Witnesses.{IsFirstExtension}
use Rattle.order_encode.specs.declared.witness.Witness.{Witness}
use Rattle.order_encode.specs.declared.witness.Witness.TheVariants as witness
use Rattle.given_verdict.specs.Second.{NeverChangedFrom, IsSecondChangeFrom, IsSecondProofFrom, IsChangeFrom}
use Rattle.given_verdict.specs.Behind.{IsDifferenceBehind, EndsDifferently, IsDifferentOf}

-- ---- a first run as one program

-- programs as the steps of one
abbrev as_steps : List Program → Programs
as_steps [] = none
as_steps (e ∷ es) = next e (as_steps es)

-- the steps that are written in a list are its programs
programs_are : (es : List Code) → programs_in es ≡ as_steps (map program_of es)
programs_are [] = refl
programs_are (e ∷ es) = ap (next (program_of e)) (programs_are es)

-- the programs that an order chooses, as steps, are the steps in that order
steps_are : (es : List Program) (o : List ℕ) → as_steps (chosen es o) ≡ steps_in es o
steps_are es [] = refl
steps_are es (i ∷ o) = ap (next (get_or es i Id)) (steps_are es o)

-- a list that has the guard and then the programs of an order is, as one program, a first run in that order
pub run_is : (given : List Path) (es : List Program) (o : List ℕ) (steps : List Code) → map program_of steps ≡ guard given ∷ chosen es o → Steps (programs_in steps) ≡ first_run given es o
run_is given es o steps h = ap Steps (programs_are steps ∙ ap as_steps h ∙ ap (next (guard given)) (steps_are es o))

-- ---- a second run in an order

-- a run ends in Error, or in a tree
pub ended : (r : Outcome) → (r ≡ None) ⊎ ((u : Tree) × (r ≡ Some u))
ended None = inl refl
ended (Some u) = inr (u, refl)

-- two runs in an order end as the second does from what the first left
twice : (es : List Program) (o : List ℕ) (t : Tree) (r : Outcome) → outcome es o t ≡ r → outcome es (o ++ o) t ≡ and_then r (outcome es o)
twice es o t r h = outcome-append es o o t ∙ ap (λ x. and_then x (outcome es o)) h

-- it doesn't end as the first does, where it changes something
pub changed_differs : (es : List Program) (o : List ℕ) (t u : Tree) → outcome es o t ≡ Some u → outcome es o u ≢ Some u → EndsDifferently es t o
changed_differs es o t u ends changes same = changes (sym (twice es o t (Some u) ends) ∙ sym same ∙ ends)

-- and where it doesn't end so, it changes something
pub differs_changed : (es : List Program) (o : List ℕ) (t : Tree) → EndsDifferently es t o → (u : Tree) × (outcome es o t ≡ Some u) × (outcome es o u ≢ Some u)
differs_changed es o t differ = elim (ended (outcome es o t)) [
  | inl fails ↦ absurd (differ (fails ∙ sym (twice es o t None fails)))
  | inr done ↦ (done.0, done.1, λ same. differ (done.1 ∙ sym same ∙ sym (twice es o t (Some done.0) done.1)))
]

module _ (given : List Path) (es : List Program) (order : Relation) (long : length es ≡ order.count) (sure : IsDeterministicFrom given es (Told (comes order))) where
  -- the order in which the guard comes before all others
  abbrev after : ℕ → ℕ → Bool
  after = guard_before order.count (comes order)

  -- in it the guard goes first
  goes : GoesFirst (length es) (comes order) (guard_before order.count (comes order))
  goes = subst (λ n. GoesFirst n (comes order) (guard_before order.count (comes order))) (sym long) (goes_first order.count (comes order))

  -- the first extension is an allowed order
  allowed : (first : List ℕ) → IsFirstExtension order first → IsLinearExtension (length es) (Told (comes order)) first
  allowed first is = subst (λ n. IsLinearExtension n (Told (comes order)) first) (sym long) is.allowed

  -- an order that is allowed behind a first run is that run, and then an allowed order of the programs
  pub front : (first o : List ℕ) → IsLinearExtension (length (after_first given es first)) (Told (guard_before order.count (comes order))) o
      → (p : List ℕ) × (o ≡ length es ∷ p) × IsLinearExtension (length es) (Told (comes order)) p
  front first o l =
      guard_first (length es) (comes order) (guard_before order.count (comes order)) goes o
      (subst (λ n. IsLinearExtension n (Told (guard_before order.count (comes order))) o) (length-append es (first_run given es first ∷ [])) l)

  -- behind the first run such an order has numbers of the programs alone
  pub rest_below : (first o : List ℕ) → IsLinearExtension (length (after_first given es first)) (Told (guard_before order.count (comes order))) o → AllByRecursion (λ k. k < length es) (drop 1 o)
  rest_below first o l = let p = front first o l in subst (AllByRecursion (λ k. k < length es)) (sym (ap (drop 1) p.1)) p.2.below

  -- a second run that doesn't end as the first does, from a tree of which it is known that the given folders stand in it
  shows : (t : Tree) (o p : List ℕ) → IsLinearExtension (length es) (Told (comes order)) o → EndsDifferently es t o
      → IsSecondRunCounterexampleFrom given es (Told (comes order)) t p → IsSecondRunCounterexampleFrom given es (Told (comes order)) t o
  shows t o p l differ c =
      let d = differs_changed es o t differ in
      record { stand = c.stand; shows = record { is_tree = c.shows.is_tree; allowed = l; after = d.0; ends = d.1; changes = d.2 } }

  -- where folders are given and one of two orders shows a second run that changes something, so does the witness chosen of them
  one_of : given ≢ [] → (t : Tree) (o p : List ℕ) → IsLinearExtension (length es) (Told (comes order)) o → (w : Witness) → IsDifferentOf es t o p w
      → IsSecondRunCounterexampleFrom given es (Told (comes order)) t o ⊎ IsSecondRunCounterexampleFrom given es (Told (comes order)) t p → IsChangeFrom given es order w
  one_of some t o p l w (inl d) (inl c) = subst (IsChangeFrom given es order) (sym d.1) (shows t o o l d.0 c, λ none. absurd (some none))
  one_of some t o p l w (inl d) (inr c) = subst (IsChangeFrom given es order) (sym d.1) (shows t o p l d.0 c, λ none. absurd (some none))
  one_of some t o p l w (inr d) (inl c) = absurd (d.0 (changed_differs es o t c.shows.after c.shows.ends c.shows.changes))
  one_of some t o p l w (inr d) (inr c) = subst (IsChangeFrom given es order) (sym d.1) (c, λ none. absurd (some none))

  -- two orders that end differently behind a first run make a witness of a second run that changes something
  pub changes : given ≢ [] → (tree : Tree) (left right : List ℕ) → IsDifferenceBehind given es order (witness.Orders tree left right) → (w : Witness)
      → IsDifferentOf es tree (drop 1 left) (drop 1 right) w → IsChangeFrom given es order w
  changes some tree left right h w is =
      let c = h.differs.0 in
      let l = front h.first left c.left_allowed in
      let r = front h.first right c.right_allowed in
      let both = subst (λ q. IsCounterexample (after_first given es h.first) (Told (guard_before order.count (comes order))) tree (length es ∷ l.0) q) r.1
      (subst (λ q. IsCounterexample (after_first given es h.first) (Told (guard_before order.count (comes order))) tree q right) l.1 c) in
      let told = one_changes given es (comes order) sure h.first (allowed h.first h.is_first) (guard_before order.count (comes order)) goes tree l.0 r.0 both in
      let same = subst (λ q. IsDifferentOf es tree l.0 q w) (ap (drop 1) r.1) (subst (λ q. IsDifferentOf es tree q (drop 1 right) w) (ap (drop 1) l.1) is) in
      one_of some tree l.0 r.0 l.2 w same told

  -- where all orders end alike behind the first run, and a second run in it changes nothing, none does
  pub idempotent : (first : List ℕ) → IsFirstExtension order first → IsDeterministic (after_first given es first) (Told (guard_before order.count (comes order)))
      → NeverChangedFrom given es order → IsIdempotentFrom given es (Told (comes order))
  idempotent first is alike never =
      (after_one given es (comes order) sure first (allowed first is) (guard_before order.count (comes order)) goes).1 (alike, λ t c. never t first (record { is_first = is; shows = c }))

-- ---- formulas and witnesses

-- where no second run changes anything, any formula without a model states the question
pub stated_by_any : (given : List Path) (es : List Program) (order : Relation) (f : Formula) → IsIdempotentFrom given es (Told (comes order)) → HasNoModel f → IsSecondProofFrom given es order f
stated_by_any given es order f same no_model = record {
  states = λ d lay. (
    (λ sat. absurd (no_model sat.0 sat.1)),
    (λ h.
        let c = h.changed.shows in
        absurd (c.shows.changes (same h.tree (record { is_tree = c.shows.is_tree; stand = c.stand }) h.first h.first c.shows.allowed c.shows.allowed c.shows.after c.shows.ends))),
  );
  no_model = no_model;
}

-- a second run in the first extension that changes something is one in an allowed order, and in the first extension
pub change_of_first : (given : List Path) (es : List Program) (order : Relation) (w : Witness) → IsSecondChangeFrom given es order w → IsChangeFrom given es order w
change_of_first given es order (witness.Orders tree left right) h = h
change_of_first given es order (witness.Twice tree o) h = (h.shows, λ none. h.is_first)
change_of_first given es order (witness.Ends tree o) h = h
