-- Runs of steps that commute do not depend on the order.
use Rattle.std.proofs.Common.{◌≡◌, ℕ, ◌+◌, List, [], ◌∷◌, ◌++◌, Some, None, refl, sym, ap, ◌∙◌, arith}
use Rattle.fs_semantics.specs.FileTree.{Tree}
use Rattle.fs_semantics.specs.Orders.{times}
use Rattle.fs_semantics.specs.Programs.{Outcome, and_then}
use Rattle.fs_semantics.proofs.Counts.{times_append, times_itself, times_found}

-- how three steps are grouped doesn't matter
pub and_then_assoc : (r : Outcome) (f g : Tree → Outcome) → and_then (and_then r f) g ≡ and_then r (λ t. and_then (f t) g)
and_then_assoc None f g = refl
and_then_assoc (Some t) f g = refl

-- what comes after is the same, where it is the same from the tree that is reached
pub then_alike : (r : Outcome) (f g : Tree → Outcome) → ((u : Tree) → r ≡ Some u → f u ≡ g u) → and_then r f ≡ and_then r g
then_alike None f g same = refl
then_alike (Some t) f g same = same t refl

-- steps by number, one after the other
abbrev pub run_steps : (ℕ → Tree → Outcome) → List ℕ → Tree → Outcome
run_steps step [] t = Some t
run_steps step (i ∷ order) t = and_then (step i t) (run_steps step order)

-- each step leaves such a tree, and in which order two of them are made is the same
pub record CommutingSteps (P : Tree → Type 0) (step : ℕ → Tree → Outcome) : Type 0 where
  pub keeps : (i : ℕ) (t u : Tree) → P t → step i t ≡ Some u → P u
  pub commute : (i j : ℕ) (t : Tree) → P t → and_then (step i t) (step j) ≡ and_then (step j t) (step i)

module _ (P : Tree → Type 0) (step : ℕ → Tree → Outcome) (steps : CommutingSteps P step) where
  -- a step may be made first
  pub to_front : (front : List ℕ) (i : ℕ) (back : List ℕ) (t : Tree) → P t → run_steps step (front ++ i ∷ back) t ≡ run_steps step (i ∷ front ++ back) t
  to_front [] i back t good = refl
  to_front (j ∷ front) i back t good =
      then_alike (step j t) (run_steps step (front ++ i ∷ back)) (run_steps step (i ∷ front ++ back)) (λ u is. to_front front i back u (steps.keeps j t u good is))
      ∙ sym (and_then_assoc (step j t) (step i) (run_steps step (front ++ back)))
      ∙ ap (λ r. and_then r (run_steps step (front ++ back))) (steps.commute j i t good)
      ∙ and_then_assoc (step i t) (step j) (run_steps step (front ++ back))

-- two orders that have each number equally often
pub same_runs : (P : Tree → Type 0) (step : ℕ → Tree → Outcome) → CommutingSteps P step → (o p : List ℕ) → ((k : ℕ) → times k o ≡ times k p) → (t : Tree) → P t → run_steps step o t ≡ run_steps step p t
same_runs P step steps [] [] h t good = refl
same_runs P step steps [] (i ∷ p) h t good = absurd (omega (arith, h i, times_itself i p))
same_runs P step steps (i ∷ o) p h t good =
    let split = times_found i p (omega (arith, h i, times_itself i o)) in
    let rest : (k : ℕ) → times k o ≡ times k (split.0 ++ split.1) = λ k.
    omega (arith, h k, ap (times k) split.2, times_append k split.0 (i ∷ split.1), times_append k split.0 split.1) in
    then_alike (step i t) (run_steps step o) (run_steps step (split.0 ++ split.1)) (λ u is. same_runs P step steps o (split.0 ++ split.1) rest u (steps.keeps i t u good is))
    ∙ sym (to_front P step steps split.0 i split.1 t good)
    ∙ ap (λ q. run_steps step q t) (sym split.2)
