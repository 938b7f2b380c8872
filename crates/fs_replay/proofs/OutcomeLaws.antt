-- Outcomes of runs, and what cells stand for.
use Rattle.std.proofs.Common.{◌≡◌, ℕ, zero, suc, ◌<◌, true, false, Bool, List, [], ◌∷◌, length, get_or, Some, None, Result, Ok, Err, IfSome, IfOk, refl, sym, subst, ◌∙◌, arith}
use Rattle.fs_semantics.specs.FileTree.{Tree, HasParents}
use Rattle.fs_semantics.specs.Programs.{Outcome, Program as Steps, Id, and_then, run}
use Rattle.fs_semantics.specs.Orders.{outcome}
use Rattle.fs_lang.specs.declared.program.Program.{Program}
use Rattle.fs_lang.specs.Meaning.{program_of, programs_in}
use Rattle.fs_interpreter.specs.Places.{Listed, Covers, CoversSteps}
use Rattle.fs_interpreter.specs.States.{State}
use Rattle.fs_interpreter.specs.Standing.{Stands, StandsFor}

-- a table that has what a list of programs names has what each of them names
pub covers_at : (t : Listed) (es : List Program) (i : ℕ) (e : Program) → CoversSteps t (programs_in es) → i < length es → e ≡ get_or es i e → Covers t (program_of e)
covers_at t [] i e h below is = absurd (omega arith)
covers_at t (x ∷ es) zero e h below is = subst (λ (y : Program). Covers t (program_of y)) (sym is) h.0
covers_at t (x ∷ es) (suc i) e h below is = covers_at t es i e h.1 (omega arith) is

module _ (keeps : (e : Steps) (t u : Tree) → HasParents t → run e t ≡ Some u → HasParents u) where
  -- so has what a program leaves of such a tree
  pub run_parents : (e : Steps) (t : Tree) → HasParents t → IfSome (run e t) HasParents
  run_parents e t h = elim (run e t) as (λ o. run e t ≡ o → IfSome o HasParents) [
    | None ↦ λ k. tt
    | Some u ↦ λ k. keeps e t u h k
  ] refl

  -- so has what a run leaves that follows another, where both leave such trees
  pub then_parents : (o : Outcome) (f : Tree → Outcome) → IfSome o HasParents → ((t : Tree) → HasParents t → IfSome (f t) HasParents) → IfSome (and_then o f) HasParents
  then_parents None f h k = tt
  then_parents (Some t) f h k = k t h

  -- so has what an order leaves
  pub outcome_parents : (es : List Steps) (order : List ℕ) (t : Tree) → HasParents t → IfSome (outcome es order t) HasParents
  outcome_parents es [] t h = h
  outcome_parents es (i ∷ order) t h = then_parents (run (get_or es i Id) t) (outcome es order) (run_parents (get_or es i Id) t h) (λ u k. outcome_parents es order u k)

-- cells without the error bit stand for a tree
pub a_tree : (table : Listed) (s : State) (o : Outcome) → s.error ≡ false → StandsFor table s o → IfSome o HasParents → (t : Tree) × Stands table s t × HasParents t
a_tree table s None fine h k = let clash : ◌≡◌ {A = Bool} true false = sym h ∙ fine in cc
a_tree table s (Some t) fine h k = (t, h, k)

-- where the cells stand for one outcome alone, the outcome that is told of them is that one
pub told_is : {X E : Type 0} (r : Result X E) (f : X → Outcome) (table : Listed) (s : State) (o : Outcome) → ((a b : Outcome) → StandsFor table s a → StandsFor table s b → a ≡ b) → StandsFor table s o
    → IfOk r (λ x. StandsFor table s (f x)) → IfOk r (λ x. f x ≡ o)
told_is (Ok x) f table s o one h k = one (f x) o k h
told_is (Err e) f table s o one h k = tt
