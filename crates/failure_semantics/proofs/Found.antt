-- A run that ends in Error has a construct that fails, and one that has such a construct ends in Error.
use Rattle.std.proofs.Common.{◌≡◌, ◌⊎◌, inl, inr, Bool, true, false, cond, Some, None, refl, sym, ap, subst, ◌∙◌}
use Rattle.std.specs.Prelude.{IsTrue}
use Rattle.fs_semantics.specs.FileTree.{Folder, File, Link as LinkTo, Tree}
use Rattle.fs_semantics.specs.Programs.{Not, Program, Programs, Id, Err, Mkdir, Creat, Link, Rm, Cp, Steps, If, none, next, Outcome, and_then, holds, run, run_all}
use Rattle.fs_semantics.proofs.Words.{not_holds}
use Rattle.failure_semantics.specs.Failures.{Reason, Explains, Failure, Choice, refusal, FailsHere, FailsIn, FailInSteps}
use Rattle.failure_semantics.specs.Told.{no_place, not_gone, no_copy}
use Rattle.failure_semantics.proofs.ReasonLaws.{place_lacks, removal_lacks, copy_lacks}
use Rattle.std.proofs.lemmas.Bool.{cases_Bool}

-- either outcome
pub ended : (o : Outcome) → (o ≡ None) ⊎ ((u : Tree) × (o ≡ Some u))
ended None = inl refl
ended (Some u) = inr (u, refl)

-- a construct that ends in Error by itself, for a reason that holds, fails here
tried : (e : Program) (t : Tree) (r : Reason) → run e t ≡ None → Explains e r t → (f : Failure) × FailsHere e t f
tried e t r h why = (record { construct = e; reason = r; tree = t }, record { construct = refl; tree = refl; fails = h; reason = why })

-- nothing is both true and false
pub off : (b : Bool) → b ≡ false → b ≡ true → ⊥
off true h k = cc
off false h k = cc

mutual
  -- a program that ends in Error has a construct that gave it
  pub found : (c : Choice) (e : Program) (t : Tree) → run e t ≡ None → (f : Failure) × FailsIn c e t f
  found c Id t h = cc
  found c Err t h = (refusal c t, refl)
  found c (Mkdir p) t h = tried (Mkdir p) t (no_place t p) h (place_lacks t p Folder h)
  found c (Creat p content) t h = tried (Creat p content) t (no_place t p) h (place_lacks t p (File content) h)
  found c (Link p target) t h = tried (Link p target) t (no_place t p) h (place_lacks t p (LinkTo target) h)
  found c (Rm p) t h = tried (Rm p) t (not_gone t p) h (removal_lacks t p h)
  found c (Cp from p) t h = tried (Cp from p) t (no_copy t from p) h (copy_lacks t from p h)
  found c (Steps es) t h = found_in c es t h
  found c (If a e g) t h = elim (cases_Bool (holds a t)) [
    | inl holding ↦ let f = found (Some (Not a, t)) e t (ap (λ b. cond b (run e t) (run g t)) (sym holding) ∙ h) in (f.0, inl (holding, f.1))
    | inr other ↦ let f = found (Some (a, t)) g t (ap (λ b. cond b (run e t) (run g t)) (sym other) ∙ h) in (f.0, inr (off (holds a t) other, f.1))
  ]

  -- and so have steps
  found_in : (c : Choice) (es : Programs) (t : Tree) → run_all es t ≡ None → (f : Failure) × FailInSteps c es t f
  found_in c none t h = cc
  found_in c (next e es) t h = elim (ended (run e t)) [
    | inl fails ↦ let f = found c e t fails in (f.0, inl f.1)
    | inr ends ↦ let f = found_in c es ends.0 (ap (λ o. and_then o (run_all es)) (sym ends.1) ∙ h) in (f.0, inr (ends.0, ends.1, f.1))
  ]

mutual
  -- a program with a construct that gave Error ends in Error
  pub error : (c : Choice) (e : Program) (t : Tree) (f : Failure) → FailsIn c e t f → run e t ≡ None
  error c Id t f h = absurd h
  error c Err t f h = refl
  error c (Mkdir p) t f h = h.fails
  error c (Creat p content) t f h = h.fails
  error c (Link p target) t f h = h.fails
  error c (Rm p) t f h = h.fails
  error c (Cp from p) t f h = h.fails
  error c (Steps es) t f h = error_in c es t f h
  error c (If a e g) t f h = elim h [
    | inl x ↦ ap (λ b. cond b (run e t) (run g t)) x.0 ∙ error (Some (Not a, t)) e t f x.1
    | inr x ↦ ap (λ b. cond b (run e t) (run g t)) (not_true (holds a t) x.0) ∙ error (Some (a, t)) g t f x.1
  ]
    where
      not_true : (b : Bool) → (b ≡ true → ⊥) → b ≡ false
      not_true true h = absurd (h refl)
      not_true false h = refl

  -- and so do steps
  error_in : (c : Choice) (es : Programs) (t : Tree) (f : Failure) → FailInSteps c es t f → run_all es t ≡ None
  error_in c none t f h = absurd h
  error_in c (next e es) t f h = elim h [
    | inl x ↦ ap (λ o. and_then o (run_all es)) (error c e t f x)
    | inr x ↦ ap (λ o. and_then o (run_all es)) x.1 ∙ error_in c es x.0 f x.2
  ]

-- ---- the reason holds, and the construct fails by itself

-- the test of the choice didn't hold
abbrev Missed : Choice → Type 0
Missed None = Unit {0}
Missed (Some c) = IsTrue (holds c.0 c.1) → ⊥

-- the reason holds, and the construct ends in Error by itself
pub record Told (f : Failure) : Type 0 where
  pub why : Explains f.construct f.reason f.tree
  pub fails : run f.construct f.tree ≡ None

-- of a choice whose test didn't hold the refusal is told so
refused : (c : Choice) (t : Tree) → Missed c → Told (refusal c t)
refused None t m = record { why = tt; fails = refl }
refused (Some c) t m = record { why = m; fails = refl }

-- and so is what fails here
here : (e : Program) (t : Tree) (f : Failure) → FailsHere e t f → Told f
here e t f h = record {
  why = subst (λ x. Explains x f.reason f.tree) (sym h.construct) (subst (λ u. Explains e f.reason u) (sym h.tree) h.reason);
  fails = ap (λ x. run x f.tree) h.construct ∙ ap (run e) h.tree ∙ h.fails;
}

mutual
  -- what fails in a program is told so
  pub told : (c : Choice) (e : Program) (t : Tree) (f : Failure) → Missed c → FailsIn c e t f → Told f
  told c Id t f m h = absurd h
  told c Err t f m h = subst Told (sym h) (refused c t m)
  told c (Mkdir p) t f m h = here (Mkdir p) t f h
  told c (Creat p content) t f m h = here (Creat p content) t f h
  told c (Link p target) t f m h = here (Link p target) t f h
  told c (Rm p) t f m h = here (Rm p) t f h
  told c (Cp from p) t f m h = here (Cp from p) t f h
  told c (Steps es) t f m h = told_in c es t f m h
  told c (If a e g) t f m h = elim h [
    | inl x ↦ told (Some (Not a, t)) e t f (λ k. (not_holds a t).0 k x.0) x.1
    | inr x ↦ told (Some (a, t)) g t f x.0 x.1
  ]

  -- and what fails in steps
  told_in : (c : Choice) (es : Programs) (t : Tree) (f : Failure) → Missed c → FailInSteps c es t f → Told f
  told_in c none t f m h = absurd h
  told_in c (next e es) t f m h = elim h [
    | inl x ↦ told c e t f m x
    | inr x ↦ told_in c es x.0 f m x.2
  ]
