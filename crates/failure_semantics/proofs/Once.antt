-- One construct at most gives Error.
use Rattle.std.proofs.Common.{◌≡◌, inl, inr, Some, sym, subst, ◌∙◌}
use Rattle.fs_semantics.specs.FileTree.{Tree}
use Rattle.fs_semantics.specs.Programs.{Not, Program, Programs, Id, Err, Mkdir, Creat, Link, Rm, Cp, Steps, If, none, next, run}
use Rattle.failure_semantics.specs.Failures.{Reason, Explains, Failure, Choice, FailsHere, FailsIn, FailInSteps}
use Rattle.failure_semantics.specs.Told.{no_place, not_gone, no_copy}
use Rattle.failure_semantics.proofs.ReasonLaws.{place_reason, removal_reason, copy_reason}
use Rattle.failure_semantics.proofs.Found.{error}

-- a construct with one reason at most
same : (e : Program) (t : Tree) (r : Reason) → ((s : Reason) → Explains e s t → s ≡ r) → (f g : Failure) → FailsHere e t f → FailsHere e t g → f ≡ g
same e t r one f g h k =
    let a = h.construct ∙ sym k.construct in
    let b = one f.reason h.reason ∙ sym (one g.reason k.reason) in
    let d = h.tree ∙ sym k.tree in
    λ i. record { construct = a i; reason = b i; tree = d i }

-- a run ends in one tree only
ends_once : (e : Program) (t u v : Tree) → run e t ≡ Some u → run e t ≡ Some v → u ≡ v
ends_once e t u v h k = cc

mutual
  -- one construct at most gives Error in a program
  pub once : (c : Choice) (e : Program) (t : Tree) (f g : Failure) → FailsIn c e t f → FailsIn c e t g → f ≡ g
  once c Id t f g h k = absurd h
  once c Err t f g h k = h ∙ sym k
  once c (Mkdir p) t f g h k = same (Mkdir p) t (no_place t p) (place_reason t p) f g h k
  once c (Creat p content) t f g h k = same (Creat p content) t (no_place t p) (place_reason t p) f g h k
  once c (Link p target) t f g h k = same (Link p target) t (no_place t p) (place_reason t p) f g h k
  once c (Rm p) t f g h k = same (Rm p) t (not_gone t p) (removal_reason t p) f g h k
  once c (Cp from p) t f g h k = same (Cp from p) t (no_copy t from p) (copy_reason t from p) f g h k
  once c (Steps es) t f g h k = once_in c es t f g h k
  once c (If a e o) t f g h k = elim h [
    | inl x ↦ elim k [ inl y ↦ once (Some (Not a, t)) e t f g x.1 y.1 | inr y ↦ absurd (y.0 x.0) ]
    | inr x ↦ elim k [ inl y ↦ absurd (x.0 y.0) | inr y ↦ once (Some (a, t)) o t f g x.1 y.1 ]
  ]

  -- and in steps
  once_in : (c : Choice) (es : Programs) (t : Tree) (f g : Failure) → FailInSteps c es t f → FailInSteps c es t g → f ≡ g
  once_in c none t f g h k = absurd h
  once_in c (next e es) t f g h k = elim h [
    | inl x ↦ elim k [ inl y ↦ once c e t f g x y | inr y ↦ let fails = error c e t f x in let ends = y.1 in cc ]
    | inr x ↦ elim k [
      | inl y ↦ let fails = error c e t g y in let ends = x.1 in cc
      | inr y ↦ once_in c es x.0 f g x.2 (subst (λ v. FailInSteps c es v g) (ends_once e t y.0 x.0 y.1 x.1) y.2)
    ]
  ]
