-- Two programs by themselves, and lists of pairs.
use Rattle.std.proofs.Common.{◌≡◌, ℕ, zero, suc, ◌<◌, List, [], ◌∷◌, Option, Some, None, length, get_or, subst, subst₂, arith}
use Rattle.std.specs.Prelude.{IfSome}
use Rattle.std.specs.List.{Contains, AllByRecursion}
use Rattle.fs_semantics.specs.Programs.{Program, Id}
use Rattle.fs_semantics.specs.Changes.{Commutes}
use Rattle.fs_semantics.specs.Orders.{Told, IsDeterministic, IsFree, FreeCommute}
use Rattle.orders.specs.Relation.{Relation, comes}
use Rattle.determinism.specs.Settled.{PairCommutes, AreSettled, IsSettled}
use Rattle.determinism.specs.declared.settling.Settled.{Settled}
use Rattle.determinism.specs.declared.settling.Settled.TheVariants as settled

-- what is said of two programs by themselves is said of them
pub two_commute : (es two : List Program) (before : ℕ → ℕ → Type 0) (a b : ℕ) → length two ≡ 2 → IsFree before 0 1 → get_or two 0 Id ≡ get_or es a Id → get_or two 1 Id ≡ get_or es b Id
    → FreeCommute two before → Commutes (get_or es a Id) (get_or es b Id)
two_commute es two before a b long free first second commute = subst₂ Commutes first second (commute 0 1 (omega (arith, long)) (omega (arith, long)) free)

-- what follows from a fact of the formula, where one was refuted
pub some_by : {A : Type 0} {P Q : Type 0} (found : Option A) → (P → Q) → IfSome found (λ a. P) → IfSome found (λ a. Q)
some_by None f h = tt
some_by (Some a) f h = f h

-- what holds of all members holds of each
pub of_member : (P : (ℕ × ℕ) → Type 0) (xs : List (ℕ × ℕ)) (x : ℕ × ℕ) → Contains xs x → AllByRecursion P xs → P x
of_member P [] x h all = absurd (omega (arith, h.1))
of_member P (y ∷ xs) x (zero, h, at) all = subst P at all.0
of_member P (y ∷ xs) x (suc i, h, at) all = of_member P xs x (i, omega (arith, h), at) all.1

-- where it is enough that the pairs commute, what is known of them is known of all
pub settled_from : (es : List Program) (order : Relation) (pairs : List (ℕ × ℕ)) (s : Settled) → (AllByRecursion (PairCommutes es) pairs → IsDeterministic es (Told (comes order)))
    → AreSettled es order pairs s → IsSettled es order s
settled_from es order pairs (settled.Alike v) enough h = (enough h.0, h.1)
settled_from es order pairs (settled.Differ d) enough h = h
settled_from es order pairs settled.Open enough h = tt
