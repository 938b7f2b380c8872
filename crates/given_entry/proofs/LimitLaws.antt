-- What is refused, where folders are given.
use Rattle.std.proofs.Common.{◌≡◌, inl, inr, ℕ, ◌<◌, List, sym, subst, arith}
use Rattle.std.specs.Prelude.{codes, Result, Ok, Err, IfErr, IsErrAnd}
use Rattle.rh_base.specs.declared.fault.Fault.{Fault}
use Rattle.rh_base.specs.declared.fault.Fault.TheVariants.{Refused, Memory}
use Rattle.rh_base.specs.Refused.{IfRefused, IsRefusal}
use Rattle.fs_semantics.specs.FileTree.{Path}
use Rattle.fs_semantics.specs.Programs.{Program}
use Rattle.host_limits.specs.Limits.{domain_limit}
use Rattle.host_limits.specs.declared.limits.Limits.{Limits}
use Rattle.size_limits.specs.Paths.{HasPaths}
use Rattle.wanted_entry.specs.declared.wanted.Wanted.{Wanted}
use Rattle.given_verdict.specs.Limits.{IsTooLargeWith}
use Rattle.given_entry.specs.Sizes.{probed, HasFewPathsProbed, IsTooWideProbed, IsTooLargeProbed}

-- a refusal for more paths than the limit, with the probe, is due
pub too_many : (limits : Limits) (given : List Path) (es : List Program) (w : Wanted) (n : ℕ) → HasPaths (probed given es w) n → (e : Fault) → domain_limit limits < n
    → IfRefused e (IsRefusal 70 0 (codes "domain")) → IfRefused e (IsTooWideProbed limits given es w)
too_many limits given es w n paths (Refused r) more is = ((n, paths, more), is)
too_many limits given es w n paths (Memory m) more is = tt

-- and the domain with the probe hasn't few paths then
pub not_few : (limits : Limits) (given : List Path) (es : List Program) (w : Wanted) (n : ℕ) → ((m : ℕ) → HasPaths (probed given es w) m → n ≡ m) → domain_limit limits < n → HasFewPathsProbed limits given es w → ⊥
not_few limits given es w n one more few = let same = one few.0 few.1 in let less = few.2 in omega (arith, same, less, more)

-- what is due for the paths with the probe is due
pub too_wide : (limits : Limits) (given : List Path) (es : List Program) (w : Wanted) (e : Fault) → IfRefused e (IsTooWideProbed limits given es w) → IfRefused e (IsTooLargeProbed limits given es w)
too_wide limits given es w (Refused r) wide = inr (inl wide)
too_wide limits given es w (Memory m) h = tt

-- and so is what is due for the graph by itself, where the paths with the probe are few
pub too_large : (limits : Limits) (given : List Path) (es : List Program) (w : Wanted) → HasFewPathsProbed limits given es w → (e : Fault) → IfRefused e (IsTooLargeWith limits given es) → IfRefused e (IsTooLargeProbed limits given es w)
too_large limits given es w few (Refused r) (inl wide) = inl wide
too_large limits given es w few (Refused r) (inr heavy) = inr (inr (heavy.0, few, heavy.1, heavy.2))
too_large limits given es w few (Memory m) h = tt

-- what ends in an error that is no refusal isn't refused
pub never : {X : Type 0} (r : Result X Fault) (e : Fault) → IsErrAnd r (λ d. d ≡ e) → IfRefused e (λ x. ⊥) → IfErr r (λ d. IfRefused d (λ x. ⊥))
never (Ok x) e h k = absurd h
never (Err d) e h k = subst (λ (x : Fault). IfRefused x (λ y. ⊥)) (sym h) k
