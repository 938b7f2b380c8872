-- What is refused, where folders are given.
use Rattle.std.proofs.Common.{◌≡◌, inl, inr, ℕ, ◌<◌, List, sym, subst, arith}
use Rattle.std.specs.Prelude.{codes, Result, Ok, Err, IfErr, IsErrAnd}
use Rattle.rh_base.specs.declared.fault.Fault.{Fault}
use Rattle.rh_base.specs.declared.fault.Fault.TheVariants.{Refused, Memory}
use Rattle.rh_base.specs.Refused.{IfRefused, IsRefusal}
use Rattle.fs_semantics.specs.FileTree.{Path}
use Rattle.fs_semantics.specs.Programs.{Program}
use Rattle.host_limits.specs.Limits.{domain_limit}
use Rattle.host_limits.specs.declared.limits.Limits.{Limits}
use Rattle.size_limits.specs.Paths.{HasPaths}
use Rattle.given_verdict.specs.Limits.{HasFewPathsWith, IsLightWith, IsTooLargeWith}
use Rattle.given_equal.specs.Sizes.{joined, HasFewPathsJoined, IsTooWideJoined, IsTooLargeJoined}

module _ (limits : Limits) (given : List Path) (es fs : List Program) where
  -- a refusal for more paths than the limit, of both graphs, is due
  pub too_many : (n : ℕ) → HasPaths (joined given es fs) n → (e : Fault) → domain_limit limits < n → IfRefused e (IsRefusal 70 0 (codes "domain")) → IfRefused e (IsTooWideJoined limits given es fs)
  too_many n paths (Refused r) more is = ((n, paths, more), is)
  too_many n paths (Memory m) more is = tt

  -- and the domain of both hasn't few paths then
  pub not_few : (n : ℕ) → ((m : ℕ) → HasPaths (joined given es fs) m → n ≡ m) → domain_limit limits < n → HasFewPathsJoined limits given es fs → ⊥
  not_few n one more few = let same = one few.0 few.1 in let less = few.2 in omega (arith, same, less, more)

  -- what is due for the paths of both is due
  pub both_too_wide : (e : Fault) → IfRefused e (IsTooWideJoined limits given es fs) → IfRefused e (IsTooLargeJoined limits given es fs)
  both_too_wide (Refused r) h = inl h
  both_too_wide (Memory m) h = tt

  -- and so is what is due for the first graph, where the paths of both are few
  pub left_too_large : HasFewPathsJoined limits given es fs → (e : Fault) → IfRefused e (IsTooLargeWith limits given es) → IfRefused e (IsTooLargeJoined limits given es fs)
  left_too_large few (Refused r) h = inr (few, inl h)
  left_too_large few (Memory m) h = tt

  -- and what is due for the second, where the first is within the limits
  pub right_too_large : HasFewPathsJoined limits given es fs → HasFewPathsWith limits given es → IsLightWith limits es → (e : Fault) → IfRefused e (IsTooLargeWith limits given fs) → IfRefused e (IsTooLargeJoined limits given es fs)
  right_too_large few paths light (Refused r) h = inr (few, inr (paths, light, h))
  right_too_large few paths light (Memory m) h = tt

-- what ends in an error that is no refusal isn't refused
pub never : {X : Type 0} (r : Result X Fault) (e : Fault) → IsErrAnd r (λ d. d ≡ e) → IfRefused e (λ x. ⊥) → IfErr r (λ d. IfRefused d (λ x. ⊥))
never (Ok x) e h k = absurd h
never (Err d) e h k = subst (λ (x : Fault). IfRefused x (λ y. ⊥)) (sym h) k
