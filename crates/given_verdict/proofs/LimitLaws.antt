-- What is refused, where folders are given.
use Rattle.std.proofs.Common.{◌≡◌, inl, inr, ℕ, ◌<◌, ◌≤◌, List, Option, Some, None, sym, subst, arith}
use Rattle.std.specs.Prelude.{codes}
use Rattle.rh_base.specs.declared.fault.Fault.{Fault}
use Rattle.rh_base.specs.declared.fault.Fault.TheVariants.{Refused, Memory}
use Rattle.rh_base.specs.declared.fault.Refusal.{Refusal}
use Rattle.rh_base.specs.Refused.{IfRefused, IsRefusal}
use Rattle.fs_semantics.specs.FileTree.{Path}
use Rattle.fs_semantics.specs.Programs.{Program}
use Rattle.host_limits.specs.Limits.{domain_limit, IsAtMost, IsMoreThan, weight_limit, IsWeightWithin, IsWeightOver}
use Rattle.host_limits.specs.declared.limits.Limits.{Limits}
use Rattle.given_verdict.specs.Graphs.{asked_programs}
use Rattle.size_limits.specs.Weights.{Weighs}
use Rattle.size_limits.specs.Paths.{HasPaths}
use Rattle.given_verdict.specs.Limits.{HasFewPathsWith, IsLightWith, IsTooLargeWith}

-- what follows from what holds of a refusal holds of it too
by_refusal : (e : Fault) (P Q : Refusal → Type 0) → ((r : Refusal) → P r → Q r) → IfRefused e P → IfRefused e Q
by_refusal (Refused r) P Q f h = f r h
by_refusal (Memory m) P Q f h = tt

-- no weight is both within a limit and over it
not_both : (w : ℕ) (most : Option ℕ) → IsAtMost w most → IsMoreThan w most → ⊥
not_both w None less more = more
not_both w (Some m) less more = omega (arith, less, more)

module _ (limits : Limits) (given : List Path) (es : List Program) (n : ℕ) (paths : HasPaths (asked_programs given es) n) where
  -- where the paths are over the limit, the refusal for the domain is due
  pub too_many : (e : Fault) → domain_limit limits < n → IfRefused e (IsRefusal 70 0 (codes "domain")) → IfRefused e (IsTooLargeWith limits given es)
  too_many e more h = by_refusal e (IsRefusal 70 0 (codes "domain")) (IsTooLargeWith limits given es) (λ r is. inl ((n, paths, more), is)) h

  -- where they are over it they aren't within it
  pub not_few : ((m : ℕ) → HasPaths (asked_programs given es) m → n ≡ m) → domain_limit limits < n → HasFewPathsWith limits given es → ⊥
  not_few one more few = let same = one few.0 few.1 in let less = few.2 in omega (arith, same, less, more)

  module _ (w : ℕ) (weighs : Weighs es w) where
    -- where the paths are within the limit and the weight is over it, the refusal for the weight is due
    pub too_heavy : (e : Fault) → n ≤ domain_limit limits → IsWeightOver limits w → IfRefused e (IsRefusal 70 0 (codes "weight")) → IfRefused e (IsTooLargeWith limits given es)
    too_heavy e few more h = by_refusal e (IsRefusal 70 0 (codes "weight")) (IsTooLargeWith limits given es) (λ r is. inr ((n, paths, few), (w, weighs, more), is)) h

    -- where the weight is over the limit it isn't within it
    pub not_light : ((v : ℕ) → Weighs es v → w ≡ v) → IsWeightOver limits w → IsLightWith limits es → ⊥
    not_light one more light = not_both w (weight_limit limits) (subst (IsWeightWithin limits) (sym (one light.0 light.1)) light.2) more
