-- Graphs that are too large to be asked about. The given paths are paths of the domain; they don't weigh.
use Rattle.std.specs.Prelude.{◌⊎◌, ℕ, ◌<◌, ◌≤◌, List, codes}
use Rattle.rh_base.specs.declared.fault.Refusal.{Refusal}
use Rattle.rh_base.specs.Refused.{IsRefusal}
use Rattle.fs_semantics.specs.FileTree.{Path}
use Rattle.fs_semantics.specs.Programs.{Program}
use Rattle.host_limits.specs.Limits.{domain_limit, IsWeightWithin, IsWeightOver}
use Rattle.host_limits.specs.declared.limits.Limits.{Limits}
use Rattle.size_limits.specs.Weights.{Weighs}
use Rattle.size_limits.specs.Paths.{HasPaths}
use Rattle.given_verdict.specs.Graphs.{asked_programs}

-- the domain of the programs, with the given paths, has at most as many paths as the limit says; it has more
abbrev pub HasFewPathsWith : Limits → List Path → List Program → Type 0
HasFewPathsWith limits given es = (n : ℕ) × HasPaths (asked_programs given es) n × (n ≤ domain_limit limits)

abbrev pub HasManyPathsWith : Limits → List Path → List Program → Type 0
HasManyPathsWith limits given es = (n : ℕ) × HasPaths (asked_programs given es) n × (domain_limit limits < n)

-- the weight of the programs is within the limit; it is over it
abbrev pub IsLightWith : Limits → List Program → Type 0
IsLightWith limits es = (w : ℕ) × Weighs es w × IsWeightWithin limits w

abbrev pub IsHeavyWith : Limits → List Program → Type 0
IsHeavyWith limits es = (w : ℕ) × Weighs es w × IsWeightOver limits w

-- the refusal is due: the paths, with those that are given, are too many, or, where they aren't, the programs are too heavy
abbrev pub IsTooLargeWith : Limits → List Path → List Program → Refusal → Type 0
IsTooLargeWith limits given es r =
    (HasManyPathsWith limits given es × IsRefusal 70 0 (codes "domain") r)
    ⊎ (HasFewPathsWith limits given es × IsHeavyWith limits es × IsRefusal 70 0 (codes "weight") r)
