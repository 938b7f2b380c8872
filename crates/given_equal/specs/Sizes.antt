-- Graphs that are too large to be compared, where folders are given. The given paths are paths of the domain.
use Rattle.std.specs.Prelude.{◌⊎◌, ℕ, ◌<◌, ◌≤◌, List, ◌++◌, codes}
use Rattle.rh_base.specs.declared.fault.Refusal.{Refusal}
use Rattle.rh_base.specs.Refused.{IsRefusal}
use Rattle.fs_semantics.specs.FileTree.{Path}
use Rattle.fs_semantics.specs.Programs.{Program}
use Rattle.host_limits.specs.Limits.{domain_limit}
use Rattle.host_limits.specs.declared.limits.Limits.{Limits}
use Rattle.size_limits.specs.Paths.{HasPaths}
use Rattle.given_verdict.specs.Graphs.{asked_programs}
use Rattle.given_verdict.specs.Limits.{HasFewPathsWith, IsLightWith, IsTooLargeWith}

-- the programs of both, those that are asked about
abbrev pub joined : List Path → List Program → List Program → List Program
joined given es fs = asked_programs given es ++ asked_programs given fs

-- the domain of both, with the given paths, has at most as many paths as the limit says; it has more
abbrev pub HasFewPathsJoined : Limits → List Path → List Program → List Program → Type 0
HasFewPathsJoined limits given es fs = (n : ℕ) × HasPaths (joined given es fs) n × (n ≤ domain_limit limits)

abbrev pub HasManyPathsJoined : Limits → List Path → List Program → List Program → Type 0
HasManyPathsJoined limits given es fs = (n : ℕ) × HasPaths (joined given es fs) n × (domain_limit limits < n)

-- the refusal is due: the paths of the domain of both together are too many
abbrev pub IsTooWideJoined : Limits → List Path → List Program → List Program → Refusal → Type 0
IsTooWideJoined limits given es fs r = HasManyPathsJoined limits given es fs × IsRefusal 70 0 (codes "domain") r

-- both graphs are within the limits, together by the paths of their domain, and each by itself
pub record AreWithinWith (limits : Limits) (given : List Path) (es fs : List Program) : Type 0 where
  pub joined_paths : HasFewPathsJoined limits given es fs
  pub left_paths : HasFewPathsWith limits given es
  pub left_weight : IsLightWith limits es
  pub right_paths : HasFewPathsWith limits given fs
  pub right_weight : IsLightWith limits fs

-- The refusal is due: the paths of the domain of both together are too many; or, where they aren't, one of the graphs is too large by
-- itself.
abbrev pub IsTooLargeJoined : Limits → List Path → List Program → List Program → Refusal → Type 0
IsTooLargeJoined limits given es fs r =
    IsTooWideJoined limits given es fs r
    ⊎ (HasFewPathsJoined limits given es fs
    × (IsTooLargeWith limits given es r ⊎ (HasFewPathsWith limits given es × IsLightWith limits es × IsTooLargeWith limits given fs r)))
