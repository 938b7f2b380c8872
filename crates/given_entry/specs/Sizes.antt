-- Graphs that are too large to be asked about together with a probe, where folders are given. The given paths are paths of the domain.
use Rattle.std.specs.Prelude.{◌⊎◌, ℕ, ◌<◌, ◌≤◌, List, [], ◌∷◌, ◌++◌, codes}
use Rattle.rh_base.specs.declared.fault.Refusal.{Refusal}
use Rattle.rh_base.specs.Refused.{IsRefusal}
use Rattle.fs_semantics.specs.FileTree.{Path}
use Rattle.fs_semantics.specs.Programs.{Program}
use Rattle.host_limits.specs.Limits.{domain_limit}
use Rattle.host_limits.specs.declared.limits.Limits.{Limits}
use Rattle.size_limits.specs.Paths.{HasPaths}
use Rattle.wanted_entry.specs.declared.wanted.Wanted.{Wanted}
use Rattle.wanted_entry.specs.Entries.{probe_of}
use Rattle.given_verdict.specs.Graphs.{asked_programs}
use Rattle.given_verdict.specs.Limits.{HasFewPathsWith, HasManyPathsWith, IsLightWith, IsHeavyWith}

-- the programs, those that are asked about, and behind them the probe
abbrev pub probed : List Path → List Program → Wanted → List Program
probed given es w = asked_programs given es ++ probe_of w ∷ []

-- the domain of the programs and the probe, with the given paths, has at most as many paths as the limit says; it has more
abbrev pub HasFewPathsProbed : Limits → List Path → List Program → Wanted → Type 0
HasFewPathsProbed limits given es w = (n : ℕ) × HasPaths (probed given es w) n × (n ≤ domain_limit limits)

abbrev pub HasManyPathsProbed : Limits → List Path → List Program → Wanted → Type 0
HasManyPathsProbed limits given es w = (n : ℕ) × HasPaths (probed given es w) n × (domain_limit limits < n)

-- the refusal is due: the paths of the domain with the probe are too many
abbrev pub IsTooWideProbed : Limits → List Path → List Program → Wanted → Refusal → Type 0
IsTooWideProbed limits given es w r = HasManyPathsProbed limits given es w × IsRefusal 70 0 (codes "domain") r

-- The refusal is due: the paths of the domain are too many, or those of the domain with the probe; or, where neither are, the programs
-- are too heavy.
abbrev pub IsTooLargeProbed : Limits → List Path → List Program → Wanted → Refusal → Type 0
IsTooLargeProbed limits given es w r =
    (HasManyPathsWith limits given es × IsRefusal 70 0 (codes "domain") r)
    ⊎ (IsTooWideProbed limits given es w r
    ⊎ (HasFewPathsWith limits given es × HasFewPathsProbed limits given es w × IsHeavyWith limits es × IsRefusal 70 0 (codes "weight") r))
