-- The limits that a request chooses.
use Rattle.std.specs.Prelude.{ℕ, ◌<◌, ◌≤◌, Option, Some, None}
use Rattle.rh_base.specs.declared.limits.TheConstants.{DECLARED, RESOURCES, DOMAIN_PATHS, WEIGHT}
use Rattle.host_limits.specs.declared.limits.TheConstants.{HOST_DECLARED, HOST_RESOURCES, HOST_DOMAIN_PATHS}
use Rattle.host_limits.specs.declared.limits.Limits.{Limits}
use Rattle.host_limits.specs.declared.limits.Limits.TheVariants as limits

-- how many resources and classes may be declared
abbrev pub declared_limit : Limits → ℕ
declared_limit limits.Usual = DECLARED
declared_limit limits.Host = HOST_DECLARED

-- how many of them may be real and plain
abbrev pub resource_limit : Limits → ℕ
resource_limit limits.Usual = RESOURCES
resource_limit limits.Host = HOST_RESOURCES

-- how many paths a finite domain may have
abbrev pub domain_limit : Limits → ℕ
domain_limit limits.Usual = DOMAIN_PATHS
domain_limit limits.Host = HOST_DOMAIN_PATHS

-- what the questions about a graph may weigh, if that is limited
abbrev pub weight_limit : Limits → Option ℕ
weight_limit limits.Usual = Some WEIGHT
weight_limit limits.Host = None

-- it is at most the limit, if there is one
abbrev pub IsAtMost : ℕ → Option ℕ → Type 0
IsAtMost n None = Unit {0}
IsAtMost n (Some most) = n ≤ most

-- there is a limit, and it is more
abbrev pub IsMoreThan : ℕ → Option ℕ → Type 0
IsMoreThan n None = ⊥
IsMoreThan n (Some most) = most < n

-- the weight is within the limit
abbrev pub IsWeightWithin : Limits → ℕ → Type 0
IsWeightWithin l w = IsAtMost w (weight_limit l)

-- the weight is over the limit
abbrev pub IsWeightOver : Limits → ℕ → Type 0
IsWeightOver l w = IsMoreThan w (weight_limit l)
