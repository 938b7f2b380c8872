-- The version of a format, which is a member of its object.
use Rattle.std.specs.Prelude.{ℕ, Bool, false, ◌==◌, Option, Some, None}
use Rattle.serde_json.specs.Data.{Data}
use Rattle.serde_json.specs.Find.{as_number, as_u64}
use Rattle.rh_base.specs.Reading.{◌>>=◌}

-- it is the number 1
abbrev pub is_one : Option ℕ → Bool
is_one None = false
is_one (Some n) = n == 1

-- the version is told, and is the number 1
abbrev pub has_version : Option Data → Bool
has_version None = false
has_version (Some d) = is_one (as_number d >>= as_u64)
