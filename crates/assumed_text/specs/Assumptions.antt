-- What is assumed of resources.
use Rattle.std.specs.Prelude.{◌≤◌, Bool, false, if◌then◌else◌, ℕ, List, [], ◌∷◌, ◌++◌, length, Option, Some, None}
use Rattle.std.specs.Str.{bytes_eq}
use Rattle.std.specs.List.{AllByRecursion}
use Rattle.fs_semantics.specs.FileTree.{Path}
use Rattle.fs_lang.specs.Managed.{MayBeManaged}
use Rattle.pkg_listing.specs.Packages.{AreApart}
use Rattle.assumed_text.specs.declared.assumed.Behavior.{Behavior}
use Rattle.assumed_text.specs.declared.assumed.Assumed.{Assumed}
use Rattle.assumed_text.specs.declared.assumed.Assumed.TheVariants.{Nothing, Refused, Does}
use Rattle.assumed_text.specs.declared.assumed.Subject.{Subject}
use Rattle.assumed_text.specs.declared.assumed.Subject.TheVariants.{One, EachOf}
use Rattle.assumed_text.specs.declared.assumed.Assumption.{Assumption}
use Rattle.assumed_text.specs.declared.assumed.TheConstants.{BEHAVIOR_PATHS}

-- the paths on which a resource acts, `creates` aside
abbrev pub paths_of : Behavior → List Path
paths_of b = b.needs ++ (b.folders ++ (b.makes ++ (b.edits ++ b.removes)))

-- it may be managed, if there is one
abbrev pub IfPathMayBeManaged : Option Path → Type 0
IfPathMayBeManaged None = Unit {0}
IfPathMayBeManaged (Some p) = MayBeManaged p

-- No path stands twice, `creates` aside, and there are at most 64; each path may be managed.
pub record IsSoundBehavior (b : Behavior) : Type 0 where
  pub apart : AreApart (paths_of b)
  pub few : length (paths_of b) ≤ BEHAVIOR_PATHS
  pub managed : AllByRecursion MayBeManaged (paths_of b)
  pub creates : IfPathMayBeManaged b.creates

abbrev pub IsSound : Assumed → Type 0
IsSound Nothing = Unit {0}
IsSound Refused = Unit {0}
IsSound (Does b) = IsSoundBehavior b

abbrev pub IsSoundAssumption : Assumption → Type 0
IsSoundAssumption a = IsSound a.assumed

-- it speaks of each resource of the type
abbrev pub is_of_type : List ℕ → Subject → Bool
is_of_type kind (One r) = false
is_of_type kind (EachOf other) = bytes_eq other kind

-- what the first assumption of a type says, which is in lower case
abbrev pub assumed_of_type : List ℕ → List Assumption → Option Assumed
assumed_of_type kind [] = None
assumed_of_type kind (a ∷ rows) = if is_of_type kind a.subject then Some a.assumed else assumed_of_type kind rows
