-- The form of a text of assumptions: what such a text says.
use Rattle.std.specs.Prelude.{◌≡◌, ◌⊎◌, ◌≤◌, ℕ, List, [], ◌∷◌, length, Option, Some, None, IsUtf8, codes}
use Rattle.serde_json.specs.Data.{Data, number, string, array, object, unsigned, Items, Members, no_members, member}
use Rattle.serde_json.specs.Find.{get_member}
use Rattle.serde_json.specs.Events.{members_len}
use Rattle.serde_json.specs.Read.{read}
use Rattle.fs_semantics.specs.FileTree.{Path}
use Rattle.pp_value.specs.Texts.{lowered}
use Rattle.pkg_listing.specs.Packages.{AreApart}
use Rattle.pkg_listing.specs.Form.{IsPath, AreFolders}
use Rattle.compiled_text.specs.Names.{IsType, IsReference}
use Rattle.assumed_text.specs.declared.assumed.Behavior.{Behavior}
use Rattle.assumed_text.specs.declared.assumed.Assumed.{Assumed}
use Rattle.assumed_text.specs.declared.assumed.Assumed.TheVariants.{Nothing, Refused, Does}
use Rattle.assumed_text.specs.declared.assumed.Subject.{Subject}
use Rattle.assumed_text.specs.declared.assumed.Subject.TheVariants.{One, EachOf}
use Rattle.assumed_text.specs.declared.assumed.Assumption.{Assumption}
use Rattle.assumed_text.specs.declared.assumed.TheConstants.{BEHAVIOR_PATHS}
use Rattle.assumed_text.specs.Assumptions.{paths_of}

-- ---- behaviors

-- an array of path texts, or no paths where it doesn't stand
abbrev pub ArePathsAt : List Path → Option Data → Type 0
ArePathsAt paths None = paths ≡ []
ArePathsAt paths (Some d) = (items : Items) × (d ≡ array items) × AreFolders paths items

-- a path text, if it stands
abbrev pub IsPathAt : Option Path → Option Data → Type 0
IsPathAt path None = path ≡ None
IsPathAt path (Some d) = (p : Path) × (path ≡ Some p) × IsPath p d

-- a key of the paths on which a resource acts
abbrev pub IsAction : List ℕ → Type 0
IsAction key = (key ≡ codes "needs") ⊎ ((key ≡ codes "folders") ⊎ ((key ≡ codes "makes") ⊎ ((key ≡ codes "edits") ⊎ (key ≡ codes "removes"))))

-- each key is one of those, or `creates`
abbrev pub HasOnlyParts : Members → Type 0
HasOnlyParts no_members = Unit {0}
HasOnlyParts (member key d members) = (IsAction key ⊎ (key ≡ codes "creates")) × HasOnlyParts members

-- at least one key is one of those
abbrev pub HasAction : Members → Type 0
HasAction no_members = ⊥
HasAction (member key d members) = IsAction key ⊎ HasAction members

-- {"needs": [..], "folders": [..], "makes": [..], "edits": [..], "removes": [..], "creates": PATH}, with no other key and at least one of
-- those that have an array, in which no path stands twice and at most 64 paths do, `creates` aside
pub record IsBehavior (b : Behavior) (d : Data) : Type 0 where
  pub members : Members
  pub is_object : d ≡ object members
  pub parts : HasOnlyParts members
  pub acts : HasAction members
  pub needs : ArePathsAt b.needs (get_member (codes "needs") members)
  pub folders : ArePathsAt b.folders (get_member (codes "folders") members)
  pub makes : ArePathsAt b.makes (get_member (codes "makes") members)
  pub edits : ArePathsAt b.edits (get_member (codes "edits") members)
  pub removes : ArePathsAt b.removes (get_member (codes "removes") members)
  pub creates : IsPathAt b.creates (get_member (codes "creates") members)
  pub apart : AreApart (paths_of b)
  pub few : length (paths_of b) ≤ BEHAVIOR_PATHS

-- "none", "refused", or the object of a behavior
abbrev pub IsAssumed : Assumed → Data → Type 0
IsAssumed Nothing d = d ≡ string (codes "none")
IsAssumed Refused d = d ≡ string (codes "refused")
IsAssumed (Does b) d = IsBehavior b d

-- ---- assumptions

-- A reference is of that resource, and a type of each of its resources; types are compared in lower case.
abbrev pub IsSubject : Subject → List ℕ → Type 0
IsSubject (One r) key = IsReference key r
IsSubject (EachOf kind) key = IsType key × (kind ≡ lowered key)

-- a member from a reference or a type to what is assumed of it
pub record IsAssumption (a : Assumption) (key : List ℕ) (d : Data) : Type 0 where
  pub subject : IsSubject a.subject key
  pub assumed : IsAssumed a.assumed d

-- each member is an assumption; JSON is read with its keys in the order of bytes, and of equal ones the last counts
abbrev pub AreAssumptions : List Assumption → Members → Type 0
AreAssumptions [] no_members = Unit {0}
AreAssumptions [] (member key d _) = ⊥
AreAssumptions (a ∷ rows) no_members = ⊥
AreAssumptions (a ∷ rows) (member key d members) = IsAssumption a key d × AreAssumptions rows members

-- {"version": 1, "resources": {"REFERENCE or TYPE": ASSUMED, ..}}, with no other key
pub record SaysAssumptions (rows : List Assumption) (d : Data) : Type 0 where
  pub members : Members
  pub is_object : d ≡ object members
  pub just_two : members_len members ≡ 2
  pub has_version : get_member (codes "version") members ≡ Some (number (unsigned 1))
  pub resources : Members
  pub has_resources : get_member (codes "resources") members ≡ Some (object resources)
  pub are_assumptions : AreAssumptions rows resources

-- The bytes are UTF-8 and the JSON of these assumptions.
pub record IsAssumptionsText (bytes : List ℕ) (rows : List Assumption) : Type 0 where
  pub text : IsUtf8 bytes
  pub json : Data
  pub is_read : read bytes ≡ Some json
  pub says : SaysAssumptions rows json
