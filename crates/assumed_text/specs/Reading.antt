-- What a text of assumptions says, as it is read; none, where it has another form.
use Rattle.std.specs.Prelude.{◌≡◌, ℕ, suc, ◌==◌, ◌||◌, ◌&&◌, nat_le, Bool, true, false, if◌then◌else◌, List, [], ◌∷◌, ◌++◌, length, Option, Some, None, is_some, option_map, codes}
use Rattle.std.specs.Str.{bytes_eq}
use Rattle.std.specs.List.{list_any, AllByRecursion}
use Rattle.serde_json.specs.Data.{Data, Members, no_members, member}
use Rattle.serde_json.specs.Find.{get, as_object, as_array, as_str}
use Rattle.serde_json.specs.Events.{members_len}
use Rattle.rh_base.specs.Reading.{◌>>=◌}
use Rattle.fs_semantics.specs.FileTree.{Path, IsSegment, is_among}
use Rattle.pp_value.specs.Keys.{value_at}
use Rattle.pkg_listing.specs.Reading.{path_of, folders_of}
use Rattle.compiled_text.specs.Reading.{reference_of}
use Rattle.assumed_text.specs.declared.assumed.Behavior.{Behavior}
use Rattle.assumed_text.specs.declared.assumed.Assumed.{Assumed}
use Rattle.assumed_text.specs.declared.assumed.Assumed.TheVariants.{Nothing, Refused, Does}
use Rattle.assumed_text.specs.declared.assumed.Subject.{Subject}
use Rattle.assumed_text.specs.declared.assumed.Subject.TheVariants.{One, EachOf}
use Rattle.assumed_text.specs.declared.assumed.Assumption.{Assumption}
use Rattle.assumed_text.specs.declared.assumed.TheConstants.{BEHAVIOR_PATHS}
use Rattle.assumed_text.specs.Assumptions.{is_of_type}
use Rattle.json_parts.specs.Versions.{has_version}

-- ---- subjects

-- a `[` stands in the text
abbrev pub has_bracket : List ℕ → Bool
has_bracket text = list_any (λ c. c == 91) text

-- the type of the reference that a text makes with a title behind it
abbrev pub type_of : List ℕ → Option (List ℕ)
type_of key = option_map (λ r. r.kind) (reference_of (key ++ codes "[x]"))

abbrev pub subject_of : List ℕ → Option Subject
subject_of key = if has_bracket key then option_map One (reference_of key) else option_map EachOf (type_of key)

-- ---- behaviors

-- a key of the paths on which a resource acts
abbrev pub is_action : List ℕ → Bool
is_action key = bytes_eq key (codes "needs") || (bytes_eq key (codes "folders") || (bytes_eq key (codes "makes") || (bytes_eq key (codes "edits") || bytes_eq key (codes "removes"))))

-- each key is one of those, or `creates`
abbrev pub has_only_parts : Members → Bool
has_only_parts no_members = true
has_only_parts (member key d members) = (is_action key || bytes_eq key (codes "creates")) && has_only_parts members

-- at least one key is one of those
abbrev pub has_action : Members → Bool
has_action no_members = false
has_action (member key d members) = is_action key || has_action members

-- the paths of an array; none, where it doesn't stand
abbrev pub paths_in : Option Data → Option (List Path)
paths_in None = Some []
paths_in (Some d) = as_array d >>= folders_of

-- a path, if it stands
abbrev pub path_in : Option Data → Option (Option Path)
path_in None = Some None
path_in (Some d) = option_map (λ p. Some p) (path_of d)

abbrev pub behavior_with : List Path → List Path → List Path → List Path → List Path → Option Path → Behavior
behavior_with needs folders makes edits removes creates =
    record { needs = needs; folders = folders; makes = makes; edits = edits; removes = removes; creates = creates }

-- the behavior of the parts that stand in an object
abbrev pub behavior_of : Data → Option Behavior
behavior_of d =
    paths_in (get (codes "needs") d) >>= (λ needs. paths_in (get (codes "folders") d) >>= (λ folders. paths_in (get (codes "makes") d) >>= (λ makes.
    paths_in (get (codes "edits") d) >>= (λ edits. paths_in (get (codes "removes") d) >>= (λ removes.
    option_map (behavior_with needs folders makes edits removes) (path_in (get (codes "creates") d)))))))

-- some paths and then these, if none of these stands before
abbrev pub with_new : List Path → List Path → Option (List Path)
with_new seen [] = Some seen
with_new seen (p ∷ paths) = if is_among p seen then None else with_new (seen ++ p ∷ []) paths

-- the paths on which a behavior acts, if none stands twice
abbrev pub all_paths : Behavior → Option (List Path)
all_paths b =
    with_new [] b.needs >>= (λ seen. with_new seen b.folders >>=
    (λ seen. with_new seen b.makes >>= (λ seen. with_new seen b.edits >>= (λ seen. with_new seen b.removes))))

-- the behavior, if none of its paths stands twice, and they aren't too many
abbrev pub if_fit : Behavior → Option Behavior
if_fit b = all_paths b >>= (λ paths. if nat_le (length paths) BEHAVIOR_PATHS then Some b else None)

-- the behavior that an object of these members tells
abbrev pub behaves : Data → Members → Option Behavior
behaves d members = if has_only_parts members && has_action members then behavior_of d >>= if_fit else None

-- what a word says
abbrev pub word_of : List ℕ → Option Assumed
word_of word = if bytes_eq word (codes "none") then Some Nothing else (if bytes_eq word (codes "refused") then Some Refused else None)

-- what a word says, or an object where there is none
abbrev pub assumed_with : Option (List ℕ) → Data → Option Assumed
assumed_with (Some word) d = word_of word
assumed_with None d = option_map Does (as_object d >>= behaves d)

-- what is assumed, as JSON tells
abbrev pub assumed_of : Data → Option Assumed
assumed_of d = assumed_with (as_str d) d

-- ---- assumptions

abbrev pub assumption_with : Subject → Assumed → Assumption
assumption_with subject assumed = record { subject = subject; assumed = assumed }

-- the assumption of a member
abbrev pub assumption_of : List ℕ → Data → Option Assumption
assumption_of key d = subject_of key >>= (λ subject. option_map (assumption_with subject) (assumed_of d))

-- the assumptions of all members, unless one has another form
abbrev pub rows_of : Members → Option (List Assumption)
rows_of no_members = Some []
rows_of (member key d members) = assumption_of key d >>= (λ a. option_map (λ rows. a ∷ rows) (rows_of members))

-- the assumptions of an object
abbrev pub rows_in : Option Data → Option (List Assumption)
rows_in None = None
rows_in (Some d) = as_object d >>= rows_of

-- the assumptions of JSON that is an object of so many keys
abbrev pub rows_with : Data → ℕ → Option (List Assumption)
rows_with d keys = if (keys == 2) && has_version (get (codes "version") d) then rows_in (get (codes "resources") d) else None

-- the assumptions that JSON tells
abbrev pub all_rows : Data → Option (List Assumption)
all_rows d = as_object d >>= (λ members. rows_with d (members_len members))

-- ---- what the parts of the code do

-- each path is made of segments
abbrev pub IfProper : Option Path → Type 0
IfProper None = Unit {0}
IfProper (Some p) = AllByRecursion IsSegment p

pub record IsProperBehavior (b : Behavior) : Type 0 where
  pub needs : AllByRecursion (AllByRecursion IsSegment) b.needs
  pub folders : AllByRecursion (AllByRecursion IsSegment) b.folders
  pub makes : AllByRecursion (AllByRecursion IsSegment) b.makes
  pub edits : AllByRecursion (AllByRecursion IsSegment) b.edits
  pub removes : AllByRecursion (AllByRecursion IsSegment) b.removes
  pub creates : IfProper b.creates

abbrev pub IsProper : Assumed → Type 0
IsProper Nothing = Unit {0}
IsProper Refused = Unit {0}
IsProper (Does b) = IsProperBehavior b

abbrev pub IsProperAssumption : Assumption → Type 0
IsProperAssumption a = IsProper a.assumed

-- the place of the first assumption of a type
abbrev pub place_of_type : List ℕ → List Assumption → Option ℕ
place_of_type kind [] = None
place_of_type kind (a ∷ rows) = if is_of_type kind a.subject then Some 0 else option_map suc (place_of_type kind rows)

-- each type has the place of the first assumption of it
abbrev pub AreFirst : List (List ℕ × ℕ) → List Assumption → Type 0
AreFirst types rows = (kind : List ℕ) → value_at kind types ≡ place_of_type kind rows

-- the places of types with that of one more subject, unless its type has one already
abbrev pub with_first : Subject → ℕ → List (List ℕ × ℕ) → List (List ℕ × ℕ)
with_first (One r) place types = types
with_first (EachOf kind) place types = if is_some (value_at kind types) then types else types ++ (kind, place) ∷ []

-- the same with those of further assumptions, of which the first stands at a place
abbrev pub firsts : List (List ℕ × ℕ) → ℕ → List Assumption → List (List ℕ × ℕ)
firsts types place [] = types
firsts types place (a ∷ rows) = firsts (with_first a.subject place types) (suc place) rows
