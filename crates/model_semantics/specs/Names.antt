-- The names and paths of resources, and the files that stand for them.
use Rattle.std.specs.Prelude.{◌≡◌, ℕ, ◌-◌, ◌==◌, ◌&&◌, nat_le, Bool, true, false, not, if◌then◌else◌, List, [], ◌∷◌, ◌++◌, length, take, drop, codes, Option, Some, None, unwrap_or, Result, Ok, Err}
use Rattle.std.specs.List.{list_any, list_all, flat_map}
use Rattle.std.specs.Str.{bytes_eq}
use Rattle.rh_base.specs.declared.limits.TheConstants.{NAME_BYTES}
use Rattle.fs_semantics.specs.FileTree.{Path}
use Rattle.fs_lang.specs.Reading.{path_in}
use Rattle.fs_lang.specs.Names.{segment_of}
use Rattle.pp_value.specs.declared.value.Value.{Value, items-the_row-Value}
use Rattle.pp_value.specs.declared.value.Value.TheVariants as v
use Rattle.pp_value.specs.Values.{Pair, value_at}
use Rattle.catalog_semantics.specs.declared.catalog.Resource.{Resource}
use Rattle.model_semantics.specs.declared.kinds.Cause.{Cause}
use Rattle.model_semantics.specs.declared.kinds.Cause.TheVariants as cause
use Rattle.model_semantics.specs.declared.kinds.ModelFault.{ModelFault}
use Rattle.model_semantics.specs.declared.kinds.ModelFault.TheVariants as fault
use Rattle.model_semantics.specs.declared.states.Units.{Units}
use Rattle.model_semantics.specs.Words.{mark_path}
use Rattle.model_semantics.specs.Attributes.{is_digit, truth_of}

-- What follows is made of a result; a cause ends it.
infixl 10 ◌>>=◌
abbrev pub ◌>>=◌ : {A B : Type 0} → Result A Cause → (A → Result B Cause) → Result B Cause
(Ok x) >>= f = f x
(Err c) >>= f = Err c

-- Where a value or a cause is due, a call answers with just that. Memory may always be refused.
abbrev pub Meets : {X Y : Type 0} → (X → Y) → Result Y Cause → Result X ModelFault → Type 0
Meets view meaning (Ok x) = meaning ≡ Ok (view x)
Meets view meaning (Err (fault.Because c)) = meaning ≡ Err c
Meets view meaning (Err (fault.Memory m)) = Unit {0}

-- ---- texts of attributes

-- the text that a value is, if it is one
abbrev pub text_in : Option Value → Option (List ℕ)
text_in None = None
text_in (Some (v.Str text)) = Some text
text_in (Some _) = None

-- the text of the attribute, if it is there and a text
abbrev pub text_at : List ℕ → List Pair → Option (List ℕ)
text_at name attrs = text_in (value_at name attrs)

-- the text of the attribute, or else another
abbrev pub text_or : List ℕ → List ℕ → List Pair → List ℕ
text_or name other attrs = unwrap_or (text_at name attrs) other

-- the modelled name of what isn't a file: its `name`, else its title
abbrev pub name_of : Resource → List ℕ
name_of r = text_or (codes "name") r.id.title r.attrs

-- ---- names

-- of 1 to 255 bytes, none of them zero
abbrev pub is_name : List ℕ → Bool
is_name name = not (length name == 0) && (nat_le (length name) NAME_BYTES && not (list_any (λ b. b == 0) name))

-- the segment of a name
abbrev pub named : List ℕ → Result (List ℕ) Cause
named name = if is_name name then Ok (segment_of name) else Err cause.Name

-- the mark of a name
abbrev pub mark_named : List ℕ → List ℕ → Result Path Cause
mark_named word name = named name >>= (λ s. Ok (mark_path word (s ∷ [])))

-- the mark of a name of a user
abbrev pub mark_of_user : List ℕ → List ℕ → List ℕ → Result Path Cause
mark_of_user word user name = named user >>= (λ u. named name >>= (λ s. Ok (mark_path word (u ∷ s ∷ []))))

-- ---- paths

-- the path, or that the text spells none
abbrev pub path_or_bad : Option Path → Result Path Cause
path_or_bad None = Err cause.Name
path_or_bad (Some p) = Ok p

-- the path that a text spells
abbrev pub spelled : List ℕ → Result Path Cause
spelled text = path_or_bad (path_in text)

-- at or under `/.rehearsal`
abbrev pub is_reserved : Path → Bool
is_reserved [] = false
is_reserved (s ∷ p) = bytes_eq s (codes ".rehearsal")

-- fine, unless it is reserved
abbrev pub unless_reserved : Bool → Result (Unit {0}) Cause
unless_reserved true = Err cause.Reserved
unless_reserved false = Ok tt

-- ---- groups

-- a text of digits only names nobody
abbrev pub names_nobody : List ℕ → Bool
names_nobody text = not (length text == 0) && list_all is_digit text

-- the group that a text names, if it names one
abbrev pub group_in : Value → List (List ℕ)
group_in (v.Str text) = if names_nobody text then [] else text ∷ []
group_in _ = []

-- the groups that a text or a list of texts names
abbrev pub groups_in : Value → List (List ℕ)
groups_in (v.List' shape row) = flat_map group_in (items-the_row-Value _ row)
groups_in x = group_in x

-- the group of `gid`
abbrev pub groups_of_gid : Option Value → List (List ℕ)
groups_of_gid None = []
groups_of_gid (Some x) = group_in x

-- the groups of `groups`
abbrev pub groups_of_groups : Option Value → List (List ℕ)
groups_of_groups None = []
groups_of_groups (Some x) = groups_in x

-- the groups of a user: that of `gid`, and then those of `groups`
abbrev pub group_names : List Pair → List (List ℕ)
group_names attrs = groups_of_gid (value_at (codes "gid") attrs) ++ groups_of_groups (value_at (codes "groups") attrs)

-- the marks of these groups
abbrev pub group_marks : List (List ℕ) → Result (List Path) Cause
group_marks [] = Ok []
group_marks (name ∷ names) = mark_named (codes "group") name >>= (λ m. group_marks names >>= (λ ms. Ok (m ∷ ms)))

-- ---- homes

-- a truth value is there, and is true
abbrev pub is_true : Option Bool → Bool
is_true None = false
is_true (Some b) = b

-- the truth value that a value is, or of which it is the text
abbrev pub truth_in : Option Value → Option Bool
truth_in None = None
truth_in (Some x) = truth_of x

-- `managehome` is true
abbrev pub manages_home : List Pair → Bool
manages_home attrs = is_true (truth_in (value_at (codes "managehome") attrs))

-- `home`, else `/home/NAME`
abbrev pub home_with : List ℕ → Option (List ℕ) → Result Path Cause
home_with name None = named name >>= (λ s. Ok (codes "home" ∷ s ∷ []))
home_with name (Some text) = spelled text

-- the home that a user manages
abbrev pub home_of : List ℕ → List Pair → Result (Option Path) Cause
home_of name attrs = if manages_home attrs then home_with name (text_at (codes "home") attrs) >>= (λ p. Ok (Some p)) else Ok None

-- a home is there, and is reserved
abbrev pub is_reserved_home : Option Path → Bool
is_reserved_home None = false
is_reserved_home (Some p) = is_reserved p

-- ---- services

-- the name without a trailing `.service`
abbrev pub unit_name : List ℕ → List ℕ
unit_name name = if bytes_eq (drop (length name - 8) name) (codes ".service") then take (length name - 8) name else name

-- the name of the file of a service
abbrev pub unit_file : List ℕ → List ℕ
unit_file s = s ++ codes ".service"

-- where the files of a service may stand, whose name has this segment
abbrev pub units_at : List ℕ → Units
units_at s = record {
  own = codes "etc" ∷ codes "systemd" ∷ codes "system" ∷ unit_file s ∷ [];
  lib = codes "lib" ∷ codes "systemd" ∷ codes "system" ∷ unit_file s ∷ [];
  usr = codes "usr" ∷ codes "lib" ∷ codes "systemd" ∷ codes "system" ∷ unit_file s ∷ [];
  init = codes "etc" ∷ codes "init.d" ∷ s ∷ [];
}

-- where the files of the service of this name may stand
abbrev pub units_of : List ℕ → Result Units Cause
units_of name = named (unit_name name) >>= (λ s. Ok (units_at s))

-- ---- users

-- the mark that is needed of a user, if it isn't root
abbrev pub mark_needed : List ℕ → Result (Option Path) Cause
mark_needed user = if bytes_eq user (codes "root") then Ok None else mark_named (codes "user") user >>= (λ m. Ok (Some m))

-- the fault is that of an attribute
abbrev pub RefusesFor : List ℕ → ModelFault → Type 0
RefusesFor name (fault.Because c) = c ≡ cause.Attribute name
RefusesFor name (fault.Memory m) = Unit {0}
