-- What the words of the command line ask for.
use Rattle.std.specs.Prelude.{◌≡◌, ◌≢◌, ◌≤◌, ℕ, ◌+◌, ◌-◌, ◌*◌, ◌==◌, ◌&&◌, nat_le, List, [], ◌∷◌, map, Option, Some, None, option_map, Result, Ok, Err, Bool, true, false, codes, if◌then◌else◌}
use Rattle.std.specs.Option.{option_or}
use Rattle.rh_base.specs.Reading.{◌>>=◌}
use Rattle.clap.specs.Walk.{Row, Rule, Text, first_of}
use Rattle.clap.specs.Simple.{App, new_app, new_rule, with_rule, on_top, matches_of}
use Rattle.clap.specs.Faults.{fault_of}
use Rattle.fs_lang.specs.PathText.{IsPathText}
use Rattle.wanted_entry.specs.declared.wanted.Wanted.{Wanted}
use Rattle.host_limits.specs.declared.limits.Limits.{Limits}
use Rattle.host_limits.specs.declared.limits.Limits.TheVariants as limits
use Rattle.command_line.specs.declared.table.Ask.{Ask}
use Rattle.command_line.specs.declared.table.Ask.TheVariants as ask
use Rattle.command_line.specs.declared.table.Role.{Role}
use Rattle.command_line.specs.declared.table.Role.TheVariants as role
use Rattle.command_line.specs.declared.table.Task.TheVariants as task
use Rattle.command_line.specs.declared.table.Tasks.{Tasks}
use Rattle.command_line.specs.declared.request.Source.{Source}
use Rattle.command_line.specs.declared.request.Source.TheVariants as source
use Rattle.command_line.specs.declared.request.Request.{Request}
use Rattle.command_line.specs.declared.size.TheConstants.{MOST_WORKLOAD}
use Rattle.command_line.specs.declared.words.WordsFault.{WordsFault}
use Rattle.command_line.specs.declared.words.WordsFault.TheVariants as fault
use Rattle.command_line.specs.Table.{has, beside, with_catalog, ask_row, ask_named, limits_named, role_row, roles, ByRole, load_of, options}

-- an option that takes one value, as `--facts F`
abbrev pub option_rule : Text → Rule
option_rule name = record (new_rule name) { long = Some name }

-- the program, whose own name isn't among the words
abbrev pub program : App
program = on_top (λ s. record s { no_binary_name = true }) (new_app (codes "rehearsal"))

-- the command with one option more
abbrev pub with_option : App → Text → App
with_option app name = with_rule app (option_rule name)

-- the command with all of these
abbrev pub with_options : App → List Text → App
with_options app [] = app
with_options app (name ∷ names) = with_options (with_option app name) names

-- the command with all options, and with the input
abbrev pub synopsis : App
synopsis = with_rule (with_options program (map (λ o. o.0) options)) (new_rule (codes "INPUT"))

-- ---- the request

-- what `--ask` asks for; where it is left out, to verify
abbrev pub ask_in : Option Text → Option Ask
ask_in None = Some ask.Verify
ask_in (Some word) = ask_named word

-- what is given for an option that may stand, or may not
abbrev pub taken : Bool → Option Text → Option (Option Text)
taken may None = Some None
taken true (Some word) = Some (Some word)
taken false (Some word) = None

-- decimal digits behind a number, while it is at most this
abbrev pub digits_within : ℕ → ℕ → Text → Option ℕ
digits_within most n [] = Some n
digits_within most n (b ∷ word) =
    if nat_le 48 b && nat_le b 57 then
    (if nat_le (10 * n + (b - 48)) most then digits_within most (10 * n + (b - 48)) word else None) else None

-- a number from 1 to the greatest one, without a sign and without a leading zero
abbrev pub number_in : ℕ → Text → Option ℕ
number_in most [] = None
number_in most (b ∷ word) = if b == 48 then None else digits_within most 0 (b ∷ word)

-- the most conflicts that may be given
abbrev pub most_conflicts : ℕ
most_conflicts = 100000000

-- what is given for an option that takes a number, and may stand or may not
abbrev pub taken_number : Bool → ℕ → Option Text → Option (Option ℕ)
taken_number may most None = Some None
taken_number true most (Some word) = option_map (λ n. Some n) (number_in most word)
taken_number false most (Some word) = None

-- without any that are given, those of a whole host where a compiled catalog is named, and else the usual ones
abbrev pub limits_beside : Option Text → Limits
limits_beside None = limits.Usual
limits_beside (Some compiled) = limits.Host

-- the limits that are given, by an option that may stand or may not; without it, those beside what is asked about
abbrev pub taken_limits : Bool → Limits → Option Text → Option Limits
taken_limits may other None = Some other
taken_limits true other (Some word) = limits_named word
taken_limits false other (Some word) = None

-- what is behind a name that is given, or behind none
abbrev pub with_name : Role → Option Text → ByRole Text → ByRole Text
with_name r None names = names
with_name r (Some name) names = (r, name) ∷ names

-- the names that are given for these files, of which those may stand that serve one of the tasks
abbrev pub names_in : Tasks → List Row → List Role → Option (ByRole Text)
names_in tasks rows [] = Some []
names_in tasks rows (r ∷ roles) = do
  name ← taken (has (role_row r).task tasks) (first_of (role_row r).word rows)
  names ← names_in tasks rows roles
  Some (with_name r name names)

-- these are the names, if the manifest to compare with is among them where two are compared
abbrev pub with_other : Bool → ByRole Text → Option Text → Option Source
with_other false names other = Some (source.Files names)
with_other true names None = None
with_other true names (Some name) = Some (source.Files names)

-- the same, if the input is among them too, or a compiled catalog in its place
abbrev pub with_input : Bool → ByRole Text → Option Text → Option Source
with_input compares names None = None
with_input compares names (Some name) = with_other compares names (load_of role.Other names)

-- what is asked about: a workload, or files, of which one is the input or a compiled catalog, and one what it is compared with, if it is
abbrev pub source_in : Bool → Option ℕ → ByRole Text → Option Source
source_in compares None names = with_input compares names (option_or (load_of role.Compiled names) (load_of role.Input names))
source_in compares (Some n) names = Some (source.Workload n)

-- the request about a workload or files, with those options that serve one of the tasks
unfoldable pub request_for : Ask → Option ℕ → Tasks → List Row → Option Request
request_for ask workload tasks rows = do
  names ← names_in tasks rows roles
  source ← source_in (has task.Compare tasks) workload names
  node ← taken (has task.Compile tasks) (first_of (codes "node") rows)
  conflicts ← taken_number (has task.Judge tasks) most_conflicts (first_of (codes "conflicts") rows)
  limits ← taken_limits (has task.Plan tasks) (limits_beside (first_of (codes "compiled") rows)) (first_of (codes "limits") rows)
  Some (record { ask = ask; node = node; conflicts = conflicts; limits = limits; wanted = None; source = source })

-- the request that was given so, an entry that is wanted aside, where one was: no option stands that may not, and beside a workload no file
abbrev pub request_in : List Row → Option Request
request_in rows = do
  ask ← ask_in (first_of (codes "ask") rows)
  workload ← taken_number (has task.Load (ask_row ask).tasks) MOST_WORKLOAD (first_of (codes "workload") rows)
  request_for ask workload (beside workload (with_catalog (first_of (codes "compiled") rows) (ask_row ask).tasks)) rows

-- the entry stands at the path that the text names, which isn't the root, and has this content, if one is given
pub record IsEntryAt (text : Text) (held : Option Text) (w : Wanted) : Type 0 where
  pub names : IsPathText text w.path
  pub below : w.path ≢ []
  pub holds : w.content ≡ held

-- the entry that is wanted by a path and a content, which may be given, or may not
abbrev pub IsWanted : Bool → Option Text → Option Text → Option Wanted → Type 0
IsWanted true (Some path) content (Some w) = IsEntryAt path content w
IsWanted true (Some path) content None = ⊥
IsWanted true None content w = ⊥
IsWanted false path content None = (path ≡ None) × (content ≡ None)
IsWanted false path content (Some w) = ⊥

-- The request was given so: with an entry that is wanted, just where one may be.
pub record IsGiven (rows : List Row) (request : Request) : Type 0 where
  pub plain : request_in rows ≡ Some (record request { wanted = None })
  pub wanted : IsWanted (has task.Want (ask_row request.ask).tasks) (first_of (codes "path") rows) (first_of (codes "content") rows) request.wanted

-- The words are those of the command, and make this request.
pub record Makes (words : List Text) (request : Request) : Type 0 where
  pub taken : fault_of synopsis words ≡ []
  pub given : IsGiven (matches_of synopsis words) request

-- a fact where the fault is that the words are refused
abbrev pub IfRefused : WordsFault → Type 0 → Type 0
IfRefused fault.Refused P = P
IfRefused (fault.Memory m) P = Unit {0}

-- what is made, or that nothing is
abbrev pub IsMade : {A : Type 0} → Option A → Result A WordsFault → Type 0
IsMade o (Ok x) = o ≡ Some x
IsMade o (Err e) = IfRefused e (o ≡ None)

-- the number, if one is given, is from 1 to this
abbrev pub IsWithin : ℕ → Option ℕ → Type 0
IsWithin most None = Unit {0}
IsWithin most (Some n) = (1 ≤ n) × (n ≤ most)
