-- The table of requests: a row for each value of `--ask`, one for each file that may be named, and the options.
use Rattle.std.specs.Prelude.{◌≡◌, ℕ, ◌==◌, List, [], ◌∷◌, ◌++◌, Option, Some, None, Bool, true, false, codes, if◌then◌else◌}
use Rattle.std.specs.Str.{bytes_eq}
use Rattle.rh_base.specs.declared.limits.TheConstants.{MANIFEST_BYTES, PROOF_BYTES, FACTS_BYTES, LISTING_BYTES, TREE_BYTES, ORDER_BYTES}
use Rattle.host_limits.specs.declared.limits.Limits.{Limits}
use Rattle.host_limits.specs.declared.limits.Limits.TheVariants as limits
use Rattle.command_line.specs.declared.table.TheConstants.{GIVEN_BYTES, COMPILED_BYTES, ASSUMED_BYTES}
use Rattle.command_line.specs.declared.table.Ask.{Ask}
use Rattle.command_line.specs.declared.table.Ask.TheVariants as ask
use Rattle.command_line.specs.declared.table.InputKind.{InputKind}
use Rattle.command_line.specs.declared.table.InputKind.TheVariants as input
use Rattle.command_line.specs.declared.table.Role.{Role}
use Rattle.command_line.specs.declared.table.Role.TheVariants as role
use Rattle.command_line.specs.declared.table.Task.{Task}
use Rattle.command_line.specs.declared.table.Task.TheVariants as task
use Rattle.command_line.specs.declared.table.Tasks.{Tasks}

-- ---- what there is to do for a request; each option serves one task, and may stand where that is to be done

-- to read a text
abbrev pub reading : Tasks
reading = record { reads = true; compiles = false; plans = false; models = false; judges = false; loads = false; replays = false; wants = false; compares = false; assumes = false }

-- to read a manifest and compile it, or to read a catalog that was compiled before
abbrev pub compiling : Tasks
compiling = record reading { compiles = true; plans = true }

-- that, and to say what its resources do
abbrev pub modelling : Tasks
modelling = record compiling { models = true }

-- that, and to judge them
abbrev pub judging : Tasks
judging = record modelling { judges = true }

-- that, and to judge a workload in place of an input
abbrev pub rehearsing : Tasks
rehearsing = record judging { loads = true }

-- to say what they do, and to run them
abbrev pub replaying : Tasks
replaying = record modelling { replays = true }

-- to judge them, and to look for an entry that is wanted
abbrev pub wanting : Tasks
wanting = record judging { wants = true }

-- to judge them, and to compare them with those of another manifest
abbrev pub comparing : Tasks
comparing = record judging { compares = true }

-- this is among them
abbrev pub has : Task → Tasks → Bool
has task.Read t = t.reads
has task.Compile t = t.compiles
has task.Plan t = t.plans
has task.Model t = t.models
has task.Judge t = t.judges
has task.Load t = t.loads
has task.Replay t = t.replays
has task.Want t = t.wants
has task.Compare t = t.compares
has task.Assume t = t.assumes

-- those that are left beside a workload, which brings its own manifest and listing: to judge them
abbrev pub beside : Option ℕ → Tasks → Tasks
beside None t = t
beside (Some n) t = record { reads = false; compiles = false; plans = false; models = false; judges = t.judges; loads = false; replays = false; wants = false; compares = false; assumes = false }

-- those that are left where a compiled catalog stands in the input's place: nothing is to be compiled, and what its resources do may be
-- assumed
abbrev pub over_catalog : Tasks → Tasks
over_catalog t = record t { reads = false; compiles = false; loads = false; assumes = t.models }

-- the same, if a compiled catalog is named and may be
abbrev pub with_catalog : Option (List ℕ) → Tasks → Tasks
with_catalog None t = t
with_catalog (Some name) t = if t.plans then over_catalog t else t

-- ---- a row for each value of `--ask`

-- how many bytes an input of this kind may have
abbrev pub bytes_of : InputKind → ℕ
bytes_of input.Manifest = MANIFEST_BYTES
bytes_of input.Compiled = COMPILED_BYTES
bytes_of input.Proofs = PROOF_BYTES
bytes_of input.Listing = LISTING_BYTES

-- its word, what there is to do for it, and what its input is
pub record AskRow : Type 0 where
  pub word : List ℕ
  pub tasks : Tasks
  pub input : InputKind

-- a row
abbrev pub asks_for : List ℕ → Tasks → InputKind → AskRow
asks_for word tasks kind = record { word = word; tasks = tasks; input = kind }

abbrev pub ask_row : Ask → AskRow
ask_row ask.Verify = asks_for (codes "verify") rehearsing input.Manifest
ask_row ask.Proof = asks_for (codes "proof") rehearsing input.Manifest
ask_row ask.Catalog = asks_for (codes "catalog") compiling input.Manifest
ask_row ask.Graph = asks_for (codes "graph") compiling input.Manifest
ask_row ask.Programs = asks_for (codes "programs") modelling input.Manifest
ask_row ask.Replay = asks_for (codes "replay") replaying input.Manifest
ask_row ask.Check = asks_for (codes "check") reading input.Proofs
ask_row ask.Migrate = asks_for (codes "migrate") reading input.Listing
ask_row ask.Repair = asks_for (codes "repair") judging input.Manifest
ask_row ask.Ensures = asks_for (codes "ensures") wanting input.Manifest
ask_row ask.Equal = asks_for (codes "equal") comparing input.Manifest
ask_row ask.Explain = asks_for (codes "explain") rehearsing input.Manifest

-- all of them
abbrev pub asks : List Ask
asks = ask.Verify ∷ ask.Proof ∷ ask.Catalog ∷ ask.Graph ∷ ask.Programs ∷ ask.Replay ∷ ask.Check ∷ ask.Migrate ∷ ask.Repair ∷ ask.Ensures ∷ ask.Equal ∷ ask.Explain ∷ []

-- the first of these that a word asks for
abbrev pub ask_among : List Ask → List ℕ → Option Ask
ask_among [] word = None
ask_among (a ∷ asks) word = if bytes_eq (ask_row a).word word then Some a else ask_among asks word

-- what a word asks for
abbrev pub ask_named : List ℕ → Option Ask
ask_named word = ask_among asks word

-- the limits that a word names
abbrev pub limits_named : List ℕ → Option Limits
limits_named word = if bytes_eq word (codes "usual") then Some limits.Usual else (if bytes_eq word (codes "host") then Some limits.Host else None)

-- ---- a row for each file

-- how the words name it, how a refusal calls it, what it serves, and how many bytes it may have; without a number, as many as the input
pub record RoleRow : Type 0 where
  pub word : List ℕ
  pub label : List ℕ
  pub task : Task
  pub limit : Option ℕ

-- a row
abbrev pub serves : List ℕ → List ℕ → Task → Option ℕ → RoleRow
serves word label task limit = record { word = word; label = label; task = task; limit = limit }

abbrev pub role_row : Role → RoleRow
role_row role.Facts = serves (codes "facts") (codes "facts") task.Compile (Some FACTS_BYTES)
role_row role.Packages = serves (codes "packages") (codes "packages") task.Model (Some LISTING_BYTES)
role_row role.Data = serves (codes "data") (codes "data") task.Compile (Some FACTS_BYTES)
role_row role.Compiled = serves (codes "compiled") (codes "compiled") task.Plan None
role_row role.Input = serves (codes "INPUT") (codes "input") task.Read None
role_row role.Other = serves (codes "other") (codes "other") task.Compare None
role_row role.Tree = serves (codes "tree") (codes "tree") task.Replay (Some TREE_BYTES)
role_row role.Order = serves (codes "order") (codes "order") task.Replay (Some ORDER_BYTES)
role_row role.Assume = serves (codes "assume") (codes "assume") task.Assume (Some ASSUMED_BYTES)
role_row role.Given = serves (codes "given") (codes "given") task.Model (Some GIVEN_BYTES)

-- all of them, in the order in which they are read and refusals are looked for
abbrev pub roles : List Role
roles = role.Facts ∷ role.Packages ∷ role.Data ∷ role.Compiled ∷ role.Input ∷ role.Other ∷ role.Tree ∷ role.Order ∷ role.Assume ∷ role.Given ∷ []

-- the place of each
abbrev pub role_index : Role → ℕ
role_index role.Facts = 0
role_index role.Packages = 1
role_index role.Data = 2
role_index role.Compiled = 3
role_index role.Input = 4
role_index role.Other = 5
role_index role.Tree = 6
role_index role.Order = 7
role_index role.Assume = 8
role_index role.Given = 9

-- how many bytes a file may have
abbrev pub limit_or : Option ℕ → ℕ → ℕ
limit_or None limit = limit
limit_or (Some own) limit = own

-- how many bytes a file may have, beside an input of this kind
abbrev pub limit_of : InputKind → Role → ℕ
limit_of kind r = limit_or (role_row r).limit (bytes_of kind)

-- ---- contents by role

-- a content for each file that there is, with its role
abbrev pub ByRole : Type 0 → Type 0
ByRole A = List (Role × A)

-- the content of the file of a role, if there is one
abbrev pub load_of : {A : Type 0} → Role → ByRole A → Option A
load_of r [] = None
load_of r (f ∷ files) = if role_index f.0 == role_index r then Some f.1 else load_of r files

-- the same files, in the same order, with contents of which each has to do with the other so
abbrev pub Each : {A B : Type 0} → (Role → A → B → Type 0) → ByRole A → ByRole B → Type 0
Each R [] [] = Unit {0}
Each R [] (g ∷ others) = ⊥
Each R (f ∷ files) [] = ⊥
Each R (f ∷ files) (g ∷ others) = (g.0 ≡ f.0) × R f.0 f.1 g.1 × Each R files others

-- what the input is: a compiled catalog where one is named, and else what is asked about
abbrev pub kind_or : {A : Type 0} → Option A → InputKind → InputKind
kind_or None kind = kind
kind_or (Some x) kind = input.Compiled

abbrev pub input_kind : {A : Type 0} → Ask → ByRole A → InputKind
input_kind a files = kind_or (load_of role.Compiled files) (ask_row a).input

-- ---- the options

-- an option, with what stands for its value
abbrev pub options : List (List ℕ × List ℕ)
options =
    (codes "facts", codes "F")
    ∷ (codes "packages", codes "P")
    ∷ (codes "node", codes "N")
    ∷ (codes "conflicts", codes "C")
    ∷ (codes "ask", codes "A")
    ∷ (codes "tree", codes "T")
    ∷ (codes "order", codes "O")
    ∷ (codes "workload", codes "N")
    ∷ (codes "path", codes "P")
    ∷ (codes "content", codes "T")
    ∷ (codes "other", codes "M")
    ∷ (codes "data", codes "D")
    ∷ (codes "compiled", codes "C")
    ∷ (codes "assume", codes "S")
    ∷ (codes "given", codes "G")
    ∷ (codes "limits", codes "L")
    ∷ []

-- as the line of usage shows it
abbrev pub shown_options : List (List ℕ × List ℕ) → List ℕ
shown_options [] = []
shown_options (o ∷ more) = codes "[--" ++ (o.0 ++ (codes " " ++ (o.1 ++ (codes "] " ++ shown_options more))))

-- how the program is called, where the words are refused
abbrev pub usage_line : List ℕ
usage_line = codes "usage: rehearsal " ++ (shown_options options ++ codes "[INPUT]\n")
