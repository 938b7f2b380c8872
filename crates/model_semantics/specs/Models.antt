-- The model of a resource: its place, which tells its modelled name apart from others, and its program; or why it has none.
use Rattle.std.specs.Prelude.{ℕ, ◌||◌, Bool, false, if◌then◌else◌, List, [], ◌∷◌, ◌++◌, codes, Option, Some, None, Result, Ok, Err}
use Rattle.pp_value.specs.Keys.{value_at as package_at}
use Rattle.rh_base.specs.declared.fault.Refusal.{Refusal}
use Rattle.fs_semantics.specs.FileTree.{Path, is_among}
use Rattle.fs_semantics.specs.Programs.{Program}
use Rattle.pp_value.specs.declared.value.Value.{Value, items-the_row-Value}
use Rattle.pp_value.specs.declared.value.Value.TheVariants as v
use Rattle.pp_value.specs.Texts.{begins}
use Rattle.pp_value.specs.Values.{Pair, value_at}
use Rattle.pp_value.specs.Shown.{shown_int, shown_ref}
use Rattle.pp_eval.specs.Evaluating.{refusal}
use Rattle.catalog_semantics.specs.declared.catalog.Resource.{Resource}
use Rattle.pkg_listing.specs.declared.listing.Package.{Package}
use Rattle.pkg_listing.specs.Packages.{Packages}
use Rattle.model_semantics.specs.declared.kinds.Kind.{Kind}
use Rattle.model_semantics.specs.declared.kinds.Kind.TheVariants as kind
use Rattle.model_semantics.specs.declared.kinds.Cause.{Cause}
use Rattle.model_semantics.specs.declared.kinds.Cause.TheVariants as cause
use Rattle.model_semantics.specs.declared.states.Ensure.{Ensure}
use Rattle.model_semantics.specs.declared.states.Ensure.TheVariants as ensure
use Rattle.model_semantics.specs.declared.states.FileState.{FileState}
use Rattle.model_semantics.specs.declared.states.FileState.TheVariants as file
use Rattle.model_semantics.specs.declared.states.States.{States}
use Rattle.model_semantics.specs.Words.{sequence}
use Rattle.model_semantics.specs.Attributes.{kind_of, states_of, attributes_fit}
use Rattle.model_semantics.specs.Rows.{file_row, package_row, group_row, user_row, service_row, entry_row}
use Rattle.model_semantics.specs.Names.{◌>>=◌, text_at, text_or, name_of, mark_named, mark_of_user, spelled, is_reserved, unless_reserved, group_names, group_marks, home_of, is_reserved_home, units_of, mark_needed}

-- The place is the file's path, or the mark of the name; places of two types differ.
pub record Model : Type 0 where
  pub place : Path
  pub steps : List Program

-- the model with this place and these steps
abbrev pub model : Path → List Program → Model
model place steps = record { place = place; steps = steps }

-- ---- files

-- a path, or an address
abbrev pub source_state : List ℕ → Result FileState Cause
source_state text = if begins (codes "/") text then spelled text >>= (λ p. Ok (file.Copied p)) else Ok (file.Fetched text)

-- the state by `content`, or else by `source`, or else another
abbrev pub filled_state : Option (List ℕ) → Option (List ℕ) → FileState → Result FileState Cause
filled_state (Some content) source other = Ok (file.Content content)
filled_state None (Some text) other = source_state text
filled_state None None other = Ok other

-- the same, by the attributes of a file
abbrev pub state_of_file : List Pair → FileState → Result FileState Cause
state_of_file attrs other = filled_state (text_at (codes "content") attrs) (text_at (codes "source") attrs) other

-- what a file is to be, by its `ensure` and its other attributes
abbrev pub file_state : Ensure → List Pair → Result FileState Cause
file_state ensure.Absent attrs = Ok file.Absent
file_state ensure.Directory attrs = Ok file.Folder
file_state ensure.Link attrs = Ok (file.Link (text_or (codes "target") [] attrs))
file_state ensure.Present attrs = state_of_file attrs file.Present
file_state ensure.File attrs = state_of_file attrs file.File
file_state _ attrs = state_of_file attrs file.Unsaid

-- the state is a copy of what is reserved
abbrev pub copies_reserved : FileState → Bool
copies_reserved (file.Copied p) = is_reserved p
copies_reserved _ = false

-- the model of a file, whose place is its path
abbrev pub file_model : Ensure → Resource → Result Model Cause
file_model e r = do
  p ← spelled (text_or (codes "path") r.id.title r.attrs)
  state ← file_state e r.attrs
  _ ← unless_reserved (is_reserved p || copies_reserved state)
  Ok (model p (file_row p state ∷ []))

-- ---- packages

-- the package, or that it isn't listed
abbrev pub if_listed : Option Package → Result Package Cause
if_listed None = Err cause.Unlisted
if_listed (Some p) = Ok p

-- the model of a package, whose place is the mark of its name
abbrev pub package_model : Ensure → Packages → Resource → Result Model Cause
package_model e listing r = do
  m ← mark_named (codes "package") (name_of r)
  p ← if_listed (package_at (name_of r) listing)
  Ok (model m (package_row (name_of r) p m e))

-- ---- groups and users

-- the model of a group, whose place is the mark of its name
abbrev pub group_model : Ensure → Resource → Result Model Cause
group_model e r = do
  m ← mark_named (codes "group") (name_of r)
  Ok (model m (group_row m e))

-- the model of a user that is to be there
abbrev pub user_present : Path → Resource → Result Model Cause
user_present m r = do
  groups ← group_marks (group_names r.attrs)
  home ← home_of (name_of r) r.attrs
  _ ← unless_reserved (is_reserved_home home)
  Ok (model m (user_row groups m home))

-- a user's mark goes as that of a group does
abbrev pub user_at : Ensure → Resource → Path → Result Model Cause
user_at ensure.Absent r m = Ok (model m (group_row m ensure.Absent))
user_at _ r m = user_present m r

-- the model of a user, whose place is the mark of its name
abbrev pub user_model : Ensure → Resource → Result Model Cause
user_model e r = mark_named (codes "user") (name_of r) >>= user_at e r

-- ---- services

-- the model of a service, whose place is the mark that it runs
abbrev pub service_model : States → Resource → Result Model Cause
service_model s r = do
  running ← mark_named (codes "running") (name_of r)
  enabled ← mark_named (codes "enabled") (name_of r)
  units ← units_of (name_of r)
  Ok (model running (service_row units running enabled s))

-- ---- cron jobs

-- one time, as it is written
abbrev pub time_in : Value → List ℕ
time_in (v.Str text) = text
time_in (v.Int n) = shown_int n
time_in _ = []

-- with a comma before each of them
abbrev pub more_times : List Value → List ℕ
more_times [] = []
more_times (x ∷ xs) = codes "," ++ (time_in x ++ more_times xs)

-- times with commas between them
abbrev pub times_in : List Value → List ℕ
times_in [] = []
times_in (x ∷ xs) = time_in x ++ more_times xs

-- what isn't given is any time
abbrev pub time_shown : Option Value → List ℕ
time_shown None = codes "*"
time_shown (Some (v.List' shape row)) = times_in (items-the_row-Value _ row)
time_shown (Some x) = time_in x

-- the line of the attribute with this name
abbrev pub time_line : List ℕ → List Pair → List ℕ
time_line name attrs = time_shown (value_at name attrs) ++ codes "\n"

-- what stands for a cron job: its command, its times and its `special`
abbrev pub cron_content : List Pair → List ℕ
cron_content attrs =
    codes "cron:" ++ (text_or (codes "command") [] attrs ++ (codes "\n" ++ (time_line (codes "minute") attrs ++ (time_line (codes "hour") attrs ++ (time_line (codes "monthday") attrs
    ++ (time_line (codes "month") attrs ++ (time_line (codes "weekday") attrs ++ text_or (codes "special") [] attrs)))))))

-- the user of a cron job, root where none is given
abbrev pub cron_user : Resource → List ℕ
cron_user r = text_or (codes "user") (codes "root") r.attrs

-- the model of what a user has under this word, whose place is its mark
abbrev pub entry_model : List ℕ → List ℕ → List ℕ → Ensure → Resource → Result Model Cause
entry_model word user content e r = do
  q ← mark_of_user word user (name_of r)
  needed ← mark_needed user
  Ok (model q (entry_row needed q content e))

-- ---- keys of ssh

-- what stands for a key: its type and itself
abbrev pub key_content : List Pair → List ℕ
key_content attrs = codes "key:" ++ (text_or (codes "type") [] attrs ++ (codes " " ++ text_or (codes "key") [] attrs))

-- the user of a key
abbrev pub key_user : Resource → List ℕ
key_user r = text_or (codes "user") [] r.attrs

-- ---- all types

-- the model by the type
abbrev pub model_at : Kind → States → Packages → Resource → Result Model Cause
model_at kind.File s listing r = file_model s.ensure r
model_at kind.Package s listing r = package_model s.ensure listing r
model_at kind.User s listing r = user_model s.ensure r
model_at kind.Group s listing r = group_model s.ensure r
model_at kind.Service s listing r = service_model s r
model_at kind.Cron s listing r = entry_model (codes "cron") (cron_user r) (cron_content r.attrs) s.ensure r
model_at kind.Key s listing r = entry_model (codes "ssh") (key_user r) (key_content r.attrs) s.ensure r

-- the states first, then the attributes, and then names, paths and packages
abbrev pub model_of_kind : Packages → Resource → Kind → Result Model Cause
model_of_kind listing r k = do
  s ← states_of k r.attrs
  _ ← attributes_fit k s.ensure r.attrs
  model_at k s listing r

-- the type, or that it has no model
abbrev pub if_modelled : Option Kind → Result Kind Cause
if_modelled None = Err cause.Unmodelled
if_modelled (Some k) = Ok k

-- the model of a resource, or the first cause why it has none
abbrev pub model_of : Packages → Resource → Result Model Cause
model_of listing r = if_modelled (kind_of r.id.kind) >>= model_of_kind listing r

-- ---- refusals

-- the rule that is broken, and the name that is told: that of the attribute, else the resource's reference
abbrev pub refusal_of : Resource → Cause → Refusal
refusal_of r cause.Unmodelled = refusal 50 r.at (shown_ref r.id)
refusal_of r (cause.Attribute name) = refusal 51 r.at name
refusal_of r cause.Name = refusal 52 r.at (shown_ref r.id)
refusal_of r cause.Reserved = refusal 53 r.at (shown_ref r.id)
refusal_of r cause.Unlisted = refusal 54 r.at (shown_ref r.id)
refusal_of r cause.State = refusal 55 r.at (shown_ref r.id)
refusal_of r cause.Twice = refusal 56 r.at (shown_ref r.id)

-- what was made, or the refusal for the cause
abbrev pub or_refused : {X : Type 0} → Resource → Result X Cause → Result X Refusal
or_refused r (Ok x) = Ok x
or_refused r (Err c) = Err (refusal_of r c)

-- the program of the steps of a model
abbrev pub program_of_model : Result Model Cause → Result Program Cause
program_of_model (Ok m) = Ok (sequence m.steps)
program_of_model (Err c) = Err c

-- the program of one resource
abbrev pub program : Packages → Resource → Result Program Refusal
program listing r = or_refused r (program_of_model (model_of listing r))

-- ---- several resources

-- a model whose place is none of these, at which something else stands on every host
abbrev pub unless_barred : List Path → Model → Result Model Cause
unless_barred barred m = if is_among m.place barred then Err cause.Reserved else Ok m

-- a model whose place none before has
abbrev pub if_new : List Path → Model → Result Model Cause
if_new seen m = if is_among m.place seen then Err cause.Twice else Ok m

-- this program and the others, unless one of those is refused
abbrev pub first_and : Program → Result (List Program) Refusal → Result (List Program) Refusal
first_and e (Ok es) = Ok (e ∷ es)
first_and e (Err r) = Err r

-- the program of this model, and those that follow where its place is taken
abbrev pub programs_with : Result Model Refusal → (Path → Result (List Program) Refusal) → Result (List Program) Refusal
programs_with (Err r) more = Err r
programs_with (Ok m) more = first_and (sequence m.steps) (more m.place)

-- the model of a resource, whose place is neither barred nor that of an earlier one; that it is one comes last
abbrev pub new_model : List Path → List Path → Packages → Resource → Result Model Cause
new_model barred seen listing r = model_of listing r >>= unless_barred barred >>= if_new seen

-- the programs in order
abbrev pub programs_behind : List Path → List Path → Packages → List Resource → Result (List Program) Refusal
programs_behind barred seen listing [] = Ok []
programs_behind barred seen listing (r ∷ rs) = programs_with (or_refused r (new_model barred seen listing r))
    (λ place. programs_behind barred (seen ++ place ∷ []) listing rs)

-- the programs of resources, of which no file may have a barred path; or the first refusal
abbrev pub programs : List Path → Packages → List Resource → Result (List Program) Refusal
programs barred listing rs = programs_behind barred [] listing rs
