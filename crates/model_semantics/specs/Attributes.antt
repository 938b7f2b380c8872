-- The attributes of the built-in types: what they accept, and which states they tell.
use Rattle.std.specs.Prelude.{ℕ, ◌&&◌, ◌||◌, nat_le, Bool, true, false, not, if◌then◌else◌, List, [], ◌∷◌, ◌++◌, codes, Option, Some, None, option_map, is_some, Result, Ok, Err}
use Rattle.std.specs.List.{list_any, list_all}
use Rattle.std.specs.Option.{option_or}
use Rattle.std.specs.Str.{bytes_eq}
use Rattle.pp_value.specs.declared.value.Value.{Value, items-the_row-Value}
use Rattle.pp_value.specs.declared.value.Value.TheVariants as v
use Rattle.pp_value.specs.Texts.{begins}
use Rattle.pp_value.specs.Values.{Pair, value_at}
use Rattle.catalog_semantics.specs.Attributes.{is_one_of, metaparameters}
use Rattle.model_semantics.specs.declared.kinds.Kind.{Kind}
use Rattle.model_semantics.specs.declared.kinds.Kind.TheVariants as kind
use Rattle.model_semantics.specs.declared.kinds.Accepts.{Accepts}
use Rattle.model_semantics.specs.declared.kinds.Accepts.TheVariants as accepts
use Rattle.model_semantics.specs.declared.kinds.Cause.{Cause}
use Rattle.model_semantics.specs.declared.kinds.Cause.TheVariants as cause
use Rattle.model_semantics.specs.declared.states.Ensure.{Ensure}
use Rattle.model_semantics.specs.declared.states.Ensure.TheVariants as ensure
use Rattle.model_semantics.specs.declared.states.States.{States}

-- ---- the types

-- the type of this name, if it has a model
abbrev pub kind_of : List ℕ → Option Kind
kind_of name =
    if bytes_eq name (codes "file") then Some kind.File else (
    if bytes_eq name (codes "package") then Some kind.Package else (
    if bytes_eq name (codes "user") then Some kind.User else (
    if bytes_eq name (codes "group") then Some kind.Group else (
    if bytes_eq name (codes "service") then Some kind.Service else (
    if bytes_eq name (codes "cron") then Some kind.Cron else (
    if bytes_eq name (codes "ssh_authorized_key") then Some kind.Key else None))))))

-- ---- what an attribute accepts: names, and the values for them

-- some names, and the values that they accept
abbrev pub Row : Type 0
Row = List (List ℕ) × Accepts

-- for every type
abbrev pub common : Row
common = (codes "ensure" ∷ codes "loglevel" ∷ codes "provider" ∷ metaparameters, accepts.Anything)

-- for each type its own rows
abbrev pub rows_of : Kind → List Row
rows_of kind.File =
    (codes "path" ∷ codes "content" ∷ codes "source" ∷ codes "target" ∷ [], accepts.Text)
    ∷ (codes "owner" ∷ codes "group" ∷ [], accepts.TextOrNumber)
    ∷ (codes "mode" ∷ codes "backup" ∷ codes "show_diff" ∷ codes "checksum" ∷ codes "validate_cmd" ∷ codes "selrange" ∷ codes "selrole" ∷ codes "seltype" ∷ codes "seluser" ∷ [], accepts.Anything)
    ∷ (codes "recurse" ∷ codes "purge" ∷ codes "force" ∷ [], accepts.OnlyFalse)
    ∷ (codes "replace" ∷ [], accepts.OnlyTrue)
    ∷ []
rows_of kind.Package =
    (codes "name" ∷ [], accepts.Text)
    ∷ (codes "source" ∷ codes "install_options" ∷ codes "uninstall_options" ∷ codes "allow_virtual" ∷ [], accepts.Anything)
    ∷ []
rows_of kind.User =
    (codes "name" ∷ codes "home" ∷ [], accepts.Text)
    ∷ (codes "gid" ∷ [], accepts.TextOrNumber)
    ∷ (codes "groups" ∷ [], accepts.TextOrTexts)
    ∷ (codes "managehome" ∷ [], accepts.Truth)
    ∷ (codes "uid" ∷ codes "comment" ∷ codes "shell" ∷ codes "password" ∷ codes "system" ∷ codes "expiry" ∷ codes "membership" ∷ codes "allowdupe" ∷ codes "forcelocal" ∷ [], accepts.Anything)
    ∷ []
rows_of kind.Group =
    (codes "name" ∷ [], accepts.Text)
    ∷ (codes "gid" ∷ codes "system" ∷ codes "allowdupe" ∷ codes "forcelocal" ∷ [], accepts.Anything)
    ∷ []
rows_of kind.Service =
    (codes "name" ∷ [], accepts.Text)
    ∷ (codes "enable" ∷ [], accepts.Truth)
    ∷ (codes "hasstatus" ∷ codes "hasrestart" ∷ codes "start" ∷ codes "stop" ∷ codes "restart" ∷ codes "status" ∷ codes "pattern" ∷ codes "timeout" ∷ [], accepts.Anything)
    ∷ []
rows_of kind.Cron =
    (codes "name" ∷ codes "command" ∷ codes "user" ∷ codes "special" ∷ [], accepts.Text)
    ∷ (codes "minute" ∷ codes "hour" ∷ codes "monthday" ∷ codes "month" ∷ codes "weekday" ∷ [], accepts.Times)
    ∷ (codes "environment" ∷ [], accepts.Anything)
    ∷ []
rows_of kind.Key =
    (codes "name" ∷ codes "user" ∷ codes "type" ∷ codes "key" ∷ [], accepts.Text)
    ∷ (codes "options" ∷ [], accepts.Anything)
    ∷ []

-- what the row says that has the name
abbrev pub accepted : List Row → List ℕ → Option Accepts
accepted [] name = None
accepted (row ∷ rows) name = if is_one_of row.0 name then Some row.1 else accepted rows name

-- ---- kinds of values

-- a text
abbrev pub is_text : Value → Bool
is_text (v.Str text) = true
is_text _ = false

-- a number
abbrev pub is_number : Value → Bool
is_number (v.Int n) = true
is_number _ = false

-- a text or a number
abbrev pub is_text_or_number : Value → Bool
is_text_or_number x = is_text x || is_number x

-- a list of which each member passes the test
abbrev pub is_list_of : (Value → Bool) → Value → Bool
is_list_of test (v.List' shape row) = list_all test (items-the_row-Value _ row)
is_list_of test _ = false

-- the truth value of which this is the text
abbrev pub text_truth : List ℕ → Option Bool
text_truth text = if bytes_eq text (codes "true") then Some true else (if bytes_eq text (codes "false") then Some false else None)

-- a truth value, or the text of one, which counts as it
abbrev pub truth_of : Value → Option Bool
truth_of (v.Bool b) = Some b
truth_of (v.Str text) = text_truth text
truth_of _ = None

-- a truth value is there, and is false
abbrev pub is_false : Option Bool → Bool
is_false None = false
is_false (Some b) = not b

-- the truth value true, not its text
abbrev pub is_true_itself : Value → Bool
is_true_itself (v.Bool b) = b
is_true_itself _ = false

-- the value is accepted
abbrev pub fits : Accepts → Value → Bool
fits accepts.Anything x = true
fits accepts.Text x = is_text x
fits accepts.TextOrNumber x = is_text_or_number x
fits accepts.TextOrTexts x = is_text x || is_list_of is_text x
fits accepts.Times x = is_text_or_number x || is_list_of is_text_or_number x
fits accepts.Truth x = is_some (truth_of x)
fits accepts.OnlyFalse x = is_false (truth_of x)
fits accepts.OnlyTrue x = is_true_itself x

-- ---- states

-- a decimal digit, as a byte
abbrev pub is_digit : ℕ → Bool
is_digit b = nat_le 48 b && nat_le b 57

-- the first byte is a digit
abbrev pub begins_with_digit : List ℕ → Bool
begins_with_digit [] = false
begins_with_digit (b ∷ text) = is_digit b

-- `present` or `absent`
abbrev pub presence_word : List ℕ → Option Ensure
presence_word text = if bytes_eq text (codes "present") then Some ensure.Present else (if bytes_eq text (codes "absent") then Some ensure.Absent else None)

-- what a text says as the `ensure` of a file
abbrev pub file_word : List ℕ → Option Ensure
file_word text =
    if bytes_eq text (codes "file") then Some ensure.File else (
    if bytes_eq text (codes "directory") then Some ensure.Directory else (
    if bytes_eq text (codes "link") then Some ensure.Link else presence_word text))

-- a text that begins with a digit is a version
abbrev pub package_word : List ℕ → Option Ensure
package_word text =
    if bytes_eq text (codes "installed") || (bytes_eq text (codes "latest") || begins_with_digit text) then Some ensure.Present else (
    if bytes_eq text (codes "purged") then Some ensure.Absent else presence_word text)

-- what a text says as the `ensure` of a service
abbrev pub service_word : List ℕ → Option Ensure
service_word text = if bytes_eq text (codes "running") then Some ensure.Running else (if bytes_eq text (codes "stopped") then Some ensure.Stopped else None)

-- what a text says as the value of `ensure`
abbrev pub word_of : Kind → List ℕ → Option Ensure
word_of kind.File text = file_word text
word_of kind.Package text = package_word text
word_of kind.User text = presence_word text
word_of kind.Group text = presence_word text
word_of kind.Service text = service_word text
word_of kind.Cron text = presence_word text
word_of kind.Key text = presence_word text

-- only the `ensure` of a service may be a truth value
abbrev pub truth_word : Kind → Bool → Option Ensure
truth_word kind.Service true = Some ensure.Running
truth_word kind.Service false = Some ensure.Stopped
truth_word _ b = None

-- what the value of `ensure` says, if it is one that the type has
abbrev pub ensure_of : Kind → Option Value → Option Ensure
ensure_of k None = Some ensure.Unsaid
ensure_of k (Some (v.Str text)) = word_of k text
ensure_of k (Some (v.Bool b)) = truth_word k b
ensure_of k (Some _) = None

-- what the value of `enable` says: nothing without one, and else a truth value
abbrev pub enable_value : Option Value → Option (Option Bool)
enable_value None = Some None
enable_value (Some x) = option_map (λ b. Some b) (truth_of x)

-- the `enable` of a service; that of another type is no state
abbrev pub enable_of : Kind → List Pair → Option (Option Bool)
enable_of kind.Service attrs = enable_value (value_at (codes "enable") attrs)
enable_of _ attrs = Some None

-- both states, unless the value of one isn't known
abbrev pub states_with : Option Ensure → Option (Option Bool) → Result States Cause
states_with None enable = Err cause.State
states_with (Some e) None = Err cause.State
states_with (Some e) (Some b) = Ok (record { ensure = e; enable = b })

-- the states that the attributes of a resource tell
abbrev pub states_of : Kind → List Pair → Result States Cause
states_of k attrs = states_with (ensure_of k (value_at (codes "ensure") attrs)) (enable_of k attrs)

-- ---- which attributes are refused

-- `ensure` says `absent`
abbrev pub is_absent : Ensure → Bool
is_absent ensure.Absent = true
is_absent _ = false

-- `ensure` says `link`
abbrev pub is_link : Ensure → Bool
is_link ensure.Link = true
is_link _ = false

-- `ensure` says `directory`
abbrev pub is_folder : Ensure → Bool
is_folder ensure.Directory = true
is_folder _ = false

-- the text begins as an address does
abbrev pub is_address : List ℕ → Bool
is_address text = begins (codes "puppet:") text || (begins (codes "http:") text || begins (codes "https:") text)

-- a path or an address
abbrev pub is_source : Value → Bool
is_source (v.Str text) = begins (codes "/") text || is_address text
is_source _ = false

-- the attributes that say what a file has
abbrev pub fillings : List (List ℕ)
fillings = codes "content" ∷ codes "source" ∷ []

-- `content` or `source` stands among them
abbrev pub are_filled : List Pair → Bool
are_filled pairs = list_any (λ p. is_one_of fillings p.0) pairs

-- one of `content` and `source` at most, and none of a link or of a folder
abbrev pub filling_fits : Ensure → List Pair → Bool
filling_fits e before = not (is_link e || (is_folder e || are_filled before))

-- `content`, `source` and `target` of a file, by its `ensure` and the attributes before
abbrev pub file_fits : Ensure → List Pair → Pair → Bool
file_fits e before p =
    if bytes_eq p.0 (codes "content") then filling_fits e before else (
    if bytes_eq p.0 (codes "source") then filling_fits e before && is_source p.1 else (
    if bytes_eq p.0 (codes "target") then is_link e else true))

-- no `managehome` of a user that is to be absent
abbrev pub user_fits : Ensure → Pair → Bool
user_fits e p = not (is_absent e && (bytes_eq p.0 (codes "managehome") && not (is_false (truth_of p.1))))

-- what is asked of an attribute besides its value, type by type
abbrev pub kind_fits : Kind → Ensure → List Pair → Pair → Bool
kind_fits kind.File e before p = file_fits e before p
kind_fits kind.User e before p = user_fits e p
kind_fits _ e before p = true

-- With `absent`, what a file was to have counts as not given.
abbrev pub is_ignored : Kind → Ensure → List ℕ → Bool
is_ignored kind.File ensure.Absent name = is_one_of (codes "content" ∷ codes "source" ∷ codes "target" ∷ []) name
is_ignored _ e name = false

-- the attribute is one of the type, and accepts the value
abbrev pub value_fits : Option Accepts → Value → Bool
value_fits None x = false
value_fits (Some a) x = fits a x

-- the attribute is accepted, by the attributes before it
abbrev pub pair_fits : Kind → Ensure → List Pair → Pair → Bool
pair_fits k e before p = is_ignored k e p.0 || (value_fits (accepted (common ∷ rows_of k) p.0) p.1 && kind_fits k e before p)

-- the first attribute that isn't accepted
abbrev pub misfit_behind : Kind → Ensure → List Pair → List Pair → Option (List ℕ)
misfit_behind k e before [] = None
misfit_behind k e before (p ∷ pairs) = if pair_fits k e before p then misfit_behind k e (before ++ p ∷ []) pairs else Some p.0

-- an attribute that has to be given
abbrev pub required_attribute : Kind → Ensure → Option (List ℕ)
required_attribute kind.File ensure.Link = Some (codes "target")
required_attribute kind.Cron ensure.Absent = None
required_attribute kind.Cron _ = Some (codes "command")
required_attribute kind.Key _ = Some (codes "user")
required_attribute _ _ = None

-- the name, if an attribute of it has to be given and isn't
abbrev pub missing : Option (List ℕ) → List Pair → Option (List ℕ)
missing None attrs = None
missing (Some name) attrs = if is_some (value_at name attrs) then None else Some name

-- the attribute for which the resource is refused
abbrev pub refused_attribute : Kind → Ensure → List Pair → Option (List ℕ)
refused_attribute k e attrs = option_or (misfit_behind k e [] attrs) (missing (required_attribute k e) attrs)

-- fine, if no attribute is refused
abbrev pub unless_refused : Option (List ℕ) → Result (Unit {0}) Cause
unless_refused None = Ok tt
unless_refused (Some name) = Err (cause.Attribute name)

-- the attributes are accepted, or one is refused
abbrev pub attributes_fit : Kind → Ensure → List Pair → Result (Unit {0}) Cause
attributes_fit k e attrs = unless_refused (refused_attribute k e attrs)
