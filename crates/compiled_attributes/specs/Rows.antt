-- Which attributes of the text are left out, and what becomes of the others, row by row.
use Rattle.std.specs.Prelude.{ℕ, Bool, false, not, ◌||◌, ◌&&◌, if◌then◌else◌, List, [], ◌∷◌, ◌++◌, codes, Option, Some, None, is_some}
use Rattle.std.specs.Str.{bytes_eq}
use Rattle.pp_value.specs.declared.value.Value.{Value}
use Rattle.pp_value.specs.declared.value.Value.TheVariants as v
use Rattle.pp_value.specs.Values.{Pair, is_undef, has_opaque, on_text}
use Rattle.catalog_semantics.specs.Attributes.{is_one_of, is_metaparameter}
use Rattle.catalog_text.specs.Json.{json}
use Rattle.model_semantics.specs.declared.kinds.Kind.{Kind}
use Rattle.model_semantics.specs.declared.kinds.Kind.TheVariants as kind
use Rattle.model_semantics.specs.Attributes.{truth_of}
use Rattle.compiled_attributes.specs.Given.{gives, is_true, is_untrue, says, says_from, are_addresses}

-- ---- every type

-- They don't say how the machine is to be: another name of the resource, what is only looked at, how loud the agent is, and tags.
abbrev pub remarks : List (List ℕ)
remarks = codes "alias" ∷ codes "audit" ∷ codes "loglevel" ∷ codes "tag" ∷ []

-- `noop`, with a truth value
abbrev pub is_noop_row : List ℕ → Value → Bool
is_noop_row name x = bytes_eq name (codes "noop") && is_some (truth_of x)

-- left out of a resource of any type
abbrev pub left_out_of_all : List ℕ → Value → Bool
left_out_of_all name x = is_undef x || (is_one_of remarks name || is_noop_row name x)

-- ---- opaque values

-- The attributes on which the model of a type rests, besides `ensure`.
abbrev pub modelled : Kind → List (List ℕ)
modelled kind.File = codes "path" ∷ codes "content" ∷ codes "source" ∷ codes "target" ∷ codes "owner" ∷ codes "group" ∷ []
modelled kind.Package = codes "name" ∷ []
modelled kind.User = codes "name" ∷ codes "gid" ∷ codes "groups" ∷ codes "home" ∷ codes "managehome" ∷ []
modelled kind.Group = codes "name" ∷ []
modelled kind.Service = codes "name" ∷ codes "enable" ∷ []
modelled kind.Cron = codes "name" ∷ codes "command" ∷ codes "user" ∷ codes "minute" ∷ codes "hour" ∷ codes "monthday" ∷ codes "month" ∷ codes "weekday" ∷ codes "special" ∷ []
modelled kind.Key = codes "name" ∷ codes "user" ∷ codes "type" ∷ codes "key" ∷ []

-- What a resource of this type does rests on the attribute.
abbrev pub is_modelled : Option Kind → List ℕ → Bool
is_modelled None name = false
is_modelled (Some k) name = is_one_of (codes "ensure" ∷ modelled k) name

-- An opaque value isn't left out of it, since it has to be known.
abbrev pub has_to_be_known : Option Kind → List ℕ → Bool
has_to_be_known k name = is_metaparameter name || is_modelled k name

-- ---- files

-- `ensure` is itself the target of a link
abbrev pub is_short_link : List Pair → Bool
is_short_link f = says_from (codes "/") (codes "ensure") f && not (gives (codes "target") f)

-- recursion, where nothing is copied from anywhere and nothing is purged
abbrev pub is_idle_recursion : List Pair → Bool
is_idle_recursion f = is_true (codes "recurse") f && (not (gives (codes "source") f) && (not (gives (codes "target") f) && not (is_true (codes "purge") f)))

-- purging, where nothing recurses
abbrev pub is_idle_purge : List Pair → Bool
is_idle_purge f = is_true (codes "purge") f && (not (gives (codes "recurse") f) || is_untrue (codes "recurse") f)

-- force, where a folder is wanted and nothing is purged
abbrev pub is_idle_force : List Pair → Bool
is_idle_force f = is_true (codes "force") f && (says (codes "directory") (codes "ensure") f && not (is_true (codes "purge") f))

-- left out of a file with these attributes
abbrev pub left_out_of_file : List Pair → List ℕ → Bool
left_out_of_file f name =
    if bytes_eq name (codes "recurse") then is_idle_recursion f else (
    if bytes_eq name (codes "purge") then is_idle_purge f else (
    if bytes_eq name (codes "force") then is_idle_force f else (
    if bytes_eq name (codes "replace") then is_true (codes "replace") f else (
    if bytes_eq name (codes "ignore") then not (gives (codes "recurse") f) else (
    is_one_of (codes "checksum_value" ∷ codes "selinux_ignore_defaults" ∷ []) name)))))

-- the attributes of a file that a row tells of
abbrev pub file_rows : List (List ℕ)
file_rows =
    codes "recurse" ∷ codes "purge" ∷ codes "force" ∷ codes "replace" ∷ codes "ignore" ∷ codes "checksum_value" ∷ codes "selinux_ignore_defaults" ∷ codes "ensure" ∷ codes "source" ∷ codes "target" ∷ []

-- what the value of an attribute of such a file becomes: a short link's `ensure` is `link`, and addresses are one source
abbrev pub file_value : List Pair → List ℕ → Value → Value
file_value f name x =
    if bytes_eq name (codes "ensure") && is_short_link f then v.Str (codes "link") else (
    if bytes_eq name (codes "source") && are_addresses x then v.Str (codes "puppet:" ++ json x) else x)

-- ---- each attribute

-- what an attribute becomes that the rows of its own type are asked for
abbrev pub typed_value : Option Kind → List Pair → List ℕ → Value → Option Value
typed_value (Some kind.File) ps name x = if left_out_of_file ps name then None else Some (file_value ps name x)
typed_value _ ps name x = Some x

-- what an attribute of a native resource becomes, and none where it is left out
abbrev pub native_value : Option Kind → List Pair → List ℕ → Value → Option Value
native_value k ps name x =
    if left_out_of_all name x then None else (
    if has_opaque x && not (has_to_be_known k name) then None else (
    typed_value k ps name x))

-- Of a container only its relations are kept.
abbrev pub container_value : List ℕ → Value → Option Value
container_value name x = if is_metaparameter name && not (is_undef x) then Some x else None

-- ---- files that are put together of fragments

-- what the file has that it is taken for, as far as the text gives it
abbrev pub concat_names : List (List ℕ)
concat_names = codes "owner" ∷ codes "group" ∷ codes "mode" ∷ codes "replace" ∷ codes "noop" ∷ []

-- its `ensure`, if that is `absent`
abbrev pub is_absence : List ℕ → Value → Bool
is_absence name x = bytes_eq name (codes "ensure") && on_text (λ text. bytes_eq text (codes "absent")) x

-- whether it is there, or where, can't be told
abbrev pub is_untold_state : List ℕ → Value → Bool
is_untold_state name x = has_opaque x && is_one_of (codes "ensure" ∷ codes "path" ∷ []) name

-- an attribute of the file that it is taken for
abbrev pub is_of_concat : List ℕ → Value → Bool
is_of_concat name x = is_metaparameter name || (is_one_of concat_names name || (is_absence name x || is_untold_state name x))

-- what such an attribute becomes, by the rows of files
abbrev pub concat_value : List Pair → List ℕ → Value → Option Value
concat_value ps name x = if is_of_concat name x then native_value (Some kind.File) ps name x else None
