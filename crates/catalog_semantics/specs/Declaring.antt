-- Declarations of resources and classes, and how the body of a class or of a defined resource runs.
use Rattle.std.specs.Prelude.{ℕ, suc, zero, ◌-◌, Bool, true, false, ◌||◌, if◌then◌else◌, List, [], ◌∷◌, ◌++◌, map, length, codes, Option, Some}
use Rattle.std.specs.Prelude.{None, Result, Ok, Err}
use Rattle.std.specs.List.{list_any}
use Rattle.std.specs.Str.{bytes_eq}
use Rattle.rh_base.specs.declared.fault.Refusal.{Refusal}
use Rattle.pp_syntax.specs.declared.tree.Expr.{Expr}
use Rattle.pp_syntax.specs.declared.tree.Body.{Body}
use Rattle.pp_syntax.specs.declared.tree.Stmt.{Stmt}
use Rattle.pp_syntax.specs.declared.tree.TypeName.{TypeName}
use Rattle.pp_value.specs.declared.value.Ref.{Ref}
use Rattle.pp_value.specs.declared.value.Value.{Value}
use Rattle.pp_value.specs.declared.value.Value.TheVariants as v
use Rattle.pp_value.specs.Values.{Pair, value_at}
use Rattle.pp_value.specs.Types.{is_fit}
use Rattle.pp_eval.specs.declared.scope.Scope.{Scope}
use Rattle.pp_eval.specs.References.{plain_name}
use Rattle.pp_eval.specs.Evaluating.{Evaluation, ◌>>=◌, refusal, limited}
use Rattle.pp_eval.specs.Scoping.{entered, left, class_scope}
use Rattle.pp_eval.specs.Evaluation.{value_of}
use Rattle.catalog_semantics.specs.declared.catalog.Sort.{Sort}
use Rattle.catalog_semantics.specs.declared.catalog.Sort.TheVariants as sort
use Rattle.catalog_semantics.specs.declared.catalog.Resource.{Resource}
use Rattle.catalog_semantics.specs.Sites.{Parameter, Definition, Site, definition_of, is_built_in, is_type, inherits_itself}
use Rattle.catalog_semantics.specs.States.{State, Effect, in_turn, with_scopes, bound, is_declared, is_new, added}
use Rattle.catalog_semantics.specs.Attributes.{is_one_of, metaparameters, titles_at, attributes_at}

-- What may be open within the bodies and blocks that are: so many more of them. And how the statements of a body run where so many
-- may be; not at all, where there is no room for it.
pub record Bodies : Type 0 where
  pub left : ℕ
  pub run : ℕ → List Stmt → Option (Stmt → Effect)

-- one block further in
abbrev pub within : Bodies → Bodies
within bodies = record { left = bodies.left - 1; run = bodies.run }

-- how the statements of a body run, if there is room for it
abbrev pub body_in : Bodies → List Stmt → Option (Stmt → Effect)
body_in bodies body = bodies.run bodies.left body

abbrev pub one_more_body : ℕ → Option (Stmt → Effect) → Result (Stmt → Effect) Refusal
one_more_body at None = Err (refusal 32 at (codes "declared"))
one_more_body at (Some run) = Ok run

-- ---- parameters

-- the default; a parameter without one is refused
abbrev pub preset_of : Resource → Parameter → Option Expr → State → Evaluation
preset_of r p None s = Err (refusal 25 r.at p.name)
preset_of r p (Some e) s = value_of s.scopes e

-- the value from data, or else the default
abbrev pub looked_up : Resource → Parameter → Option Value → State → Evaluation
looked_up r p (Some x) s = limited r.at x
looked_up r p None s = preset_of r p p.default s

-- the given value, or else that from data, or else the default
abbrev pub given_or_else : Resource → Parameter → Option Value → State → Evaluation
given_or_else r p (Some x) s = Ok x
given_or_else r p None s = looked_up r p p.from_data s

abbrev pub is_of_kind : Option TypeName → Value → Bool
is_of_kind None x = true
is_of_kind (Some kind) x = is_fit kind x

-- a value of the parameter's type
abbrev pub fitting : ℕ → Parameter → Value → Evaluation
fitting at p x = if is_of_kind p.kind x then Ok x else Err (refusal 27 at p.name)

-- A parameter is bound to its value, in the scope of the body.
abbrev pub parameter_bound : Resource → Parameter → Effect
parameter_bound r p s = do
  x ← given_or_else r p (value_at p.name r.attrs) s
  y ← fitting r.at p x
  bound r.at p.name y s

-- ---- bodies

abbrev pub is_parameter : List Parameter → List ℕ → Bool
is_parameter parameters name = list_any (λ p. bytes_eq p.name name) parameters

-- `loglevel` and the metaparameters are known everywhere.
abbrev pub is_known : List Parameter → List ℕ → Bool
is_known parameters name = is_parameter parameters name || is_one_of (codes "loglevel" ∷ metaparameters) name

-- each attribute names a parameter
abbrev pub all_known : ℕ → List Parameter → List Pair → State → Result State Refusal
all_known at parameters [] s = Ok s
all_known at parameters (p ∷ attributes) s =
    if is_known parameters p.0 then all_known at parameters attributes s else Err (refusal 26 at p.0)

-- a name is bound to the title
abbrev pub title_bound : Resource → List ℕ → Effect
title_bound r name = bound r.at name (v.Str r.id.title)

abbrev pub entering : Scope → State → State
entering scope s = with_scopes (entered s.scopes scope) s

-- `title`, `name` and the parameters are bound in a new scope, one after the other.
abbrev pub opened : Definition → Resource → Scope → Effect
opened d r scope s =
    in_turn (title_bound r (codes "title") ∷ title_bound r (codes "name") ∷ map (parameter_bound r) d.parameters) (entering scope s)

-- The body of the resource at a place begins.
abbrev pub begun : ℕ → State → State
begun place s = record s { running = Some place }

-- What ran before runs on, in its scope.
abbrev pub ended : State → State → State
ended before s = record s { running = before.running; scopes = left s.scopes }

-- The attributes name parameters, a new scope is entered, and there the parameters are bound.
abbrev pub body_begins : Definition → ℕ → Resource → Scope → Effect
body_begins d place r scope s = do
  _ ← all_known r.at d.parameters r.attrs s
  t ← opened d r scope s
  Ok (begun place t)

-- the body of a class or of a defined resource, which stands at a place, in a new scope
abbrev pub body_runs : (Stmt → Effect) → Definition → ℕ → Resource → Scope → Effect
body_runs run d place r scope s = do
  t ← body_begins d place r scope s
  u ← in_turn (map run d.body) t
  Ok (ended s u)

-- ---- classes

abbrev pub class_ref : List ℕ → Ref
class_ref name = record { kind = codes "class"; title = name }

abbrev pub class_resource : ℕ → List ℕ → List Pair → Resource
class_resource at name attributes =
    record { id = class_ref name; sort = sort.Class; is_virtual = false; at = at; holder = None; attrs = attributes }

abbrev pub if_class : ℕ → List ℕ → Option Definition → Result Definition Refusal
if_class at name None = Err (refusal 22 at name)
if_class at name (Some d) = Ok d

-- a class that the manifest defines
abbrev pub class_named : Site → ℕ → List ℕ → Result Definition Refusal
class_named site at name = if_class at name (definition_of name site.classes)

-- one class alone: it becomes a resource, and its body runs at once, if it may
abbrev pub class_runs : Option (Stmt → Effect) → Definition → Resource → Effect
class_runs may_run d r s = do
  _ ← is_new r s
  run ← one_more_body r.at may_run
  t ← added r s
  body_runs run d (length s.resources) r (class_scope t.scopes.0 d.name d.parent) t

-- a class whose chain of parents meets no class twice
abbrev pub no_circle : Site → Definition → Result Definition Refusal
no_circle site d = if inherits_itself site.classes d then Err (refusal 34 d.at d.name) else Ok d

-- The parents that aren't declared yet, the topmost first; line gives those of a parent, and the parent.
abbrev pub parents_by : (Definition → Result (List Definition) Refusal) → Site → State → ℕ → Option (List ℕ)
    → Result (List Definition) Refusal
parents_by line site s at None = Ok []
parents_by line site s at (Some parent) = if is_declared (class_ref parent) s then Ok [] else do
  d ← class_named site at parent
  line d

abbrev pub line_down_to : ℕ → Site → State → Definition → Result (List Definition) Refusal
line_down_to zero site s d = Ok (d ∷ [])
line_down_to (suc n) site s d = do
  parents ← parents_by (line_down_to n site s) site s d.at d.parent
  Ok (parents ++ d ∷ [])

-- the parents of a class that aren't declared yet, the topmost first
abbrev pub parents_of : Site → State → Definition → Result (List Definition) Refusal
parents_of site s d = parents_by (line_down_to (length site.classes) site s) site s d.at d.parent

-- a class with these attributes, behind its parents, which have none
abbrev pub class_declared : Site → Bodies → ℕ → List Pair → List ℕ → Effect
class_declared site bodies at attributes name s = do
  d ← class_named site at name
  _ ← no_circle site d
  parents ← parents_of site s d
  t ← in_turn (map (λ e. class_runs (body_in bodies e.body) e (class_resource at e.name [])) parents) s
  class_runs (body_in bodies d.body) d (class_resource at d.name attributes) t

-- as `include` does: a class that is declared already stays as it is
abbrev pub class_included : Site → Bodies → ℕ → List ℕ → Effect
class_included site bodies at name s = if is_declared (class_ref name) s then Ok s else class_declared site bodies at [] name s

-- ---- resources

abbrev pub sort_of : List ℕ → Sort
sort_of kind = if is_built_in kind then sort.Plain else sort.Defined

-- The class or defined resource whose body runs holds it.
abbrev pub resource_declared : ℕ → Bool → List ℕ → List Pair → List ℕ → Effect
resource_declared at is_virtual kind attributes title s =
    added (record {
      id = record { kind = kind; title = title };
      sort = sort_of kind;
      is_virtual = is_virtual;
      at = at;
      holder = s.running;
      attrs = attributes;
    }) s

-- one body: the title, then the attributes, then a resource or a class for each title
abbrev pub body_declared : (ℕ → List Pair → List ℕ → Effect) → (List ℕ → Ref) → Body → State → Result (List Ref × State) Refusal
body_declared declare refer b s = do
  titles ← titles_at s.scopes b.title
  attributes ← attributes_at s.scopes b.attrs
  t ← in_turn (map (declare b.title.at attributes) titles) s
  Ok (map refer titles, t)

-- bodies one after the other, with the references of them all
abbrev pub bodies_declared : (ℕ → List Pair → List ℕ → Effect) → (List ℕ → Ref) → List Body → State → Result (List Ref × State) Refusal
bodies_declared declare refer [] s = Ok ([], s)
bodies_declared declare refer (b ∷ bodies) s = do
  first ← body_declared declare refer b s
  more ← bodies_declared declare refer bodies first.1
  Ok (first.0 ++ more.0, more.1)

-- a type of which resources may be declared
abbrev pub known_type : Site → ℕ → List ℕ → Result (List ℕ) Refusal
known_type site at kind = if is_type site kind then Ok kind else Err (refusal 23 at kind)

-- so too where defaults or a collector name it, but for `Class`
abbrev pub named_type : Site → ℕ → List ℕ → Result (List ℕ) Refusal
named_type site at kind = if bytes_eq kind (codes "class") then Err (refusal 23 at kind) else known_type site at kind

-- the resources of some bodies, with their references
abbrev pub resources_declared : Site → ℕ → Bool → List ℕ → List Body → State → Result (List Ref × State) Refusal
resources_declared site at is_virtual kind bodies s = do
  known ← known_type site at (plain_name kind)
  bodies_declared (λ here. resource_declared here is_virtual known) (λ title. record { kind = known; title = title }) bodies s

-- the classes of some bodies, with their references
abbrev pub classes_declared : Site → Bodies → List Body → State → Result (List Ref × State) Refusal
classes_declared site bodies declared s =
    bodies_declared (λ here attributes title. class_declared site bodies here attributes (plain_name title))
    (λ title. class_ref (plain_name title)) declared s
