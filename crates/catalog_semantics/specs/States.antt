-- The state between two statements, and the single changes of it, each with the refusal that it may meet.
use Rattle.std.specs.Prelude.{ℕ, ◌+◌, Bool, true, false, nat_lt, if◌then◌else◌, List, [], ◌∷◌, ◌++◌, filter, map, length, is_none, codes}
use Rattle.std.specs.Prelude.{Option, Some, None, Result, Ok, Err}
use Rattle.std.specs.List.{list_any}
use Rattle.std.specs.Str.{bytes_eq}
use Rattle.rh_base.specs.declared.limits.TheConstants.{ATTRIBUTES_SIZE}
use Rattle.rh_base.specs.declared.fault.Refusal.{Refusal}
use Rattle.host_limits.specs.declared.limits.TheConstants.{HOST_DECLARED}
use Rattle.host_limits.specs.Limits.{declared_limit}
use Rattle.pp_value.specs.declared.value.Ref.{Ref}
use Rattle.pp_value.specs.declared.value.Value.{Value}
use Rattle.pp_value.specs.Values.{Pair, value_at, same_ref, size_of}
use Rattle.pp_value.specs.Shown.{shown_ref}
use Rattle.pp_eval.specs.Evaluating.{◌>>=◌, refusal}
use Rattle.pp_eval.specs.Scoping.{Scoped, bound as scopes_with}
use Rattle.catalog_semantics.specs.declared.catalog.Sort.{Sort}
use Rattle.catalog_semantics.specs.declared.catalog.Sort.TheVariants as sort
use Rattle.catalog_semantics.specs.declared.catalog.Resource.{Resource}
use Rattle.catalog_semantics.specs.declared.state.Collector.{Collector}
use Rattle.catalog_semantics.specs.declared.state.Pending.{Pending}
use Rattle.catalog_semantics.specs.declared.state.Tie.{Tie}
pub use Rattle.catalog_semantics.specs.declared.state.Default.{Default}
pub use Rattle.catalog_semantics.specs.declared.state.Holding.{Holding}
pub use Rattle.catalog_semantics.specs.declared.state.State.{State}

-- what is done to a state: another state, or one refusal
abbrev pub Effect : Type 0
Effect = State → Result State Refusal

-- one effect after the other; a refusal ends them
abbrev pub in_turn : List Effect → Effect
in_turn [] s = Ok s
in_turn (f ∷ more) s = do
  t ← f s
  in_turn more t

-- ---- names

abbrev pub with_scopes : Scoped → State → State
with_scopes scopes s = record s { scopes = scopes }

-- A name is bound once in a scope.
abbrev pub bound : ℕ → List ℕ → Value → Effect
bound at name x s = do
  scopes ← scopes_with at name x s.scopes
  Ok (with_scopes scopes s)

-- ---- resources

abbrev pub references_of : List Resource → List Ref
references_of resources = map (λ r. r.id) resources

abbrev pub stands_in : Ref → List Ref → Bool
stands_in ref refs = list_any (λ q. same_ref q ref) refs

-- a resource or class of this reference is declared
abbrev pub is_declared : Ref → State → Bool
is_declared ref s = stands_in ref (references_of s.resources)

-- where a reference stands, counted from n
abbrev pub place_from : ℕ → Ref → List Ref → Option ℕ
place_from n ref [] = None
place_from n ref (q ∷ refs) = if same_ref q ref then Some n else place_from (n + 1) ref refs

-- where a reference stands among resources
abbrev pub place_of : Ref → List Resource → Option ℕ
place_of ref resources = place_from 0 ref (references_of resources)

-- the greatest number of declared resources and classes, virtual ones too, whatever the limits are
abbrev pub declared_bound : ℕ
declared_bound = HOST_DECLARED

-- the greatest sum of the sizes of all attribute values
abbrev pub attributes_limit : ℕ
attributes_limit = ATTRIBUTES_SIZE

abbrev pub size_of_attributes : List Pair → ℕ
size_of_attributes [] = 0
size_of_attributes (p ∷ pairs) = size_of p.1 + size_of_attributes pairs

abbrev pub size_of_resources : List Resource → ℕ
size_of_resources [] = 0
size_of_resources (r ∷ resources) = size_of_attributes r.attrs + size_of_resources resources

-- these resources, unless all their attributes together are too large
abbrev pub within_size : ℕ → List Resource → Result (List Resource) Refusal
within_size at resources = if nat_lt attributes_limit (size_of_resources resources) then Err (refusal 32 at (codes "attributes")) else Ok resources

-- ---- defaults

abbrev pub is_class_sort : Sort → Bool
is_class_sort sort.Plain = false
is_class_sort sort.Defined = false
is_class_sort sort.Class = true

abbrev pub is_class : Resource → Bool
is_class r = is_class_sort r.sort

-- the attributes that defaults give to a type, in order
abbrev pub defaults_of : List ℕ → List Default → List Pair
defaults_of kind [] = []
defaults_of kind (d ∷ defaults) =
    if bytes_eq d.kind kind then d.attributes ++ defaults_of kind defaults else defaults_of kind defaults

-- no attribute has the pair's name
abbrev pub lacks : List Pair → Pair → Bool
lacks attributes p = is_none (value_at p.0 attributes)

-- a resource with the defaults of its type that it hasn't got; a class has none
abbrev pub with_defaults : List Default → Resource → Resource
with_defaults defaults r =
    if is_class r then r else record r {
      attrs =
          r.attrs ++ filter (lacks r.attrs) (defaults_of r.id.kind defaults);
    }

-- ---- adding

-- Once the main code has ended, a resource has its defaults from the start.
abbrev pub as_added : State → Resource → Resource
as_added s r = if s.main_has_ended then with_defaults s.defaults r else r

abbrev pub with_resource : State → Resource → State
with_resource s r = record s { resources = s.resources ++ r ∷ [] }

-- the reference is new
abbrev pub is_new : Resource → State → Result State Refusal
is_new r s = if is_declared r.id s then Err (refusal 24 r.at (shown_ref r.id)) else Ok s

-- there is room for one more resource
abbrev pub has_room : Resource → State → Result State Refusal
has_room r s = if nat_lt (length s.resources) (declared_limit s.limits) then Ok s else Err (refusal 32 r.at (codes "declared"))

-- one more resource, of a new reference, where there is room for it and for its attributes
abbrev pub added : Resource → Effect
added r s = do
  _ ← is_new r s
  _ ← has_room r s
  _ ← within_size r.at (s.resources ++ as_added s r ∷ [])
  Ok (with_resource s (as_added s r))

-- ---- what is left for the rounds

-- a container holds a class
abbrev pub held : ℕ → ℕ → State → State
held outer class s = record s { holdings = s.holdings ++ record { outer = outer; class = class } ∷ [] }

-- more ties
abbrev pub tied : List Tie → State → State
tied ties s = record s { ties = s.ties ++ ties }

-- one more collector
abbrev pub collected : Collector → State → State
collected c s = record s { collectors = s.collectors ++ c ∷ [] }

-- more references that are to be realized
abbrev pub with_pending : List Pending → State → State
with_pending more s = record s { pending = s.pending ++ more }
