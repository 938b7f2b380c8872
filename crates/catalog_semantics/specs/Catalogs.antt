-- The catalog of a manifest: the main code, then the rounds.
use Rattle.std.specs.Prelude.{◌≡◌, ℕ, suc, zero, ◌+◌, Bool, true, false, ◌||◌, ◌&&◌, ◌==◌, not, nat_lt, if◌then◌else◌, List, [], ◌∷◌, ◌++◌}
use Rattle.std.specs.Prelude.{map, filter, length, slice_get, codes, Option, Some, None, Result, Ok, Err}
use Rattle.std.specs.List.{list_any}
use Rattle.rh_base.specs.declared.fault.Refusal.{Refusal}
use Rattle.host_limits.specs.declared.limits.Limits.{Limits}
use Rattle.host_limits.specs.Limits.{declared_limit, resource_limit}
use Rattle.pp_syntax.specs.declared.tree.Attr.{Attr}
use Rattle.pp_syntax.specs.declared.tree.Item.{Item}
use Rattle.pp_syntax.specs.declared.tree.Item.TheVariants as item
use Rattle.pp_syntax.specs.declared.tree.Manifest.{Manifest}
use Rattle.pp_value.specs.declared.value.Ref.{Ref}
use Rattle.pp_value.specs.declared.value.Value.{Value}
use Rattle.pp_value.specs.Values.{Pair, same_ref}
use Rattle.pp_value.specs.Shown.{shown_ref}
use Rattle.pp_eval.specs.References.{plain_name}
use Rattle.pp_eval.specs.Evaluating.{◌>>=◌, refusal}
use Rattle.pp_eval.specs.Scoping.{entered, node_scope_new, defined_scope, at_start, pairs_in}
use Rattle.pp_data.specs.declared.data.Level.{Level}
use Rattle.catalog_semantics.specs.declared.catalog.Sort.{Sort}
use Rattle.catalog_semantics.specs.declared.catalog.Sort.TheVariants as sort
use Rattle.catalog_semantics.specs.declared.catalog.Resource.{Resource}
use Rattle.catalog_semantics.specs.declared.catalog.Relation.{Relation}
use Rattle.catalog_semantics.specs.declared.state.Collector.{Collector}
use Rattle.catalog_semantics.specs.declared.state.Default.{Default}
use Rattle.catalog_semantics.specs.declared.state.Pending.{Pending}
use Rattle.catalog_semantics.specs.declared.state.Side.{Side}
use Rattle.catalog_semantics.specs.declared.state.Side.TheVariants as side
use Rattle.catalog_semantics.specs.declared.state.Tie.{Tie}
use Rattle.catalog_semantics.specs.Sites.{Definition, Node, Site, site_of, definition_of, node_block}
use Rattle.catalog_semantics.specs.States.{Holding, State, Effect, in_turn, is_declared, defaults_of, with_defaults, within_size}
use Rattle.catalog_semantics.specs.Attributes.{attributes_behind, names_of}
use Rattle.catalog_semantics.specs.Declaring.{named_type, body_runs}
use Rattle.catalog_semantics.specs.Collecting.{matches}
use Rattle.catalog_semantics.specs.Effects.{effect_of}

-- ---- defaults

abbrev pub with_default : List ℕ → List Pair → State → State
with_default kind attributes s =
    record s { defaults = s.defaults ++ record { kind = kind; attributes = attributes } ∷ [] }

-- A name that an earlier default gave to the type counts as one that stood before.
abbrev pub default_given : Site → ℕ → List ℕ → List Attr → Effect
default_given site at kind attrs s = do
  known ← named_type site at (plain_name kind)
  attributes ← attributes_behind s.scopes (names_of (defaults_of known s.defaults)) attrs
  Ok (with_default known attributes s)

-- the first resources of these have their defaults, and the others not yet
abbrev pub filled_behind : List Default → List Resource → List Resource → Result (List Resource) Refusal
filled_behind defaults done [] = Ok done
filled_behind defaults done (r ∷ resources) = do
  _ ← within_size r.at (done ++ with_defaults defaults r ∷ resources)
  filled_behind defaults (done ++ with_defaults defaults r ∷ []) resources

-- ---- the main code

-- one thing at the top; definitions do nothing where they stand
abbrev pub item_effect : Site → Item → Effect
item_effect site (item.Class at name params parent body) s = Ok s
item_effect site (item.Define at name params body) s = Ok s
item_effect site (item.Node at names body) s = Ok s
item_effect site (item.Defaults at kind attrs) s = default_given site at kind attrs s
item_effect site (item.Plain stmt) s = effect_of site stmt s

-- the node's block, in the node's scope, which stays open
abbrev pub node_effect : Site → Option Node → Effect
node_effect site None s = Ok s
node_effect site (Some node) s = in_turn (map (effect_of site) node.body) (record s { scopes = entered s.scopes node_scope_new })

-- Defaults take hold.
abbrev pub main_ended : Effect
main_ended s = do
  resources ← filled_behind s.defaults [] s.resources
  Ok (record s { main_has_ended = true; resources = resources })

-- nothing is declared, and the facts stand at the top
abbrev pub first_state : Value → Limits → State
first_state facts limits =
    record {
      limits = limits;
      running = None;
      main_has_ended = false;
      scopes = at_start facts;
      defaults = [];
      resources = [];
      ran = [];
      holdings = [];
      ties = [];
      collectors = [];
      pending = [];
    }

-- the statements and defaults at the top, then the node's block, and then the defaults
abbrev pub main_code : Site → List Item → Effect
main_code site items s = do
  t ← in_turn (map (item_effect site) items) s
  u ← node_effect site (node_block site) t
  main_ended u

-- ---- rounds

-- a collector matches it, or a realization names it
abbrev pub is_called_for : State → Resource → Bool
is_called_for s r = list_any (λ c. matches c r) s.collectors || list_any (λ p. same_ref p.target r.id) s.pending

abbrev pub made_real : State → Resource → Resource
made_real s r = if is_called_for s r then record r { is_virtual = false } else r

-- All that is called for is made real.
abbrev pub realized : State → State
realized s = record s { resources = map (made_real s) s.resources }

abbrev pub is_defined_sort : Sort → Bool
is_defined_sort sort.Plain = false
is_defined_sort sort.Defined = true
is_defined_sort sort.Class = false

abbrev pub has_run : State → ℕ → Bool
has_run s place = list_any (λ k. place == k) s.ran

-- a real resource of a defined type whose body hasn't run
abbrev pub is_due : State → ℕ → Resource → Bool
is_due s place r = is_defined_sort r.sort && not r.is_virtual && not (has_run s place)

-- the first that is due, with its place, where those given are counted from n on
abbrev pub next_due : State → ℕ → List Resource → Option (ℕ × Resource)
next_due s n [] = None
next_due s n (r ∷ resources) = if is_due s n r then Some (n, r) else next_due s (n + 1) resources

-- the body of the resource at a place counts as run
abbrev pub counted_as_run : ℕ → State → State
counted_as_run place s = record s { ran = s.ran ++ place ∷ [] }

-- the body of a defined resource
abbrev pub type_runs : Site → ℕ → Resource → Option Definition → Effect
type_runs site place r None s = Ok (counted_as_run place s)
type_runs site place r (Some d) s = body_runs (effect_of site) d place r defined_scope (counted_as_run place s)

abbrev pub resource_runs : Site → ℕ × Resource → Effect
resource_runs site x s = type_runs site x.0 x.1 (definition_of x.1.id.kind site.defined_types) s

-- what is due runs, and then all goes on; else nothing is left to do
abbrev pub run_and_go_on : Site → Effect → Option (ℕ × Resource) → Effect
run_and_go_on site go_on None s = Ok s
run_and_go_on site go_on (Some x) s = do
  t ← resource_runs site x s
  go_on t

-- In a round what is called for is made real, and then the first resource that is due runs. Where none is due, another round
-- changes nothing. At most n of them.
abbrev pub rounds : ℕ → Site → Effect
rounds zero site s = Ok s
rounds (suc n) site s = run_and_go_on site (rounds n site) (next_due (realized s) 0 (realized s).resources) (realized s)

-- the state after the main code and as many rounds
abbrev pub state_after : ℕ → Site → List Item → Value → Limits → Result State Refusal
state_after n site items facts limits = do
  s ← main_code site items (first_state facts limits)
  rounds n site s

-- As many rounds as resources may be declared, and one more, are all.
abbrev pub round_limit : Limits → ℕ
round_limit limits = declared_limit limits + 1

-- ---- after the rounds

-- each reference that is to be realized is in the catalog
abbrev pub all_there : List Pending → State → Result State Refusal
all_there [] s = Ok s
all_there (p ∷ pending) s = if is_declared p.target s then all_there pending s else Err (refusal 40 p.at (shown_ref p.target))

abbrev pub is_plain_sort : Sort → Bool
is_plain_sort sort.Plain = true
is_plain_sort sort.Defined = false
is_plain_sort sort.Class = false

-- the real resources of built-in types
abbrev pub real_plain : List Resource → List Resource
real_plain resources = filter (λ r. is_plain_sort r.sort && not r.is_virtual) resources

-- no more of them than there may be
abbrev pub few_enough : State → Result State Refusal
few_enough s = if nat_lt (resource_limit s.limits) (length (real_plain s.resources)) then Err (refusal 32 0 (codes "resources")) else Ok s

-- ---- the catalog

-- resources, the classes that containers hold, and what comes before what
pub record Catalog : Type 0 where
  pub resources : List Resource
  pub holdings : List Holding
  pub relations : List Relation

-- the real resources that a collector matches
abbrev pub matched : List Resource → Option Collector → List Ref
matched resources None = []
matched resources (Some c) = map (λ r. r.id) (filter (λ r. matches c r && not r.is_virtual) resources)

abbrev pub refs_of : State → Side → List Ref
refs_of s (side.Named refs) = refs
refs_of s (side.Matched k) = matched s.resources (slice_get s.collectors k)

abbrev pub relation_of : State → Tie → Relation
relation_of s t = record { from = refs_of s t.from; to = refs_of s t.to; at = t.at }

-- the catalog of a state
abbrev pub catalog_in : State → Catalog
catalog_in s = record { resources = s.resources; holdings = s.holdings; relations = map (relation_of s) s.ties }

-- the main code of a manifest, the rounds, and what is asked then
abbrev pub catalog_from : Site → List Item → Value → Limits → Result Catalog Refusal
catalog_from site items facts limits = do
  t ← state_after (round_limit limits) site items facts limits
  _ ← all_there t.pending t
  u ← few_enough t
  Ok (catalog_in u)

-- the catalog of a manifest for a node, under facts and class data, within limits
abbrev pub catalog_of : Manifest → Value → List ℕ → List Level → Limits → Result Catalog Refusal
catalog_of m facts node_name data_levels limits = do
  site ← site_of m data_levels (pairs_in facts) node_name
  catalog_from site m.items facts limits

-- Another round changes nothing: what is called for is real, and nothing is due.
pub record IsSettled (s : State) : Type 0 where
  pub real : realized s ≡ s
  pub none_due : next_due s 0 s.resources ≡ None
