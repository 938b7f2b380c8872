-- What is so of a whole manifest, where each single change and each round keeps it.
use Rattle.std.proofs.Common.{◌≡◌, ℕ, zero, suc, Bool, true, false, cond, List, [], ◌∷◌, ◌++◌, map, Option, Some, None, Result, Ok, Err}
use Rattle.std.proofs.Common.{refl, sym, ap, subst, ◌∙◌, append_assoc}
use Rattle.std.proofs.lemmas.List.{append-nil}
use Rattle.rh_base.specs.declared.fault.Refusal.{Refusal}
use Rattle.host_limits.specs.declared.limits.Limits.{Limits}
use Rattle.pp_syntax.specs.declared.tree.Attr.{Attr}
use Rattle.pp_syntax.specs.declared.tree.Item.{Item}
use Rattle.pp_syntax.specs.declared.tree.Item.TheVariants as item
use Rattle.pp_syntax.specs.declared.tree.Manifest.{Manifest}
use Rattle.pp_value.specs.declared.value.Ref.{Ref}
use Rattle.pp_value.specs.declared.value.Value.{Value}
use Rattle.pp_value.specs.Values.{Pair}
use Rattle.pp_eval.specs.References.{plain_name}
use Rattle.pp_eval.specs.Evaluating.{◌>>=◌}
use Rattle.pp_eval.specs.Scoping.{entered, node_scope_new, defined_scope, pairs_in}
use Rattle.pp_data.specs.declared.data.Level.{Level}
use Rattle.catalog_semantics.specs.declared.catalog.Resource.{Resource}
use Rattle.catalog_semantics.specs.Sites.{Definition, Node, Site, site_of, definition_of, node_block}
use Rattle.catalog_semantics.specs.States.{State, Default, Effect, in_turn, references_of, defaults_of, with_defaults, within_size}
use Rattle.catalog_semantics.specs.Attributes.{attributes_behind, names_of, AreFit}
use Rattle.catalog_semantics.proofs.DistinctNames.{all_fit}
use Rattle.catalog_semantics.specs.Declaring.{named_type}
use Rattle.catalog_semantics.specs.Effects.{effect_of}
use Rattle.catalog_semantics.specs.Catalogs.{with_default, default_given, filled_behind, item_effect, node_effect, main_ended}
use Rattle.catalog_semantics.specs.Catalogs.{first_state, main_code, is_called_for, made_real, realized, next_due, counted_as_run, type_runs}
use Rattle.catalog_semantics.specs.Catalogs.{resource_runs, run_and_go_on, rounds, state_after, round_limit, all_there, few_enough, Catalog}
use Rattle.catalog_semantics.specs.Catalogs.{catalog_in, catalog_from, catalog_of}
use Rattle.catalog_semantics.specs.declared.catalog.Sort.{Sort}
use Rattle.catalog_semantics.specs.declared.catalog.Sort.TheVariants as sort
use Rattle.std.specs.Prelude.{slice_get, not, ◌&&◌}
use Rattle.std.proofs.Common.{◌+◌, length, length-append}
use Rattle.catalog_semantics.specs.Catalogs.{is_defined_sort, is_plain_sort, has_run, is_due}
use Rattle.catalog_semantics.specs.Frames.{Each, StandOnce, IsContainerAt}
use Rattle.catalog_semantics.proofs.Keeping.{Keeps, IsFrame, step_each, then_each, if_each, then_keep, all_keep, body_keeps}
use Rattle.catalog_semantics.proofs.Keeping.{statement_keeps}
use Rattle.catalog_semantics.proofs.Once.{StandStill, standing, filled_id}

-- what the main code keeps between its statements too
pub record IsMainFrame (R : State → State → Type 0) : Type 0 where
  pub frame : IsFrame R
  pub gives : (kind : List ℕ) (attributes : List Pair) (s : State) → AreFit (names_of (defaults_of kind s.defaults)) attributes → R s (with_default kind attributes s)
  pub enters : (s : State) → R s (record s { scopes = entered s.scopes node_scope_new })
  pub fills : Keeps R main_ended

-- and what the rounds keep
pub record IsWholeFrame (R : State → State → Type 0) : Type 0 where
  pub main : IsMainFrame R
  pub realizes : (s : State) → R s (realized s)
  pub marks : (place : ℕ) (s : State) → R s (counted_as_run place s)

module _ (R : State → State → Type 0) (whole : IsMainFrame R) (site : Site) where
  -- a default that is given keeps it
  default_keeps : (at : ℕ) (kind : List ℕ) (attrs : List Attr) → Keeps R (default_given site at kind attrs)
  default_keeps at kind attrs s = step_each (R s) (named_type site at (plain_name kind)) _ (λ known.
      then_each (AreFit (names_of (defaults_of known s.defaults))) (R s) (attributes_behind s.scopes (names_of (defaults_of known s.defaults)) attrs) _
      (all_fit s.scopes (names_of (defaults_of known s.defaults)) attrs) (λ attributes fit. whole.gives known attributes s fit))

  -- an item at the top keeps it
  item_keeps : (x : Item) → Keeps R (item_effect site x)
  item_keeps (item.Class at name params parent body) = whole.frame.same
  item_keeps (item.Define at name params body) = whole.frame.same
  item_keeps (item.Node at names body) = whole.frame.same
  item_keeps (item.Defaults at kind attrs) = default_keeps at kind attrs
  item_keeps (item.Plain x) = statement_keeps R whole.frame site x

  -- what is kept from a later state on is kept from the earlier
  from_there : (s t : State) → R s t → (x : Result State Refusal) → Each (R t) x → Each (R s) x
  from_there s t h (Ok u) k = whole.frame.joined s t u h k
  from_there s t h (Err e) k = tt

  -- the node's block keeps it
  node_keeps : (node : Option Node) → Keeps R (node_effect site node)
  node_keeps None s = whole.frame.same s
  node_keeps (Some node) s =
      from_there s (record s { scopes = entered s.scopes node_scope_new }) (whole.enters s) _
      (all_keep R whole.frame (effect_of site) node.body (statement_keeps R whole.frame site)
      (record s { scopes = entered s.scopes node_scope_new }))

  -- the main code keeps it
  pub main_keeps : (items : List Item) → Keeps R (main_code site items)
  main_keeps items s =
      then_keep R whole.frame s (in_turn (map (item_effect site) items) s) (λ t. node_effect site (node_block site) t >>= main_ended)
      (all_keep R whole.frame (item_effect site) items item_keeps s) (λ t.
      then_keep R whole.frame t (node_effect site (node_block site) t) main_ended (node_keeps (node_block site) t) whole.fills)

-- ---- what is due is a container

-- what is due is a defined resource
is_defined : (d : Sort) (b c : Bool) → (is_defined_sort d && b && c) ≡ true → is_plain_sort d ≡ false
is_defined sort.Plain b c h = cc
is_defined sort.Defined b c h = refl
is_defined sort.Class b c h = refl

-- the resource behind a front stands at the front's length
got_behind : (front : List Resource) (r : Resource) (resources : List Resource) → slice_get (front ++ r ∷ resources) (length front) ≡ Some r
got_behind [] r resources = refl
got_behind (q ∷ front) r resources = got_behind front r resources

-- a class or a defined resource stands at the place
abbrev Contains : List Resource → ℕ × Resource → Type 0
Contains all x = IsContainerAt x.0 all

-- so it is of what is due here or further on
due_by : (b : Bool) (all : List Resource) (n : ℕ) (r : Resource) (x : ℕ × Resource) (later : Option (ℕ × Resource)) → slice_get all n ≡ Some r → (b ≡ true → is_plain_sort r.sort ≡ false) → (later ≡ Some x → Contains all x)
    → cond b (Some (n, r)) later ≡ Some x → Contains all x
due_by true all n r x later got sort f is = let e : ◌≡◌ {A = ℕ × Resource} (n, r) x = cc in subst (λ (y : ℕ × Resource). Contains all y) e (r, (got, sort refl))
due_by false all n r x later got sort f is = f is

-- so it is of what is due behind a front
due_behind : (s : State) (front resources : List Resource) (x : ℕ × Resource) → next_due s (length front) resources ≡ Some x → Contains (front ++ resources) x
due_behind s front [] x is = absurd (cc)
due_behind s front (r ∷ resources) x is =
    due_by (is_due s (length front) r) (front ++ r ∷ resources) (length front) r x (next_due s (length front + 1) resources) (got_behind front r resources)
    (is_defined r.sort (not r.is_virtual) (not (has_run s (length front)))) (λ later.
    let more : length (front ++ r ∷ []) ≡ length front + 1 = length-append front (r ∷ []) in
    subst (λ (all : List Resource). Contains all x) (append_assoc front (r ∷ []) resources) (due_behind s (front ++ r ∷ []) resources x (ap (λ n. next_due s n resources) more ∙ later))) is

-- what is due next is a class or a defined resource
pub due_contains : (s : State) (x : ℕ × Resource) → next_due s 0 s.resources ≡ Some x → IsContainerAt x.0 s.resources
due_contains s x is = due_behind s [] s.resources x is

module _ (R : State → State → Type 0) (whole : IsWholeFrame R) (site : Site) where
  -- what is kept from a later state on is kept from the earlier
  begins_there : (s t : State) → R s t → (x : Result State Refusal) → Each (R t) x → Each (R s) x
  begins_there s t h (Ok u) k = whole.main.frame.joined s t u h k
  begins_there s t h (Err e) k = tt

  -- the body of a defined resource that runs keeps it
  pub type_keeps : (place : ℕ) (r : Resource) (d : Option Definition) (s : State) → IsContainerAt place s.resources → Each (R s) (type_runs site place r d s)
  type_keeps place r None s at = whole.marks place s
  type_keeps place r (Some d) s at =
      begins_there s (counted_as_run place s) (whole.marks place s) _
      (body_keeps R whole.main.frame (effect_of site) (statement_keeps R whole.main.frame site) d place r defined_scope (counted_as_run place s) at)

  -- a run of what is due keeps it
  run_keeps : (go_on : Effect) → Keeps R go_on → (x : Option (ℕ × Resource)) (s : State) → ((y : ℕ × Resource) → x ≡ Some y → IsContainerAt y.0 s.resources) → Each (R s) (run_and_go_on site go_on x s)
  run_keeps go_on h None s at = whole.main.frame.same s
  run_keeps go_on h (Some x) s at =
      then_keep R whole.main.frame s (resource_runs site x s) go_on (type_keeps x.0 x.1 (definition_of x.1.id.kind site.defined_types) s (at x refl)) h

  -- the rounds keep it
  pub rounds_keep : (n : ℕ) → Keeps R (rounds n site)
  rounds_keep zero s = whole.main.frame.same s
  rounds_keep (suc n) s =
      begins_there s (realized s) (whole.realizes s) _
      (run_keeps (rounds n site) (rounds_keep n) (next_due (realized s) 0 (realized s).resources) (realized s) (λ y is. due_contains (realized s) y is))

  -- the main code and then the rounds
  pub whole_keeps : (items : List Item) (n : ℕ) (s : State) → Each (R s) (main_code site items s >>= rounds n site)
  whole_keeps items n s =
      then_keep R whole.main.frame s (main_code site items s) (rounds n site) (main_keeps R whole.main site items s) (rounds_keep n)

-- ---- references

-- the references of these resources
abbrev SameRefs : List Resource → List Resource → Type 0
SameRefs resources all = references_of all ≡ references_of resources

-- the same references, what has run, and the limits
abbrev pub Same : State → State → Type 0
Same s t = SameRefs s.resources t.resources × (t.ran ≡ s.ran) × (t.limits ≡ s.limits)

-- defaults that take hold leave the references
fills_same : (defaults : List Default) (done resources : List Resource) → Each (SameRefs (done ++ resources)) (filled_behind defaults done resources)
fills_same defaults done [] = ap references_of (sym (append-nil done))
fills_same defaults done (r ∷ resources) =
    step_each _ (within_size r.at (done ++ with_defaults defaults r ∷ resources)) _ (λ fits.
    behind (filled_behind defaults (done ++ with_defaults defaults r ∷ []) resources) (fills_same defaults (done ++ with_defaults defaults r ∷ []) resources))
  where
    same_refs : (done : List Resource) → references_of (done ++ with_defaults defaults r ∷ resources) ≡ references_of (done ++ r ∷ resources)
    same_refs [] = ap (λ (w : Ref). w ∷ references_of resources) (filled_id defaults r)
    same_refs (q ∷ done) = ap (λ (w : List Ref). q.id ∷ w) (same_refs done)

    behind : (x : Result (List Resource) Refusal) → Each (SameRefs ((done ++ with_defaults defaults r ∷ []) ++ resources)) x
        → Each (SameRefs (done ++ r ∷ resources)) x
    behind (Ok all) h = h ∙ ap references_of (append_assoc done (with_defaults defaults r ∷ []) resources) ∙ same_refs done
    behind (Err e) h = tt

-- so does the end of the main code, and what has run, and the limits
pub ends_same : (s : State) → Each (Same s) (main_ended s)
ends_same s =
    then_each (SameRefs s.resources) (Same s) (filled_behind s.defaults [] s.resources) _ (fills_same s.defaults [] s.resources)
    (λ all same. (same, refl, refl))

-- making a resource real leaves its reference
real_id : (s : State) (r : Resource) → (made_real s r).id ≡ r.id
real_id s r = either (is_called_for s r)
  where
    either : (b : Bool) → (cond b (record r { is_virtual = false }) r).id ≡ r.id
    either true = refl
    either false = refl

-- and those of all
real_refs : (s : State) (resources : List Resource) → references_of (map (made_real s) resources) ≡ references_of resources
real_refs s [] = refl
real_refs s (r ∷ resources) = λ i. real_id s r i ∷ real_refs s resources i

-- what is given is so, where what it is is so
pub mapped : (P Q : State → Type 0) (x : Result State Refusal) → ((t : State) → P t → Q t) → Each P x → Each Q x
mapped P Q (Ok t) h k = h t k
mapped P Q (Err e) h k = tt

-- the main code keeps each reference standing once
main_standing : IsMainFrame StandStill
main_standing = record {
  frame = standing;
  gives = λ kind attributes s fit h. h;
  enters = λ s h. h;
  fills = λ s. mapped (Same s) (StandStill s) (main_ended s) (λ t e h. subst StandOnce (sym e.0) h) (ends_same s);
}

-- so do the rounds
pub whole_standing : IsWholeFrame StandStill
whole_standing = record {
  main = main_standing;
  realizes = λ s h. subst StandOnce (sym (real_refs s s.resources)) h;
  marks = λ place s h. h;
}

-- ---- the catalog

-- asking for what is to be realized changes nothing
pub there_is : (pending : List _) (s : State) → Each (λ t. t ≡ s) (all_there pending s)
there_is [] s = refl
there_is (p ∷ pending) s = if_each (λ (t : State). t ≡ s) _ (all_there pending s) (Err _) (there_is pending s) tt

-- nor does asking for how many there are
pub few_is : (s : State) → Each (λ t. t ≡ s) (few_enough s)
few_is s = if_each (λ (t : State). t ≡ s) _ (Err _) (Ok s) tt refl

-- each reference stands once in the catalog
abbrev pub CatalogStands : Catalog → Type 0
CatalogStands c = StandOnce (references_of c.resources)

-- so it is of the catalog of a state in which each does
ends_standing : (t : State) → StandOnce (references_of t.resources)
    → Each CatalogStands (all_there t.pending t >>= λ there. few_enough t >>= λ u. Ok (catalog_in u))
ends_standing t h = step_each CatalogStands (all_there t.pending t) _ (λ there.
    then_each (λ (u : State). u ≡ t) CatalogStands (few_enough t) _ (few_is t)
    (λ u e. subst (λ (w : State). StandOnce (references_of w.resources)) (sym e) h))

-- and of that of a site
from_standing : (site : Site) (items : List Item) (facts : Value) (limits : Limits) → Each CatalogStands (catalog_from site items facts limits)
from_standing site items facts limits =
    then_each (StandStill (first_state facts limits)) CatalogStands (state_after (round_limit limits) site items facts limits) _
    (whole_keeps StandStill whole_standing site items (round_limit limits) (first_state facts limits)) (λ t k. ends_standing t (k tt))

-- Each reference stands once in the catalog of a manifest.
pub catalog_stands : (m : Manifest) (facts : Value) (node_name : List ℕ) (data_levels : List Level) (limits : Limits) (c : Catalog)
    → catalog_of m facts node_name data_levels limits ≡ Ok c → StandOnce (references_of c.resources)
catalog_stands m facts node_name data_levels limits c h =
    subst (Each CatalogStands) h (step_each CatalogStands (site_of m data_levels (pairs_in facts) node_name) _
    (λ site. from_standing site m.items facts limits))
