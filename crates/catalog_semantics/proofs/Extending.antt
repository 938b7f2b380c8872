-- Statements only add.
use Rattle.std.proofs.Common.{◌≡◌, ℕ, List, [], ◌∷◌, ◌++◌, map, Ok, refl, subst, ◌∙◌}
use Rattle.pp_syntax.specs.declared.tree.Stmt.{Stmt}
use Rattle.pp_value.specs.declared.value.Value.{Value}
use Rattle.pp_eval.specs.declared.scope.Scope.{Scope}
use Rattle.pp_eval.specs.Scoping.{Scoped, entered, with_binding}
use Rattle.pp_eval.specs.Extending.{Begins, Extends as ScopesExtend}
use Rattle.pp_eval.specs.Growing.{begins_same, begins_joined, begins_more, same_extends as scopes_same, extends_joined as scopes_joined, bound_extends, body_extends}
use Rattle.catalog_semantics.specs.declared.catalog.Resource.{Resource}
use Rattle.catalog_semantics.specs.declared.state.Collector.{Collector}
use Rattle.catalog_semantics.specs.declared.state.Pending.{Pending}
use Rattle.catalog_semantics.specs.declared.state.Tie.{Tie}
use Rattle.catalog_semantics.specs.Sites.{Definition, Site}
use Rattle.catalog_semantics.specs.States.{State, Holding, in_turn, with_scopes, bound, as_added, is_new, has_room, within_size}
use Rattle.catalog_semantics.specs.States.{added, held, tied, collected, with_pending}
use Rattle.catalog_semantics.specs.Declaring.{entering, opened, begun, ended}
use Rattle.catalog_semantics.specs.Rooms.{Room}
use Rattle.catalog_semantics.specs.Effects.{effect_at, effect_of}
use Rattle.catalog_semantics.specs.Frames.{Each, Extends}
use Rattle.catalog_semantics.proofs.Keeping.{Keeps, IsFrame, step_each, bound_each, all_keep, opened_keeps, effect_at_keeps, statement_keeps}

-- ---- states

-- A state only adds where its scopes do and its lists begin as they were.
grows : (s : State) (scopes : Scoped) (resources : List Resource) (holdings : List Holding) (ties : List Tie) (collectors : List Collector) (pending : List Pending)
    → ScopesExtend s.scopes scopes → Begins s.resources resources → Begins s.holdings holdings → Begins s.ties ties → Begins s.collectors collectors
    → Begins s.pending pending
    → Extends s (record s { scopes = scopes; resources = resources; holdings = holdings; ties = ties; collectors = collectors; pending = pending })
grows s scopes resources holdings ties collectors pending extend more_resources more_holdings more_ties more_collectors more_pending = record {
  limits = refl;
  running = refl;
  main_has_ended = refl;
  scopes = extend;
  defaults = refl;
  ran = refl;
  resources = more_resources;
  holdings = more_holdings;
  ties = more_ties;
  collectors = more_collectors;
  pending = more_pending;
}

-- a state only adds nothing to itself
extends_same : (s : State) → Extends s s
extends_same s = grows s s.scopes s.resources s.holdings s.ties s.collectors s.pending
    (scopes_same s.scopes) (begins_same s.resources) (begins_same s.holdings) (begins_same s.ties) (begins_same s.collectors) (begins_same s.pending)

-- what only adds to what only adds only adds
pub extends_joined : (s t u : State) → Extends s t → Extends t u → Extends s u
extends_joined s t u h k = record {
  limits = k.limits ∙ h.limits;
  running = k.running ∙ h.running;
  main_has_ended = k.main_has_ended ∙ h.main_has_ended;
  scopes = scopes_joined s.scopes t.scopes u.scopes h.scopes k.scopes;
  defaults = k.defaults ∙ h.defaults;
  ran = k.ran ∙ h.ran;
  resources = begins_joined s.resources t.resources u.resources h.resources k.resources;
  holdings = begins_joined s.holdings t.holdings u.holdings h.holdings k.holdings;
  ties = begins_joined s.ties t.ties u.ties h.ties k.ties;
  collectors = begins_joined s.collectors t.collectors u.collectors h.collectors k.collectors;
  pending = begins_joined s.pending t.pending u.pending h.pending k.pending;
}

-- bindings only add
scopes_extend : (s : State) (scopes : Scoped) → ScopesExtend s.scopes scopes → Extends s (with_scopes scopes s)
scopes_extend s scopes h = grows s scopes s.resources s.holdings s.ties s.collectors s.pending
    h (begins_same s.resources) (begins_same s.holdings) (begins_same s.ties) (begins_same s.collectors) (begins_same s.pending)

-- so do more resources
resources_extend : (s : State) (more : List Resource) → Extends s (record s { resources = s.resources ++ more })
resources_extend s more = grows s s.scopes (s.resources ++ more) s.holdings s.ties s.collectors s.pending
    (scopes_same s.scopes) (begins_more s.resources more) (begins_same s.holdings) (begins_same s.ties) (begins_same s.collectors) (begins_same s.pending)

-- so does a holding
holds_extend : (outer class : ℕ) (s : State) → Extends s (held outer class s)
holds_extend outer class s =
    let more : List Holding = record { outer = outer; class = class } ∷ [] in
    grows s s.scopes s.resources (s.holdings ++ more) s.ties s.collectors s.pending
    (scopes_same s.scopes) (begins_same s.resources) (begins_more s.holdings more) (begins_same s.ties) (begins_same s.collectors) (begins_same s.pending)

-- so do ties
ties_extend : (ties : List Tie) (s : State) → Extends s (tied ties s)
ties_extend ties s = grows s s.scopes s.resources s.holdings (s.ties ++ ties) s.collectors s.pending
    (scopes_same s.scopes) (begins_same s.resources) (begins_same s.holdings) (begins_more s.ties ties) (begins_same s.collectors) (begins_same s.pending)

-- so does a collector
collects_extend : (c : Collector) (s : State) → Extends s (collected c s)
collects_extend c s = grows s s.scopes s.resources s.holdings s.ties (s.collectors ++ c ∷ []) s.pending
    (scopes_same s.scopes) (begins_same s.resources) (begins_same s.holdings) (begins_same s.ties) (begins_more s.collectors (c ∷ [])) (begins_same s.pending)

-- so do references that are to be realized
wants_extend : (more : List Pending) (s : State) → Extends s (with_pending more s)
wants_extend more s = grows s s.scopes s.resources s.holdings s.ties s.collectors (s.pending ++ more)
    (scopes_same s.scopes) (begins_same s.resources) (begins_same s.holdings) (begins_same s.ties) (begins_same s.collectors) (begins_more s.pending more)

-- binding a name only adds
binds_extend : (at : ℕ) (name : List ℕ) (x : Value) → Keeps Extends (bound at name x)
binds_extend at name x s = bound_each (Extends s) at name x s (scopes_extend s (with_binding name x s.scopes) (bound_extends s.scopes name x))

-- so does adding a resource
adds_extend : (r : Resource) → Keeps Extends (added r)
adds_extend r s = step_each (Extends s) (is_new r s) _ (λ new. step_each (Extends s) (has_room r s) _ (λ room.
    step_each (Extends s) (within_size r.at (s.resources ++ as_added s r ∷ [])) _ (λ fits. resources_extend s (as_added s r ∷ []))))

-- so does a body that runs
bodies_extend : (place : ℕ) (scope : Scope) (s t u : State) → Extends (entering scope s) t → Extends (begun place t) u
    → Extends s (ended s u)
bodies_extend place scope s t u h k = record {
  limits = k.limits ∙ h.limits;
  running = refl;
  main_has_ended = k.main_has_ended ∙ h.main_has_ended;
  scopes = body_extends s.scopes u.scopes scope (scopes_joined (entered s.scopes scope) t.scopes u.scopes h.scopes k.scopes);
  defaults = k.defaults ∙ h.defaults;
  ran = k.ran ∙ h.ran;
  resources = begins_joined s.resources t.resources u.resources h.resources k.resources;
  holdings = begins_joined s.holdings t.holdings u.holdings h.holdings k.holdings;
  ties = begins_joined s.ties t.ties u.ties h.ties k.ties;
  collectors = begins_joined s.collectors t.collectors u.collectors h.collectors k.collectors;
  pending = begins_joined s.pending t.pending u.pending h.pending k.pending;
}

-- so does each single change
pub extending : IsFrame Extends
extending = record {
  same = extends_same;
  joined = extends_joined;
  binds = binds_extend;
  adds = λ r sound s holder. adds_extend r s;
  bodies = λ place scope s t u at. bodies_extend place scope s t u;
  holds = λ name outer class s is at. holds_extend outer class s;
  ties = ties_extend;
  collects = collects_extend;
  wants = wants_extend;
}

-- so does a statement, in any room
pub only_adds_within : (room : Room) (site : Site) (x : Stmt) (s t : State) → effect_at room site x s ≡ Ok t → Extends s t
only_adds_within room site x s t h = subst (Each (Extends s)) h (effect_at_keeps Extends extending room site x s)

-- so do the statements of a block
pub blocks_only_add : (room : Room) (site : Site) (body : List Stmt) (s t : State) → in_turn (map (effect_at room site) body) s ≡ Ok t → Extends s t
blocks_only_add room site body s t h = subst (Each (Extends s)) h (all_keep Extends extending (effect_at room site) body (effect_at_keeps Extends extending room site) s)

-- so does the opening of a body, in its scope
pub openings_only_add : (d : Definition) (r : Resource) (scope : Scope) (s t : State) → opened d r scope s ≡ Ok t → Extends (entering scope s) t
openings_only_add d r scope s t h = subst (Each (Extends (entering scope s))) h (opened_keeps Extends extending d r scope s)

-- a statement only adds
pub only_adds : (site : Site) (x : Stmt) (s t : State) → effect_of site x s ≡ Ok t → Extends s t
only_adds site x s t h = subst (Each (Extends s)) h (statement_keeps Extends extending site x s)
