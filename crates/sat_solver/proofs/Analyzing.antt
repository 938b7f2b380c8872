-- Laws of what holds of the resolvent while literals are resolved away.
use Rattle.std.proofs.Common.{◌≡◌, ℕ, ◌-◌, ◌<◌, ◌^◌, Bool, List, length, get_or, sym, ap, subst, arith}
use Rattle.unit_propagation.specs.Trails.{Way, IsApart, Rising}
use Rattle.unit_propagation.specs.Literals.{has}
use Rattle.unit_propagation.specs.Watching.{clause, IsSound}
use Rattle.unit_propagation.specs.declared.watches.Watcher.{Watcher}
use Rattle.sat_solver.specs.Resolving.{in_clause, Reaches, IsGiven, IsLeft, Covers}
use Rattle.sat_solver.specs.Analyzing.{IsImplicationGraph, Resolves, IsAnalyzed, IsIdle, Shrinks}
use Rattle.sat_solver.specs.declared.analyze.Resolution.{Resolution}
use Rattle.sat_solver.specs.declared.analyze.Resolvent.{Resolvent}
use Rattle.sat_solver.specs.declared.graph.ImplicationGraph.{ImplicationGraph}
use Rattle.sat_solver.proofs.Steps.{given_last}

-- where nothing is resolved away
pub resolves_same : (g : ImplicationGraph) (r : Resolvent) → Resolves g r r
resolves_same g r = record { covered = λ h. h; leads = λ c h. h }

-- where literals are resolved away, and then others
pub resolves_then : (g : ImplicationGraph) (r next last : Resolvent) → Resolves g r next → Resolves g next last → Resolves g r last
resolves_then g r next last a b = record { covered = λ h. b.covered (a.covered h); leads = λ c h. b.leads c (a.leads c h) }

-- where nothing is resolved away, the unique implication point stays
pub shrinks_same : (g : ImplicationGraph) (r : Resolvent) → Shrinks g r r
shrinks_same g r = record { resolves = resolves_same g r; uip = λ p h. h }

-- where literals from ahead of the last level are resolved away, and then others, the unique implication point stays
pub shrinks_then : (g : ImplicationGraph) (r next last : Resolvent) → Shrinks g r next → Shrinks g next last → Shrinks g r last
shrinks_then g r next last a b = record { resolves = resolves_then g r next last a.resolves b.resolves; uip = λ p h. b.uip p (a.uip p h) }

-- behind the whole trail no literal needs a reason
pub given_end : (f : List (List ℕ)) (t : Way) (b : ℕ) → IsGiven f t b → IsGiven f t (length t.literals)
given_end f t b h = record {
  few = h.few;
  long = h.long;
  literals = h.literals;
  within = h.within;
  given = λ p l m. absurd (omega arith);
  gives = h.gives;
}

-- what is found stays so when another field of the resolvent is written, and when the resolvent is made smaller
pub analyzed_on : (g : ImplicationGraph) (conflict p : ℕ) (r planned next : Resolvent) → IsAnalyzed g conflict r p → planned.seen ≡ r.seen → planned.marked ≡ r.marked → planned.resolutions ≡ r.resolutions → IsIdle g next → Shrinks g planned next
    → IsAnalyzed g conflict next p
analyzed_on g conflict p r planned next a es em er idle s =
    let t = g.trail.now in
    let same : planned.seen.items ≡ r.seen.items = ap (λ (z : _). z.items) es in
    record {
      uip = s.uip p (subst (IsLeft t.literals g.boundary p) (sym same) a.uip);
      long = idle.long;
      covered = s.resolves.covered (subst (λ (x : List ℕ). Covers t.literals planned.seen.items x) (sym (ap (λ (z : _). z.items) em)) (subst (λ (x : List Bool). Covers t.literals x r.marked.items) (sym same) a.covered));
      leads = s.resolves.leads _ (subst (λ (x : List Resolution). Reaches g.store.now (has (clause g.store.now conflict)) x (in_clause t.literals planned.seen.items)) (sym (ap (λ (z : _). z.items) er))
          (subst (λ (x : List Bool). Reaches g.store.now (has (clause g.store.now conflict)) r.resolutions.items (in_clause t.literals x)) (sym same) a.leads));
    }

-- where a trail is sound, what stands on it from its last level on are implications
pub graph_last : (g : ImplicationGraph) (w : List (List Watcher)) (k : ℕ) → k ≡ length g.trail.now.starts → 0 < length g.trail.now.starts → g.boundary ≡ get_or g.trail.now.starts (k - 1) 0 → Rising g.trail.now.starts (length g.trail.now.literals)
    → IsSound g.store.now g.trail.now w → IsApart g.trail.now.literals → length g.trail.now.literals < 2 ^ 32 → IsImplicationGraph g
graph_last g w k count some start rising sound apart short =
    let t = g.trail.now in
    let f = g.store.now in
    record { apart = apart; short = short; reasons = subst (IsGiven f t) (sym start) (given_last f t w (k - 1) (omega arith) rising sound) }
