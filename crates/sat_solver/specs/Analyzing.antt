-- Conflict analysis in an implication graph: what holds of the resolvent while literals are resolved away, and at the end.
use Rattle.std.specs.Prelude.{◌≡◌, ℕ, ◌^◌, ◌<◌, Bool, false, [], length, take, None}
use Rattle.unit_propagation.specs.Literals.{has}
use Rattle.unit_propagation.specs.Trails.{Way, IsApart, reason_at}
use Rattle.unit_propagation.specs.Watching.{clause, IsFalse, AtRest}
use Rattle.sat_solver.specs.Resolving.{is_seen, IsMarked, in_clause, Reaches, IsGiven, IsLeft, Covers}
use Rattle.sat_solver.specs.declared.analyze.Resolvent.{Resolvent}
use Rattle.sat_solver.specs.declared.graph.ImplicationGraph.{ImplicationGraph}

-- No two literals on the trail are of one variable, and each behind the last decision was given by its reason.
pub record IsImplicationGraph (g : ImplicationGraph) : Type 0 where
  pub apart : IsApart g.trail.now.literals
  pub short : length g.trail.now.literals < 2 ^ 32
  pub reasons : IsGiven g.store.now g.trail.now g.boundary

-- a clause gave each literal on the trail: none was decided
abbrev pub IsAllGiven : Way → Type 0
IsAllGiven t = (p : ℕ) → p < length t.literals → reason_at t p ≡ None → ⊥

-- A conflict of the last level: all literals of the clause are false, and ahead of that level unit propagation had come to its end.
pub record IsConflict (g : ImplicationGraph) (conflict : ℕ) : Type 0 where
  pub decided : g.boundary < length g.trail.now.literals
  pub is_false : IsFalse g.store.now g.trail.now.literals conflict
  pub rested : AtRest g.store.now (take g.boundary g.trail.now.literals)

-- nothing is marked, and no resolution is made
pub record IsClear (g : ImplicationGraph) (r : Resolvent) : Type 0 where
  pub long : length r.seen.items ≡ g.trail.now.vars
  pub none : (x : ℕ) → is_seen r.seen.items x ≡ false
  pub zero_open : r.pending ≡ 0
  pub no_resolution : r.resolutions.items ≡ []
  pub no_mark : r.marked.items ≡ []

-- the resolvent's variables stand on the trail ahead of a limit, and those of the last level are counted
abbrev pub IsCounted : ImplicationGraph → ℕ → Resolvent → Type 0
IsCounted g limit r = IsMarked g.trail.now.literals g.trail.now.vars g.boundary limit r.seen.items r.pending

-- each variable of the resolvent is that of a literal that was marked
abbrev pub IsCovered : ImplicationGraph → Resolvent → Type 0
IsCovered g r = Covers g.trail.now.literals r.seen.items r.marked.items

-- the resolutions lead from a set of literals to the resolvent
abbrev pub IsReached : ImplicationGraph → (ℕ → Bool) → Resolvent → Type 0
IsReached g c r = Reaches g.store.now c r.resolutions.items (in_clause g.trail.now.literals r.seen.items)

-- a place of the trail has a unique implication point (UIP) of the resolvent
abbrev pub HasUip : ImplicationGraph → ℕ → Resolvent → Type 0
HasUip g p r = IsLeft g.trail.now.literals g.boundary p r.seen.items

-- Literals were resolved away: the resolutions lead on, from whatever they led from, and the resolvent stays covered.
pub record Resolves (g : ImplicationGraph) (r next : Resolvent) : Type 0 where
  pub covered : IsCovered g r → IsCovered g next
  pub leads : (c : ℕ → Bool) → IsReached g c r → IsReached g c next

-- What analysis comes to: the resolutions lead from the clause that is false to a resolvent with a unique implication point.
pub record IsAnalyzed (g : ImplicationGraph) (conflict : ℕ) (r : Resolvent) (p : ℕ) : Type 0 where
  pub uip : HasUip g p r
  pub long : length r.seen.items ≡ g.trail.now.vars
  pub covered : IsCovered g r
  pub leads : IsReached g (has (clause g.store.now conflict)) r

-- no literal of the last level is to be resolved away any more
pub record IsIdle (g : ImplicationGraph) (r : Resolvent) : Type 0 where
  pub none_open : r.pending ≡ 0
  pub long : length r.seen.items ≡ g.trail.now.vars

-- Literals from ahead of the last level were resolved away: the resolvent keeps its unique implication point.
pub record Shrinks (g : ImplicationGraph) (r next : Resolvent) : Type 0 where
  pub resolves : Resolves g r next
  pub uip : (p : ℕ) → HasUip g p r → HasUip g p next
