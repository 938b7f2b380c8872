use Rattle.std.proofs.Common.{ℕ, ◌+◌, ◌<◌, List, length, sym, subst}
use Rattle.unit_propagation.specs.Stored.{clauses_of}
use Rattle.unit_propagation.proofs.Ranges.{bounds}
use Rattle.unit_propagation.proofs.store.Store.clause.Goals as goal

pub bounds-start-requires : goal.bounds-start-requires
bounds-start-requires c =
    let s = c.self.inside in
    let here : c.args.n < length (clauses_of s.literals.items s.starts.items) = subst (λ (f : List (List ℕ)). c.args.n < length f) (sym c.self.view_is) c.requires in
    subst (λ (x : List ℕ). c.args.n + 1 < length x) (sym c.deref.ensures.value) (bounds s.literals.items s.starts.items c.args.n c.self.invariant here).0
