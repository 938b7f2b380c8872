use Rattle.std.proofs.Common.{◌≡◌, ℕ, ◌+◌, ◌<◌, List, [], length, get_or, sym, ap, ◌∙◌, subst}
use Rattle.std.proofs.Math.ListN.{set}
use Rattle.unit_propagation.specs.Stored.{clauses_of, exchanged}
use Rattle.unit_propagation.proofs.Ranges.{exchange_is}
use Rattle.unit_propagation.proofs.store.Store.exchange.Goals as goal

pub returns : goal.returns
returns c =
    let s = c.self.inside in
    let n = c.args.n in
    let j = c.args.j in
    let k = c.args.k in
    let a = c.bounds-start.result.0 in
    let ws = s.literals.items in
    let there = λ (f : List (List ℕ)). (n < length f) × (j < length (get_or f n [])) × (k < length (get_or f n [])) in
    let h : there (clauses_of ws s.starts.items) = subst there (sym c.self.view_is) (c.requires.clause, c.requires.first, c.requires.second) in
    let e : a ≡ get_or s.starts.items n 0 = c.bounds-start.ensures.start ∙ ap (λ (x : List ℕ). get_or x n 0) c.deref.ensures.value in
    let w : c.exchange_literals.new.literals.items ≡ set (set ws (a + j) (get_or ws (a + k) 0)) (a + k) (get_or ws (a + j) 0) =
    c.exchange_literals.ensures in
    exchange_is ws c.exchange_literals.new.literals.items s.starts.items n j k a c.self.invariant h.0 h.1 h.2 e w
    ∙ ap (λ (f : List (List ℕ)). set f n (exchanged (get_or f n []) j k)) c.self.view_is
