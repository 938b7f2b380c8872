use Rattle.std.proofs.Common.{ℕ, List, map, take, ◌∷◌, [], ◌++◌, sym, ap, ◌∙◌}
use Rattle.cnf.specs.Formulas.{clause_at}
use Rattle.cnf.specs.Store.{index_of}
use Rattle.sat_solver.proofs.Indexing.{take_get}
use Rattle.sat_solver.proofs.load.literals_of.Goals as goal

pub lits-preserved : goal.lits-preserved
lits-preserved c =
    let d = clause_at c.args.cnf.now c.args.n in
    c.in_ok-push.ensures.items ∙ ap (λ (x : List ℕ). x ++ c.index_of.result ∷ []) c.lits.invariant ∙ ap (λ (y : ℕ). map index_of (take c.lits.k d) ++ y ∷ []) c.index_of.ensures ∙ sym (take_get d c.lits.k c.lit-lit.result c.lit-lit.ensures)
