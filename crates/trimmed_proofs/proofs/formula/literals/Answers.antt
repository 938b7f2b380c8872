use Rattle.std.proofs.Common.{List, ◌++◌, ◌∷◌, [], sym, ap, ◌∙◌}
use Rattle.cnf.specs.declared.lit.Lit.{Lit}
use Rattle.cnf.specs.Formulas.{clause_at}
use Rattle.proof_check.proofs.Numbers.{take_more_at}
use Rattle.trimmed_proofs.proofs.formula.literals.Goals as goal

pub loop-k-preserved : goal.loop-k-preserved
loop-k-preserved c =
    c.in_ok-push.ensures.items
    ∙ ap (λ (x : List Lit). x ++ c.lit.result ∷ []) c.loop-k.invariant
    ∙ sym (take_more_at (clause_at c.args.cnf.now c.args.i) c.loop-k.k c.lit.result c.lit.ensures)
