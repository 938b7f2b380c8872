use Rattle.std.proofs.Common.{List, sym, ap, ◌∙◌, subst}
use Rattle.cnf.specs.declared.lit.Lit.{Lit}
use Rattle.cnf.specs.Clauses.{HasVariables, clause_of}
use Rattle.proof_check.specs.LitSets.{Gathered}
use Rattle.proof_check.proofs.LitLaws.{over_variables}
use Rattle.proof_check.proofs.literals.LitSet.take.Goals as goal

pub returns-clause-variables : goal.returns-clause-variables
returns-clause-variables c =
    let s = c.self.inside in
    let h = subst (HasVariables s.vars) (sym (c.in_ok-clause.ensures.value ∙ ap (λ (k : List Lit). clause_of k) c.as_slice.ensures.keys)) (over_variables s.vars s.lits.keys c.self.invariant) in
    subst (λ (x : Gathered). HasVariables x.vars c.in_ok-clause.clause) c.self.view_is h
