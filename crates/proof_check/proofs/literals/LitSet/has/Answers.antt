use Rattle.std.proofs.Common.{sym, ap, ◌∙◌, subst}
use Rattle.cnf.specs.Clauses.{has_lit, IsClause}
use Rattle.cnf.proofs.ClauseLaws.{IsClause-clause_of, has_lit-clause_of}
use Rattle.proof_check.specs.LitSets.{Gathered}
use Rattle.proof_check.proofs.literals.LitSet.has.Goals as goal

pub returns-clause-has : goal.returns-clause-has
returns-clause-has c = c.has.ensures ∙ sym (has_lit-clause_of c.self.inside.lits.keys c.args.lit) ∙ ap (λ (s : Gathered). has_lit s.lits c.args.lit) c.self.view_is

pub returns-clause-clause : goal.returns-clause-clause
returns-clause-clause c = subst (λ (s : Gathered). IsClause s.lits) c.self.view_is (IsClause-clause_of c.self.inside.lits.keys)
