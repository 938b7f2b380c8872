use Rattle.std.proofs.Common.{◌-◌, ◌+◌, ◌++◌, ◌∷◌, [], sym, ap, ◌∙◌, subst}
use Rattle.std.specs.List.{All}
use Rattle.cnf.specs.Literals.{HasVariable}
use Rattle.cnf.specs.Clauses.{clause_of}
use Rattle.cnf.specs.Formulas.{Formula}
use Rattle.proof_check.specs.WordReading.{with_front, clauses_in}
use Rattle.proof_check.proofs.Turns.{clauses_goes}
use Rattle.proof_check.proofs.Spelling.{lits_have, all_indexed}
use Rattle.proof_check.proofs.text.clauses.Goals as goal

pub add-requires : goal.add-requires
add-requires c =
    subst (λ xs. All (HasVariable c.loop-clause.cnf.vars) xs) (sym c.deref.ensures.value)
    (all_indexed (HasVariable c.loop-clause.cnf.vars) c.literals.new.into.items
    (lits_have c.args.vars c.loop-clause.cnf.vars c.loop-clause.words c.literals.new.words c.literals.new.into.items c.in_ok-literals.ensures c.loop-clause.invariant.0))

pub loop-clause-preserved : goal.loop-clause-preserved
loop-clause-preserved c =
    let added = c.in_ok-add.ensures.ok in (
      ap (λ (f : Formula). f.vars) added ∙ c.loop-clause.invariant.0,
      ap (λ (f : Formula). with_front f.clauses (clauses_in c.args.vars (c.args.count - (c.loop-clause.clause + 1)) c.literals.new.words)) added
          ∙ ap (λ lits. with_front (c.loop-clause.cnf.clauses ++ clause_of lits ∷ []) (clauses_in c.args.vars (c.args.count - (c.loop-clause.clause + 1)) c.literals.new.words)) c.deref.ensures.value
          ∙ sym (clauses_goes c.args.vars c.loop-clause.cnf.clauses c.args.count c.loop-clause.clause c.loop-clause.words c.literals.new.words c.literals.new.into.items c.loop-clause-test.true c.in_ok-literals.ensures)
          ∙ c.loop-clause.invariant.1,
    )
