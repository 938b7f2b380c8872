use Rattle.std.proofs.Common.{List, true, ◌≡◌, Some, sym, ap, ◌∙◌, subst}
use Rattle.std.proofs.lemmas.Bool.Decides.{when_true}
use Rattle.cnf.specs.declared.lit.Lit.{Lit}
use Rattle.cnf.specs.Literals.{opposite}
use Rattle.cnf.specs.Clauses.{has_lit, HasVariables, without}
use Rattle.cnf.specs.Proofs.{numbered}
use Rattle.proof_check.specs.LitSets.{Gathered}
use Rattle.proof_check.specs.Joining.{earlier_of, joined}
use Rattle.proof_check.proofs.Numbers.{resolved}
use Rattle.proof_check.proofs.steps.follow.Goals as goal

pub join-requires : goal.join-requires
join-requires c =
    let named = c.load.new.into.items in
    let there : numbered (earlier_of c.args.cnf.now c.args.steps.now) c.args.link.number ≡ Some named = when_true _ _ c.if-not-found.false c.in_ok-found.ensures in
    let variables = (c.requires.clean c.args.link.number named there).1 in
    let vars : c.args.set.now.vars ≡ c.remove.new.self.vars = ap (λ (m : Gathered). m.vars) (sym c.remove.ensures) in
    subst (λ (n : _). HasVariables n c.deref-2.result.now) vars (subst (HasVariables c.args.set.now.vars) (sym c.deref-2.ensures.value) variables)

pub returns-clause-ok : goal.returns-clause-ok
returns-clause-ok c =
    let named = c.load.new.into.items in
    let pivot = c.args.link.pivot in
    let lits = c.args.set.now.lits in
    let there : numbered (earlier_of c.args.cnf.now c.args.steps.now) c.args.link.number ≡ Some named = when_true _ _ c.if-not-found.false c.in_ok-found.ensures in
    let stands : has_lit named (opposite pivot) ≡ true =
    ap (has_lit named) (sym c.opposite-opposite.ensures) ∙ ap (λ (x : List Lit). has_lit x c.opposite-opposite.result) (sym c.deref.ensures.value) ∙ sym c.if-not-stands.ensures in (
      named,
      there,
      sym c.if-not-has.ensures.has,
      stands,
      ap (λ (m : Gathered). m.lits) c.in_ok-join.ensures
          ∙ ap (λ (m : Gathered). joined m.lits (without c.opposite-opposite.result c.deref-2.result.now)) c.remove.ensures
          ∙ ap (λ (x : Lit). joined (without pivot lits) (without x c.deref-2.result.now)) c.opposite-opposite.ensures
          ∙ ap (λ (x : List Lit). joined (without pivot lits) (without (opposite pivot) x)) c.deref-2.ensures.value
          ∙ resolved lits named pivot c.if-not-has.ensures.clause,
    )
