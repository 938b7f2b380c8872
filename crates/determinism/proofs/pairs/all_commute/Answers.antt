use Rattle.std.proofs.Common.{inl, inr, map}
use Rattle.fs_semantics.specs.Orders.{Told}
use Rattle.fs_lang.specs.Meaning.{program_of}
use Rattle.orders.specs.Relation.{comes}
use Rattle.determinism.proofs.CommuteLaws.{refuted_no, none_by}
use Rattle.determinism.proofs.pairs.all_commute.Goals as goal

pub returns-clause-sure : goal.returns-clause-sure
returns-clause-sure c =
    let es = map program_of c.args.plan.now.programs.now in
    let before = comes c.args.plan.now.order.now in
    refuted_no es (Told before) c.in_ok-cnf.cnf (λ none. c.neighbours.ensures.free es before c.are_proper.ensures (c.in_ok-cnf.ensures.states.0 none))
    c.in_ok-found.found c.in_ok-found.ensures.formula c.in_ok-found.ensures.no_model

pub returns-clause-none : goal.returns-clause-none
returns-clause-none c =
    none_by c.in_ok-found.found (λ either. elim either [
      | inl model ↦ inl (λ commute. c.in_ok-cnf.ensures.states.1 commute model.0 model.1)
      | inr spent ↦ inr spent
    ]) c.in_ok-found.ensures.none
