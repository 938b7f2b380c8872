use Rattle.std.proofs.Common.{◌<◌, ℕ, List, length, sym, ap, ◌∙◌, subst}
use Rattle.cnf.specs.declared.log.Step.{Step}
use Rattle.trimmed_proofs.specs.Marks.{numbers_from, new_number, kept}
use Rattle.trimmed_proofs.proofs.KeptLaws.{accepted_earlier, accepted_some, IsLeftOf, code_left}
use Rattle.trimmed_proofs.proofs.trimming.trimmed_log.Goals as goal
use Rattle.trimmed_proofs.proofs.trimming.trimmed_log.Goals.{After-drop-marks-2}

pub used_steps-requires-clause-earlier : goal.used_steps-requires-clause-earlier
used_steps-requires-clause-earlier c =
    accepted_earlier c.args.cnf.now c.args.log.now.steps c.as_slice-steps.result.now c.count-count.result c.requires c.count-count.ensures.count c.as_slice-steps.ensures

pub used_steps-requires-clause-some : goal.used_steps-requires-clause-some
used_steps-requires-clause-some c = subst (λ (ss : List Step). 0 < length ss) (sym c.as_slice-steps.ensures) (accepted_some c.args.cnf.now c.args.log.now.steps c.requires)

-- what is left
left : (c : After-drop-marks-2) → IsLeftOf c.args.cnf.now c.args.log.now.steps c.in_ok-steps.steps
left c =
    code_left c.args.cnf.now c.args.log.now.steps c.as_slice-steps.result.now c.in_ok-steps.steps c.count-count.result c.in_ok-marks.marks.items c.deref-3.result.now c.in_ok-numbers.numbers.items
    c.requires c.count-count.ensures.count c.as_slice-steps.ensures c.in_ok-marks.ensures c.deref-3.ensures.value
    (c.in_ok-numbers.ensures ∙ ap (numbers_from c.count-count.result) c.deref.ensures.value)
    (c.in_ok-steps.ensures ∙ ap (λ (ns : List ℕ). kept (new_number c.count-count.result ns) c.as_slice-steps.result.now c.deref-3.result.now) c.deref-2.ensures.value)

pub returns-clause-accepted : goal.returns-clause-accepted
returns-clause-accepted c = (left c).accepted

pub returns-clause-trimmed : goal.returns-clause-trimmed
returns-clause-trimmed c = (left c).trimmed

pub returns-clause-fewer : goal.returns-clause-fewer
returns-clause-fewer c = (left c).fewer
