use Rattle.std.proofs.Common.{◌<◌, ◌^◌, length, sym, subst, arith}
use Rattle.std.specs.Prelude.{IfErr}
use Rattle.known_inputs.specs.Inputs.{input_of}
use Rattle.reports.specs.Sides.{IfUntold}
use Rattle.reports.specs.Comparisons.{other_inputs}
use Rattle.rehearsal_core.specs.Inputs.{BreaksFor}
use Rattle.rehearsal_core.proofs.run.answer_workload.Goals as goal

pub returns-clause-refused : goal.returns-clause-refused
returns-clause-refused c =
    subst (λ i. IfErr c.answer.result (λ e. IfUntold e (BreaksFor c.args.ask c.args.conflicts i))) c.in_ok-inputs.ensures.made c.answer.ensures.refused

-- a workload has no other manifest
pub answer-requires-clause-other_small : goal.answer-requires-clause-other_small
answer-requires-clause-other_small c = subst (λ i. length (input_of (other_inputs i)) < 2 ^ 32) (sym c.in_ok-inputs.ensures.made) (omega arith)
