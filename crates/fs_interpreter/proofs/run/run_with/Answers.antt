use Rattle.std.proofs.Common.{sym, subst, ◌∙◌}
use Rattle.fs_lang.specs.Meaning.{program_of}
use Rattle.fs_interpreter.specs.States.{State}
use Rattle.fs_interpreter.specs.Standing.{StandsFor}
use Rattle.fs_semantics.specs.Programs.{and_then, run}
use Rattle.fs_interpreter.proofs.BranchLaws.{on_ok}
use Rattle.fs_interpreter.proofs.RunLaws.{outcome_is}
use Rattle.fs_interpreter.proofs.run.run_with.Goals as goal

pub returns-clause-stands : goal.returns-clause-stands
returns-clause-stands g c = on_ok c.step.result
    (λ change. λ v o h. subst (λ (s : State). StandsFor c.args.table.now s (and_then o (run (program_of c.args.program.now)))) (sym (change.told v))
    (outcome_is c.args.table.now (program_of c.args.program.now) _ o c.is_table.ensures c.requires.covers h))
    c.step.ensures.changes

pub returns-clause-cells : goal.returns-clause-cells
returns-clause-cells g c = on_ok c.step.result (λ change. change.cells) c.step.ensures.changes

pub returns-clause-places : goal.returns-clause-places
returns-clause-places g c = on_ok c.step.result (λ change. change.places ∙ c.requires.places) c.step.ensures.changes
