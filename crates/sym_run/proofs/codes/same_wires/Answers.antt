use Rattle.std.proofs.Common.{◌==◌, ◌∙◌}
use Rattle.sym_run.proofs.CircuitLaws.{number_stays}
use Rattle.sym_run.proofs.codes.same_wires.Goals as goal
use Rattle.fs_interpreter.proofs.HasLaws.{if_ok}

pub returns-clause-value : goal.returns-clause-value
returns-clause-value c = if_ok _ _ c.same_with.result (λ w is inputs.
    let a = number_stays _ _ c.args.a.now c.constant.ensures.grows c.requires.a inputs in
    let b = number_stays _ _ c.args.b.now c.constant.ensures.grows c.requires.b inputs in
    is inputs ∙ (λ i. a i == b i)) c.same_with.ensures.value
