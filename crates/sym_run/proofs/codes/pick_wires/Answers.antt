use Rattle.std.proofs.Common.{cond, ◌∙◌}
use Rattle.sym_run.proofs.CircuitLaws.{number_stays}
use Rattle.sym_run.proofs.codes.pick_wires.Goals as goal
use Rattle.fs_interpreter.proofs.HasLaws.{if_ok}

pub returns-clause-value : goal.returns-clause-value
returns-clause-value c = if_ok _ _ c.pick_with.result (λ ws is inputs.
    let bit = c.constant.ensures.grows.values inputs c.args.c.0 c.requires.c in
    let a = number_stays _ _ c.args.a.now c.constant.ensures.grows c.requires.a inputs in
    let b = number_stays _ _ c.args.b.now c.constant.ensures.grows c.requires.b inputs in
    is inputs ∙ (λ i. cond (bit i) (a i) (b i))) c.pick_with.ensures.value
