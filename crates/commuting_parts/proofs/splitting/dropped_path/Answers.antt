use Rattle.std.proofs.Common.{ap, sym, subst, ◌∙◌}
use Rattle.std.specs.Prelude.{IfSome}
use Rattle.fs_semantics.specs.Programs.{If}
use Rattle.fs_lang.specs.Meaning.{test_of, program_of, program_of_if}
use Rattle.commuting_parts.specs.Sweeps.{RemovesAt}
use Rattle.commuting_parts.proofs.splitting.dropped_path.Goals as goal

pub returns-in-If : goal.returns-in-If
returns-in-If c =
    let is = ap program_of c.in-If.is ∙ program_of_if c.in-If.test c.in-If.e c.in-If.f ∙ (λ i. If (test_of c.in-If.test) (program_of (sym c.get.ensures i)) (program_of (sym c.get-in-If.ensures i))) in
    subst (λ x. IfSome c.dropped_if.result (λ p. RemovesAt p.now x)) (sym is) c.dropped_if.ensures
