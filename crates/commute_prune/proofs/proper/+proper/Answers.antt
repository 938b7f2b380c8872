use Rattle.std.proofs.Common.{rules, ap, sym, subst, ◌∙◌}
use Rattle.std.proofs.lemmas.List.{drop_all}
use Rattle.fs_semantics.specs.Programs.{If}
use Rattle.fs_semantics.specs.Changes.{IsProper, AreProperSteps}
use Rattle.fs_lang.specs.Meaning.{test_of, program_of, programs_in, program_of_if}
use Rattle.fs_lang.specs.Sizes.{program_size}
use Rattle.fs_lang.proofs.SizeLaws.{item_smaller, if_size}
use Rattle.commute_prune.proofs.ProperLaws.{one_more}
use Rattle.commute_prune.proofs.proper.+proper.Goals as goal

pub is_proper-both_are_proper-requires : goal.is_proper-both_are_proper-requires
is_proper-both_are_proper-requires t c =
    let size = if_size c.args.program.now c.in-If.field-0 c.in-If.e c.in-If.f c.in-If.is in
    let left = ap (λ x. program_size (program_of x)) c.get.ensures in
    let right = ap (λ x. program_size (program_of x)) c.get-in-If.ensures in
    search rules

pub are_proper_steps-is_proper-requires : goal.are_proper_steps-is_proper-requires
are_proper_steps-is_proper-requires t c =
    let smaller = item_smaller c.args.programs.now c.loop-program.program-index c.program-item.result c.loop-program-test.true c.program-item.is in
    search rules

pub are_proper_steps-loop-program-preserved : goal.are_proper_steps-loop-program-preserved
are_proper_steps-loop-program-preserved t c = λ rest.
    c.loop-program.invariant (one_more c.args.programs.now c.loop-program.program-index c.program-item.result c.loop-program-test.true c.program-item.is c.is_proper.ensures rest)

pub are_proper_steps-returns : goal.are_proper_steps-returns
are_proper_steps-returns t c =
    c.loop-program.invariant (subst (λ es. AreProperSteps (programs_in es)) (sym (drop_all c.loop-program.program-index c.args.programs.now c.loop-program-test.false)) tt)

pub is_proper-returns-in-If : goal.is_proper-returns-in-If
is_proper-returns-in-If t c =
    let is = ap program_of c.in-If.is ∙ program_of_if c.in-If.field-0 c.in-If.e c.in-If.f ∙ (λ i. If (test_of c.in-If.field-0) (program_of (sym c.get.ensures i)) (program_of (sym c.get-in-If.ensures i))) in
    subst IsProper (sym is) (c.both_are_proper.ensures.first, c.both_are_proper.ensures.second)
