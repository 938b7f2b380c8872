use Rattle.std.proofs.Common.{rules, ap, sym, ◌∙◌}
use Rattle.fs_lang.specs.Meaning.{program_of, programs_in}
use Rattle.fs_lang.specs.Sizes.{program_size}
use Rattle.fs_lang.proofs.SizeLaws.{if_size}
use Rattle.commuting_parts.proofs.SameLaws.{same_if, same_list}
use Rattle.commuting_parts.proofs.same.+programs.Goals as goal

pub same_program-same_choice-requires : goal.same_program-same_choice-requires
same_program-same_choice-requires t c =
    let size = if_size c.args.e.now c.in-If-If.a c.in-If-If.e c.in-If-If.f c.in-If-If.is-0 in
    let left = ap (λ x. program_size (program_of x)) c.get.ensures in
    let right = ap (λ x. program_size (program_of x)) c.get-then-same_test.ensures in
    search rules

pub same_program-returns-in-Steps-Steps : goal.same_program-returns-in-Steps-Steps
same_program-returns-in-Steps-Steps t c h =
    same_list c.args.e.now c.args.f.now c.in-Steps-Steps.es c.in-Steps-Steps.fs c.in-Steps-Steps.is-0 c.in-Steps-Steps.is-1
    (sym (ap programs_in c.as_slice.ensures) ∙ c.same_steps.ensures h ∙ ap programs_in c.as_slice-in-Steps-Steps.ensures)

pub same_program-returns-then-same_test : goal.same_program-returns-then-same_test
same_program-returns-then-same_test t c h =
    same_if c.args.e.now c.args.f.now c.in-If-If.a c.in-If-If.b c.in-If-If.e c.in-If-If.f c.in-If-If.g c.in-If-If.h c.in-If-If.is-0 c.in-If-If.is-1
    (c.same_test.ensures c.if-same_test.true)
    (sym (ap program_of c.get.ensures) ∙ c.same_choice.ensures.first h ∙ ap program_of c.get-then-same_test-2.ensures)
    (sym (ap program_of c.get-then-same_test.ensures) ∙ c.same_choice.ensures.second h ∙ ap program_of c.get-then-same_test-3.ensures)
