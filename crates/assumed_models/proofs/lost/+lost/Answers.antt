use Rattle.std.proofs.Common.{rules, sym, ap, ◌∙◌}
use Rattle.fs_lang.proofs.SizeLaws.{if_size}
use Rattle.fs_lang.specs.Meaning.{program_of}
use Rattle.fs_lang.specs.Sizes.{program_size}
use Rattle.assumed_models.specs.Edits.{edits_beside, marks_of}
use Rattle.assumed_models.proofs.StepLaws.{steps_inside, choice_inside, next_smaller, steps_size}
use Rattle.assumed_models.proofs.lost.+lost.Goals as goal

pub all_inside-push_lost-requires : goal.all_inside-push_lost-requires
all_inside-push_lost-requires t c =
    let smaller = next_smaller c.args.programs c.loop-program.yielded c.loop-program.program-iterator.rest.items c.next.new.self.rest.items c.in-Some.program c.loop-program.invariant.2 c.in-Some.ensures.steps.0 in
    let same = ap (λ x. program_size (program_of x)) c.in_ok-whole.ensures in
    search rules

pub inside-all_inside-requires : goal.inside-all_inside-requires
inside-all_inside-requires t c =
    let size = steps_size c.args.program c.in-Steps.es (sym c.into_inner.ensures ∙ c.in-Steps.is) in
    search rules

pub inside-branches-requires : goal.inside-branches-requires
inside-branches-requires t c =
    let size = if_size c.args.program c.in-If.a c.in-If.e c.in-If.f (sym c.into_inner.ensures ∙ c.in-If.is) in
    search rules

pub inside-returns-in_ok-all_inside-in-Steps : goal.inside-returns-in_ok-all_inside-in-Steps
inside-returns-in_ok-all_inside-in-Steps t c =
    steps_inside (marks_of (edits_beside c.args.place c.args.edits.now)) c.args.program c.in-Steps.es c.in_ok-all_inside-in-Steps.field-0 (sym c.into_inner.ensures ∙ c.in-Steps.is) c.in_ok-all_inside-in-Steps.ensures

pub inside-returns-in-If : goal.inside-returns-in-If
inside-returns-in-If t c =
    choice_inside (marks_of (edits_beside c.args.place c.args.edits.now)) c.args.program c.in-If.a c.in-If.e c.in-If.f c.branches.result (sym c.into_inner.ensures ∙ c.in-If.is) c.branches.ensures
