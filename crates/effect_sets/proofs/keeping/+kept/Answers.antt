use Rattle.std.proofs.Common.{rules, not, option_map, ap, sym, ◌∙◌}
use Rattle.fs_semantics.specs.Programs.{If}
use Rattle.fs_lang.specs.Meaning.{test_of, program_of, program_of_if}
use Rattle.fs_lang.specs.Sizes.{program_size}
use Rattle.fs_lang.proofs.SizeLaws.{item_smaller, if_size}
use Rattle.effect_sets.specs.Footprints.{sure_after}
use Rattle.effect_sets.specs.Members.{members}
use Rattle.effect_sets.proofs.WalkLaws.{keeps_ensured, keeps_branches, keeps_others}
use Rattle.effect_sets.proofs.keeping.+kept.Goals as goal

pub all_keep-keeps-requires : goal.all_keep-keeps-requires
all_keep-keeps-requires t c =
    let smaller = item_smaller c.args.programs.now c.loop-program.program-index c.program-item.result c.loop-program-test.true c.program-item.is in
    search rules

pub keeps-choice_keeps-requires : goal.keeps-choice_keeps-requires
keeps-choice_keeps-requires t c =
    let size = if_size c.args.program.now c.in-If.a c.in-If.e c.in-If.f c.in-If.is in
    let left = ap (λ x. program_size (program_of x)) c.get.ensures in
    let right = ap (λ x. program_size (program_of x)) c.get-in-If.ensures in
    search rules

pub choice_keeps-returns-in-Some : goal.choice_keeps-returns-in-Some
choice_keeps-returns-in-Some t c h =
    keeps_ensured (test_of c.args.test.now) (program_of c.args.e.now) (program_of c.args.f.now) (members c.args.sure.now) c.in-Some.p.now
    (sym c.ensured_path.ensures ∙ ap (λ o. option_map (λ p. p.now) o) c.in-Some.is) (sym c.contains.ensures ∙ h)

pub choice_keeps-returns-then-first : goal.choice_keeps-returns-then-first
choice_keeps-returns-then-first t c h =
    keeps_branches (test_of c.args.test.now) (program_of c.args.e.now) (program_of c.args.f.now) (members c.args.sure.now)
    (sym c.ensured_path.ensures ∙ ap (λ o. option_map (λ p. p.now) o) c.in-None.is) (c.keeps-first.ensures c.if-first.true) (c.keeps-second.ensures h)

pub keeps-returns-in-Rm : goal.keeps-returns-in-Rm
keeps-returns-in-Rm t c h =
    ap (λ x. sure_after (program_of x) (members c.args.sure.now)) c.in-Rm.is
    ∙ keeps_others (members c.args.sure.now) c.in-Rm.p (ap not (sym c.contains.ensures) ∙ h)

pub keeps-returns-in-If : goal.keeps-returns-in-If
keeps-returns-in-If t c h =
    let is = ap program_of c.in-If.is ∙ program_of_if c.in-If.a c.in-If.e c.in-If.f ∙ (λ i. If (test_of c.in-If.a) (program_of (sym c.get.ensures i)) (program_of (sym c.get-in-If.ensures i))) in
    ap (λ x. sure_after x (members c.args.sure.now)) is ∙ c.choice_keeps.ensures h
