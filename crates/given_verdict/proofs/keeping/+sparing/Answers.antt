use Rattle.std.proofs.Common.{rules, map, ap, sym, subst, ◌∙◌}
use Rattle.std.specs.List.{AllByRecursion}
use Rattle.fs_semantics.specs.Programs.{If}
use Rattle.fs_lang.specs.Meaning.{test_of, program_of, program_of_if, program_of_steps}
use Rattle.fs_lang.specs.Sizes.{program_size}
use Rattle.fs_lang.proofs.SizeLaws.{item_smaller, if_size}
use Rattle.given_verdict.specs.Keeping.{Spares}
use Rattle.given_verdict.proofs.KeepLaws.{spares_steps, spares_choice}
use Rattle.given_verdict.proofs.keeping.+sparing.Goals as goal

pub all_spare-spares-requires : goal.all_spare-spares-requires
all_spare-spares-requires t c =
    let smaller = item_smaller c.args.programs.now c.loop-program.program-index c.program-item.result c.loop-program-test.true c.program-item.is in
    search rules

pub spares-spares-first-requires : goal.spares-spares-first-requires
spares-spares-first-requires t c =
    let size = if_size c.args.program.now c.in-If._test c.in-If.e c.in-If.f c.in-If.is in
    let left = ap (λ x. program_size (program_of x)) c.get.ensures in
    search rules

pub spares-spares-second-requires : goal.spares-spares-second-requires
spares-spares-second-requires t c =
    let size = if_size c.args.program.now c.in-If._test c.in-If.e c.in-If.f c.in-If.is in
    let right = ap (λ x. program_size (program_of x)) c.get-in-If.ensures in
    search rules

pub spares-returns-in-Steps : goal.spares-returns-in-Steps
spares-returns-in-Steps t c h =
    let is = ap program_of c.in-Steps.is ∙ program_of_steps c.in-Steps.es in
    subst (Spares c.args.given.now) (sym is) (spares_steps c.args.given.now c.in-Steps.es (subst (λ es. AllByRecursion (Spares c.args.given.now) (map program_of es)) c.as_slice.ensures (c.all_spare.ensures h)))

pub spares-returns-then-first : goal.spares-returns-then-first
spares-returns-then-first t c h =
    let is = ap program_of c.in-If.is ∙ program_of_if c.in-If._test c.in-If.e c.in-If.f ∙ (λ i. If (test_of c.in-If._test) (program_of (sym c.get.ensures i)) (program_of (sym c.get-in-If.ensures i))) in
    subst (Spares c.args.given.now) (sym is) (spares_choice c.args.given.now (test_of c.in-If._test) _ _ (c.spares-first.ensures c.if-first.true) (c.spares-second.ensures h))
