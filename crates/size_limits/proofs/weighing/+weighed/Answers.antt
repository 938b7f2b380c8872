use Rattle.std.proofs.Common.{rules, ◌+◌, drop, ap, sym, ◌∙◌}
use Rattle.std.proofs.lemmas.List.{drop_all}
use Rattle.fs_semantics.specs.Programs.{If}
use Rattle.fs_lang.specs.Meaning.{test_of, program_of, programs_in, program_of_if}
use Rattle.fs_lang.specs.Sizes.{program_size}
use Rattle.fs_lang.proofs.SizeLaws.{item_smaller, if_size}
use Rattle.size_limits.specs.Weights.{work, steps_work, capped, count_in}
use Rattle.size_limits.proofs.WeightLaws.{one_weighed, is_capped, at_end}
use Rattle.size_limits.proofs.weighing.+weighed.Goals as goal
use Rattle.path_domain.proofs.GatherLaws.{program_next}

pub weigh-weigh_choice-requires : goal.weigh-weigh_choice-requires
weigh-weigh_choice-requires t c =
    let size = if_size c.args.program.now c.in-If.a c.in-If.e c.in-If.f c.in-If.is in
    let left = ap (λ x. program_size (program_of x)) c.get.ensures in
    let right = ap (λ x. program_size (program_of x)) c.get-in-If.ensures in
    search rules

pub weigh-returns-in-If : goal.weigh-returns-in-If
weigh-returns-in-If t c =
    let is = ap program_of c.in-If.is ∙ program_of_if c.in-If.a c.in-If.e c.in-If.f ∙ (λ i. If (test_of c.in-If.a) (program_of (sym c.get.ensures i)) (program_of (sym c.get-in-If.ensures i))) in
    c.weigh_choice.ensures ∙ ap (λ x. capped (c.args.sum + work (count_in c.args.counts.now) x)) (sym is)

pub weigh_all-weigh-total-requires : goal.weigh_all-weigh-total-requires
weigh_all-weigh-total-requires t c =
    let smaller = item_smaller c.args.programs.now c.loop-program.program-index c.program-item.result c.loop-program-test.true c.program-item.is in
    search rules

pub weigh_all-loop-program-preserved : goal.weigh_all-loop-program-preserved
weigh_all-loop-program-preserved t c =
    let f = count_in c.args.counts.now in
    let i = c.loop-program.program-index in
    let es = c.args.programs.now in
    let whole = program_next es i c.program-item.result c.loop-program-test.true c.program-item.is in
    record {
      is = one_weighed c.loop-program.total c.weigh-total.result _ (work f (program_of c.program-item.result)) (steps_work f (programs_in (drop (i + 1) es))) (steps_work f (programs_in (drop i es)))
          c.weigh-total.ensures (ap (steps_work f) whole) c.loop-program.invariant.is;
      fits = is_capped c.weigh-total.result _ c.weigh-total.ensures;
    }

pub weigh_all-returns : goal.weigh_all-returns
weigh_all-returns t c =
    at_end c.loop-program.total c.loop-program.invariant.fits
    ∙ ap (λ es. capped (c.loop-program.total + steps_work (count_in c.args.counts.now) (programs_in es))) (sym (drop_all c.loop-program.program-index c.args.programs.now c.loop-program-test.false))
    ∙ c.loop-program.invariant.is
