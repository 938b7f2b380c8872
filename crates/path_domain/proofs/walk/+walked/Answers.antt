use Rattle.std.proofs.Common.{rules, ◌+◌, ◌++◌, drop, ap, sym, ◌∙◌}
use Rattle.std.proofs.lemmas.List.{drop_all}
use Rattle.fs_semantics.specs.Programs.{If}
use Rattle.fs_lang.specs.Meaning.{test_of, program_of, programs_in, program_of_if}
use Rattle.fs_lang.specs.Sizes.{program_size}
use Rattle.fs_lang.proofs.SizeLaws.{item_smaller, if_size}
use Rattle.finite_domain.specs.Matters.{matters_of_test, matters_of, matters_of_steps}
use Rattle.path_domain.specs.Gathered.{gathered_of, gather}
use Rattle.path_domain.proofs.GatherLaws.{on_ok, gather_both, program_next, one_step}
use Rattle.path_domain.proofs.walk.+walked.Goals as goal

pub walk-walk_choice-requires : goal.walk-walk_choice-requires
walk-walk_choice-requires t c =
    let size = if_size c.args.program.now c.in-If.a c.in-If.e c.in-If.f c.in-If.is in
    let left = ap (λ x. program_size (program_of x)) c.get.ensures in
    let right = ap (λ x. program_size (program_of x)) c.get-in-If.ensures in
    search rules

pub walk-returns-in-If : goal.walk-returns-in-If
walk-returns-in-If t c =
    let is = ap program_of c.in-If.is ∙ program_of_if c.in-If.a c.in-If.e c.in-If.f ∙ (λ i. If (test_of c.in-If.a) (program_of (sym c.get.ensures i)) (program_of (sym c.get-in-If.ensures i))) in
    on_ok c.walk_choice.result (λ h. h ∙ ap (λ x. gather (matters_of x) (gathered_of c.args.found.now)) (sym is)) c.walk_choice.ensures

pub walk_all-walk-requires : goal.walk_all-walk-requires
walk_all-walk-requires t c =
    let smaller = item_smaller c.args.programs.now c.loop-program.program-index c.program-item.result c.loop-program-test.true c.program-item.is in
    search rules

pub walk_all-loop-program-preserved : goal.walk_all-loop-program-preserved
walk_all-loop-program-preserved t c =
    let i = c.loop-program.program-index in
    let es = c.args.programs.now in
    let whole = program_next es i c.program-item.result c.loop-program-test.true c.program-item.is in
    one_step (matters_of (program_of c.program-item.result)) (matters_of_steps (programs_in (drop (i + 1) es))) (matters_of_steps (programs_in (drop i es))) (gathered_of c.loop-program.found) (gathered_of c.walk.new.found) _
    c.in_ok-walk.ensures (ap matters_of_steps whole) c.loop-program.invariant

pub walk_all-returns : goal.walk_all-returns
walk_all-returns t c =
    ap (λ es. gather (matters_of_steps (programs_in es)) (gathered_of c.loop-program.found)) (sym (drop_all c.loop-program.program-index c.args.programs.now c.loop-program-test.false)) ∙ c.loop-program.invariant

pub walk_choice-returns : goal.walk_choice-returns
walk_choice-returns t c =
    let g = gathered_of c.args.found.now in
    let a = matters_of_test (test_of c.args.a.now) in
    let e = matters_of (program_of c.args.e.now) in
    let f = matters_of (program_of c.args.f.now) in
    on_ok c.walk-2.result (λ h. h ∙ ap (gather f) c.in_ok-walk.ensures ∙ gather_both e f (gathered_of c.walk_test.new.found) ∙ ap (gather (e ++ f)) c.in_ok-walk_test.ensures ∙ gather_both a (e ++ f) g) c.walk-2.ensures
