use Rattle.std.proofs.Common.{rules, sym, ap, subst, ◌∙◌}
use Rattle.fs_lang.specs.Meaning.{test_of, program_of, programs_in, program_of_if}
use Rattle.fs_lang.specs.Sizes.{program_size}
use Rattle.fs_lang.proofs.SizeLaws.{item_smaller, if_size}
use Rattle.fs_interpreter.specs.Places.{Covers, CoversSteps}
use Rattle.fs_replay.proofs.CoverLaws.{test_later, covers_later, keeps_more, when_ok, three_ok, drop_item}
use Rattle.fs_replay.proofs.cover.+cover.Goals as goal

pub cover-cover_branches-requires : goal.cover-cover_branches-requires
cover-cover_branches-requires t c =
    let size = if_size c.args.program.now c.in-If.a c.in-If.e c.in-If.f c.in-If.is in
    let left = ap (λ x. program_size (program_of x)) c.get.ensures in
    let right = ap (λ x. program_size (program_of x)) c.get-in-If.ensures in
    search rules

pub cover-returns-in-If-clause-covers : goal.cover-returns-in-If-clause-covers
cover-returns-in-If-clause-covers t c =
    three_ok c.cover_branches.result (λ a e f. subst (Covers c.cover_branches.new.table) (sym (ap program_of c.in-If.is ∙ program_of_if c.in-If.a c.in-If.e c.in-If.f))
    (a, subst (λ x. Covers c.cover_branches.new.table (program_of x)) c.get.ensures e, subst (λ x. Covers c.cover_branches.new.table (program_of x)) c.get-in-If.ensures f))
    c.cover_branches.ensures.test c.cover_branches.ensures.first c.cover_branches.ensures.second

pub cover_all-cover-requires : goal.cover_all-cover-requires
cover_all-cover-requires t c =
    let smaller = item_smaller c.args.programs.now c.loop-program.program-index c.program-item.result c.loop-program-test.true c.program-item.is in
    search rules

pub cover_all-returns-in_err-cover-clause-keeps : goal.cover_all-returns-in_err-cover-clause-keeps
cover_all-returns-in_err-cover-clause-keeps t c = keeps_more c.args.table.now c.loop-program.table c.cover.new.table c.loop-program.invariant.keeps c.cover.ensures.keeps

pub cover_all-loop-program-preserved : goal.cover_all-loop-program-preserved
cover_all-loop-program-preserved t c =
    let item = drop_item c.args.programs.now c.loop-program.program-index c.program-item.result c.loop-program-test.true c.program-item.is in
    record {
      keeps = keeps_more c.args.table.now c.loop-program.table c.cover.new.table c.loop-program.invariant.keeps c.cover.ensures.keeps;
      covers = λ u k h. c.loop-program.invariant.covers u (keeps_more c.loop-program.table c.cover.new.table u c.cover.ensures.keeps k)
          (subst (λ es. CoversSteps u (programs_in es)) (sym item) (covers_later c.cover.new.table u (program_of c.program-item.result) k c.in_ok-cover.ensures.covers, h));
    }

pub cover_branches-returns-in_err-cover-clause-keeps : goal.cover_branches-returns-in_err-cover-clause-keeps
cover_branches-returns-in_err-cover-clause-keeps t c = keeps_more c.args.table.now c.cover_test.new.table c.cover.new.table c.cover_test.ensures.keeps c.cover.ensures.keeps

pub cover_branches-returns-clause-test : goal.cover_branches-returns-clause-test
cover_branches-returns-clause-test t c =
    when_ok c.cover-2.result (test_later c.cover_test.new.table c.cover-2.new.table (test_of c.args.a.now)
    (keeps_more c.cover_test.new.table c.cover.new.table c.cover-2.new.table c.cover.ensures.keeps c.cover-2.ensures.keeps) c.in_ok-cover_test.ensures.covers)

pub cover_branches-returns-clause-first : goal.cover_branches-returns-clause-first
cover_branches-returns-clause-first t c = when_ok c.cover-2.result (covers_later c.cover.new.table c.cover-2.new.table (program_of c.args.e.now) c.cover-2.ensures.keeps c.in_ok-cover.ensures.covers)

pub cover_branches-returns-clause-keeps : goal.cover_branches-returns-clause-keeps
cover_branches-returns-clause-keeps t c = keeps_more c.args.table.now c.cover.new.table c.cover-2.new.table
    (keeps_more c.args.table.now c.cover_test.new.table c.cover.new.table c.cover_test.ensures.keeps c.cover.ensures.keeps) c.cover-2.ensures.keeps
