use Rattle.std.proofs.Common.{rules, sym, ap, subst, ◌∙◌}
use Rattle.fs_lang.specs.Meaning.{test_of, test_of_and, test_of_or}
use Rattle.fs_lang.specs.Sizes.{test_size}
use Rattle.fs_lang.proofs.SizeLaws.{and_size, or_size}
use Rattle.fs_interpreter.specs.Places.{CoversTest}
use Rattle.fs_replay.proofs.CoverLaws.{test_later, keeps_more, when_ok, both_ok}
use Rattle.fs_replay.proofs.cover.+cover_test.Goals as goal

pub cover_both-returns-clause-first : goal.cover_both-returns-clause-first
cover_both-returns-clause-first t c = when_ok c.cover_test-2.result (test_later c.cover_test.new.table c.cover_test-2.new.table (test_of c.args.a.now) c.cover_test-2.ensures.keeps c.in_ok-cover_test.ensures.covers)

pub cover_both-returns-clause-keeps : goal.cover_both-returns-clause-keeps
cover_both-returns-clause-keeps t c = keeps_more c.args.table.now c.cover_test.new.table c.cover_test-2.new.table c.cover_test.ensures.keeps c.cover_test-2.ensures.keeps

pub cover_test-returns-in-And-clause-covers : goal.cover_test-returns-in-And-clause-covers
cover_test-returns-in-And-clause-covers t c =
    both_ok c.cover_both.result (λ a b. subst (CoversTest c.cover_both.new.table) (sym (ap test_of c.in-And.is ∙ test_of_and c.in-And.a c.in-And.b))
    (subst (λ x. CoversTest c.cover_both.new.table (test_of x)) c.get-in-And.ensures a, subst (λ x. CoversTest c.cover_both.new.table (test_of x)) c.get-in-And-2.ensures b))
    c.cover_both.ensures.first c.cover_both.ensures.second

pub cover_test-returns-in-Or-clause-covers : goal.cover_test-returns-in-Or-clause-covers
cover_test-returns-in-Or-clause-covers t c =
    both_ok c.cover_both-in-Or.result (λ a b. subst (CoversTest c.cover_both-in-Or.new.table) (sym (ap test_of c.in-Or.is ∙ test_of_or c.in-Or.a c.in-Or.b))
    (subst (λ x. CoversTest c.cover_both-in-Or.new.table (test_of x)) c.get-in-Or.ensures a, subst (λ x. CoversTest c.cover_both-in-Or.new.table (test_of x)) c.get-in-Or-2.ensures b))
    c.cover_both-in-Or.ensures.first c.cover_both-in-Or.ensures.second

pub cover_test-cover_both-requires : goal.cover_test-cover_both-requires
cover_test-cover_both-requires t c =
    let size = and_size c.args.test.now c.in-And.a c.in-And.b c.in-And.is in
    let left = ap (λ x. test_size (test_of x)) c.get-in-And.ensures in
    let right = ap (λ x. test_size (test_of x)) c.get-in-And-2.ensures in
    search rules

pub cover_test-cover_both-requires-in-Or : goal.cover_test-cover_both-requires-in-Or
cover_test-cover_both-requires-in-Or t c =
    let size = or_size c.args.test.now c.in-Or.a c.in-Or.b c.in-Or.is in
    let left = ap (λ x. test_size (test_of x)) c.get-in-Or.ensures in
    let right = ap (λ x. test_size (test_of x)) c.get-in-Or-2.ensures in
    search rules
