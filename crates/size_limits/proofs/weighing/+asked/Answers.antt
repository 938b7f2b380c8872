use Rattle.std.proofs.Common.{rules, ◌+◌, ap, sym, ◌∙◌}
use Rattle.fs_semantics.specs.Programs.{And, Or}
use Rattle.fs_lang.specs.Meaning.{test_of, test_of_and, test_of_or}
use Rattle.fs_lang.specs.Sizes.{test_size}
use Rattle.fs_lang.proofs.SizeLaws.{and_size, or_size}
use Rattle.size_limits.specs.Weights.{test_work, capped, count_in}
use Rattle.size_limits.proofs.weighing.+asked.Goals as goal

pub weigh_test-weigh_both-requires : goal.weigh_test-weigh_both-requires
weigh_test-weigh_both-requires t c =
    let size = and_size c.args.test.now c.in-And.a c.in-And.b c.in-And.is in
    let left = ap (λ x. test_size (test_of x)) c.get-in-And.ensures in
    let right = ap (λ x. test_size (test_of x)) c.get-in-And-2.ensures in
    search rules

pub weigh_test-weigh_both-requires-in-Or : goal.weigh_test-weigh_both-requires-in-Or
weigh_test-weigh_both-requires-in-Or t c =
    let size = or_size c.args.test.now c.in-Or.a c.in-Or.b c.in-Or.is in
    let left = ap (λ x. test_size (test_of x)) c.get-in-Or.ensures in
    let right = ap (λ x. test_size (test_of x)) c.get-in-Or-2.ensures in
    search rules

pub weigh_test-returns-in-And : goal.weigh_test-returns-in-And
weigh_test-returns-in-And t c =
    let is = ap test_of c.in-And.is ∙ test_of_and c.in-And.a c.in-And.b ∙ (λ i. And (test_of (sym c.get-in-And.ensures i)) (test_of (sym c.get-in-And-2.ensures i))) in
    c.weigh_both.ensures ∙ ap (λ x. capped (c.args.sum + test_work (count_in c.args.counts.now) x)) (sym is)

pub weigh_test-returns-in-Or : goal.weigh_test-returns-in-Or
weigh_test-returns-in-Or t c =
    let is = ap test_of c.in-Or.is ∙ test_of_or c.in-Or.a c.in-Or.b ∙ (λ i. Or (test_of (sym c.get-in-Or.ensures i)) (test_of (sym c.get-in-Or-2.ensures i))) in
    c.weigh_both-in-Or.ensures ∙ ap (λ x. capped (c.args.sum + test_work (count_in c.args.counts.now) x)) (sym is)
