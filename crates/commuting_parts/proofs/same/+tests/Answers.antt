use Rattle.std.proofs.Common.{rules, ap, sym, ◌∙◌}
use Rattle.fs_lang.specs.Meaning.{test_of}
use Rattle.fs_lang.specs.Sizes.{test_size}
use Rattle.fs_lang.proofs.SizeLaws.{and_size, or_size}
use Rattle.commuting_parts.proofs.SameLaws.{same_and, same_or}
use Rattle.commuting_parts.proofs.same.+tests.Goals as goal

pub same_test-same_tests-requires : goal.same_test-same_tests-requires
same_test-same_tests-requires t c =
    let size = and_size c.args.a.now c.in-And-And.a c.in-And-And.b c.in-And-And.is-0 in
    let left = ap (λ x. test_size (test_of x)) c.get-in-And-And.ensures in
    let right = ap (λ x. test_size (test_of x)) c.get-in-And-And-2.ensures in
    search rules

pub same_test-same_tests-requires-in-Or-Or : goal.same_test-same_tests-requires-in-Or-Or
same_test-same_tests-requires-in-Or-Or t c =
    let size = or_size c.args.a.now c.in-Or-Or.a c.in-Or-Or.b c.in-Or-Or.is-0 in
    let left = ap (λ x. test_size (test_of x)) c.get-in-Or-Or.ensures in
    let right = ap (λ x. test_size (test_of x)) c.get-in-Or-Or-2.ensures in
    search rules

pub same_test-returns-in-And-And : goal.same_test-returns-in-And-And
same_test-returns-in-And-And t c h =
    same_and c.args.a.now c.args.b.now c.in-And-And.a c.in-And-And.b c.in-And-And.c c.in-And-And.d c.in-And-And.is-0 c.in-And-And.is-1
    (sym (ap test_of c.get-in-And-And.ensures) ∙ c.same_tests.ensures.first h ∙ ap test_of c.get-in-And-And-3.ensures)
    (sym (ap test_of c.get-in-And-And-2.ensures) ∙ c.same_tests.ensures.second h ∙ ap test_of c.get-in-And-And-4.ensures)

pub same_test-returns-in-Or-Or : goal.same_test-returns-in-Or-Or
same_test-returns-in-Or-Or t c h =
    same_or c.args.a.now c.args.b.now c.in-Or-Or.a c.in-Or-Or.b c.in-Or-Or.c c.in-Or-Or.d c.in-Or-Or.is-0 c.in-Or-Or.is-1
    (sym (ap test_of c.get-in-Or-Or.ensures) ∙ c.same_tests-in-Or-Or.ensures.first h ∙ ap test_of c.get-in-Or-Or-3.ensures)
    (sym (ap test_of c.get-in-Or-Or-2.ensures) ∙ c.same_tests-in-Or-Or.ensures.second h ∙ ap test_of c.get-in-Or-Or-4.ensures)
