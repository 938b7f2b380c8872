use Rattle.std.proofs.Common.{rules, ap, sym, ◌∙◌}
use Rattle.fs_semantics.specs.Programs.{And, Or}
use Rattle.fs_lang.specs.Meaning.{test_of, test_of_and, test_of_or}
use Rattle.fs_lang.specs.Sizes.{test_size}
use Rattle.fs_lang.proofs.SizeLaws.{and_size, or_size}
use Rattle.finite_domain.specs.Matters.{matters_of_test}
use Rattle.path_domain.specs.Gathered.{gathered_of, gather}
use Rattle.path_domain.proofs.GatherLaws.{on_ok, gather_both}
use Rattle.path_domain.proofs.walk.+asked.Goals as goal

pub walk_test-walk_both-requires : goal.walk_test-walk_both-requires
walk_test-walk_both-requires t c =
    let size = and_size c.args.test.now c.in-And.a c.in-And.b c.in-And.is in
    let left = ap (λ x. test_size (test_of x)) c.get-in-And.ensures in
    let right = ap (λ x. test_size (test_of x)) c.get-in-And-2.ensures in
    search rules

pub walk_test-walk_both-requires-in-Or : goal.walk_test-walk_both-requires-in-Or
walk_test-walk_both-requires-in-Or t c =
    let size = or_size c.args.test.now c.in-Or.a c.in-Or.b c.in-Or.is in
    let left = ap (λ x. test_size (test_of x)) c.get-in-Or.ensures in
    let right = ap (λ x. test_size (test_of x)) c.get-in-Or-2.ensures in
    search rules

pub walk_test-returns-in-And : goal.walk_test-returns-in-And
walk_test-returns-in-And t c =
    let is = ap test_of c.in-And.is ∙ test_of_and c.in-And.a c.in-And.b ∙ (λ i. And (test_of (sym c.get-in-And.ensures i)) (test_of (sym c.get-in-And-2.ensures i))) in
    on_ok c.walk_both.result (λ h. h ∙ ap (λ x. gather (matters_of_test x) (gathered_of c.args.found.now)) (sym is)) c.walk_both.ensures

pub walk_test-returns-in-Or : goal.walk_test-returns-in-Or
walk_test-returns-in-Or t c =
    let is = ap test_of c.in-Or.is ∙ test_of_or c.in-Or.a c.in-Or.b ∙ (λ i. Or (test_of (sym c.get-in-Or.ensures i)) (test_of (sym c.get-in-Or-2.ensures i))) in
    on_ok c.walk_both-in-Or.result (λ h. h ∙ ap (λ x. gather (matters_of_test x) (gathered_of c.args.found.now)) (sym is)) c.walk_both-in-Or.ensures

pub walk_both-returns : goal.walk_both-returns
walk_both-returns t c =
    let a = matters_of_test (test_of c.args.a.now) in
    let b = matters_of_test (test_of c.args.b.now) in
    on_ok c.walk_test-2.result (λ h. h ∙ ap (gather b) c.in_ok-walk_test.ensures ∙ gather_both a b (gathered_of c.args.found.now)) c.walk_test-2.ensures
