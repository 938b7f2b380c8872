use Rattle.std.proofs.Common.{rules, ap, sym, subst, ◌∙◌}
use Rattle.fs_lang.specs.declared.program.Test.{Test}
use Rattle.fs_lang.specs.Meaning.{test_of, test_of_and, test_of_or}
use Rattle.fs_lang.specs.Sizes.{test_size}
use Rattle.fs_lang.proofs.SizeLaws.{and_size, or_size}
use Rattle.effect_sets.specs.Footprints.{nowhere, test_footprint, IsClearOf}
use Rattle.effect_sets.specs.Members.{sets_of}
use Rattle.commuting_parts.proofs.PrintLaws.{clear_of_joined}
use Rattle.commuting_parts.proofs.left.+left.Goals as goal

pub leaves_test-leaves_both-requires : goal.leaves_test-leaves_both-requires
leaves_test-leaves_both-requires t c =
    let size = and_size c.args.test.now c.in-And.a c.in-And.b c.in-And.is in
    let left = ap (λ x. test_size (test_of x)) c.get-in-And.ensures in
    let right = ap (λ x. test_size (test_of x)) c.get-in-And-2.ensures in
    search rules

pub leaves_test-leaves_both-requires-in-Or : goal.leaves_test-leaves_both-requires-in-Or
leaves_test-leaves_both-requires-in-Or t c =
    let size = or_size c.args.test.now c.in-Or.a c.in-Or.b c.in-Or.is in
    let left = ap (λ x. test_size (test_of x)) c.get-in-Or.ensures in
    let right = ap (λ x. test_size (test_of x)) c.get-in-Or-2.ensures in
    search rules

pub leaves_test-returns-in-And : goal.leaves_test-returns-in-And
leaves_test-returns-in-And t c h =
    let f = sets_of c.args.f.now in
    let at : Test → Type 0 = λ x. IsClearOf f (test_footprint (test_of x) nowhere) in
    subst (λ x. IsClearOf f (test_footprint x nowhere)) (sym (ap test_of c.in-And.is ∙ test_of_and c.in-And.a c.in-And.b))
    (clear_of_joined f (test_footprint (test_of c.in-And.a) nowhere) (test_footprint (test_of c.in-And.b) nowhere)
    (subst at c.get-in-And.ensures (c.leaves_both.ensures.first h)) (subst at c.get-in-And-2.ensures (c.leaves_both.ensures.second h)))

pub leaves_test-returns-in-Or : goal.leaves_test-returns-in-Or
leaves_test-returns-in-Or t c h =
    let f = sets_of c.args.f.now in
    let at : Test → Type 0 = λ x. IsClearOf f (test_footprint (test_of x) nowhere) in
    subst (λ x. IsClearOf f (test_footprint x nowhere)) (sym (ap test_of c.in-Or.is ∙ test_of_or c.in-Or.a c.in-Or.b))
    (clear_of_joined f (test_footprint (test_of c.in-Or.a) nowhere) (test_footprint (test_of c.in-Or.b) nowhere)
    (subst at c.get-in-Or.ensures (c.leaves_both-in-Or.ensures.first h)) (subst at c.get-in-Or-2.ensures (c.leaves_both-in-Or.ensures.second h)))
