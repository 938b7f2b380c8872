use Rattle.std.proofs.Common.{◌&&◌, ◌||◌, rules, sym, ap, ◌∙◌}
use Rattle.fs_semantics.specs.Programs.{holds}
use Rattle.fs_lang.specs.Meaning.{test_of, test_of_and, test_of_or}
use Rattle.fs_lang.specs.Sizes.{test_size}
use Rattle.fs_lang.proofs.SizeLaws.{and_size, or_size}
use Rattle.failure_search.proofs.questions.+holds.Goals as goal

pub holds-returns-in-And : goal.holds-returns-in-And
holds-returns-in-And t c =
    c.both_hold.ensures
    ∙ (λ i. holds (test_of (c.get-in-And.ensures i)) c.args.tree.now && holds (test_of (c.get-in-And-2.ensures i)) c.args.tree.now)
    ∙ ap (λ x. holds x c.args.tree.now) (sym (ap test_of c.in-And.is ∙ test_of_and c.in-And.a c.in-And.b))

pub holds-returns-in-Or : goal.holds-returns-in-Or
holds-returns-in-Or t c =
    c.one_holds.ensures
    ∙ (λ i. holds (test_of (c.get-in-Or.ensures i)) c.args.tree.now || holds (test_of (c.get-in-Or-2.ensures i)) c.args.tree.now)
    ∙ ap (λ x. holds x c.args.tree.now) (sym (ap test_of c.in-Or.is ∙ test_of_or c.in-Or.a c.in-Or.b))

pub holds-both_hold-requires : goal.holds-both_hold-requires
holds-both_hold-requires t c =
    let size = and_size c.args.test.now c.in-And.a c.in-And.b c.in-And.is in
    let left = ap (λ x. test_size (test_of x)) c.get-in-And.ensures in
    let right = ap (λ x. test_size (test_of x)) c.get-in-And-2.ensures in
    search rules

pub holds-one_holds-requires : goal.holds-one_holds-requires
holds-one_holds-requires t c =
    let size = or_size c.args.test.now c.in-Or.a c.in-Or.b c.in-Or.is in
    let left = ap (λ x. test_size (test_of x)) c.get-in-Or.ensures in
    let right = ap (λ x. test_size (test_of x)) c.get-in-Or-2.ensures in
    search rules
