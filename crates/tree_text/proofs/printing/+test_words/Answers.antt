use Rattle.std.proofs.Common.{◌≡◌, ◌++◌, OnOk, rules, ap, subst}
use Rattle.fs_lang.specs.Meaning.{test_of}
use Rattle.fs_lang.specs.Sizes.{test_size}
use Rattle.fs_lang.proofs.SizeLaws.{and_size, or_size}
use Rattle.tree_text.proofs.PrintLaws.{and_printed, or_printed}
use Rattle.tree_text.proofs.printing.+test_words.Goals as goal

pub put_test-joined-requires : goal.put_test-joined-requires
put_test-joined-requires t c =
    let size = and_size c.args.test.now c.in-And.a c.in-And.b c.in-And.is in
    let left = ap (λ x. test_size (test_of x)) c.get-in-And.ensures in
    let right = ap (λ x. test_size (test_of x)) c.get-in-And-2.ensures in
    search rules

pub put_test-joined-requires-in-Or : goal.put_test-joined-requires-in-Or
put_test-joined-requires-in-Or t c =
    let size = or_size c.args.test.now c.in-Or.a c.in-Or.b c.in-Or.is in
    let left = ap (λ x. test_size (test_of x)) c.get-in-Or.ensures in
    let right = ap (λ x. test_size (test_of x)) c.get-in-Or-2.ensures in
    search rules

pub put_test-returns-in-And : goal.put_test-returns-in-And
put_test-returns-in-And t c =
    subst (λ s. OnOk c.joined.result (c.joined.new.into ≡ c.args.into.now ++ s))
    (and_printed c.args.test.now c.in-And.a c.in-And.b c.get-in-And.result.now c.get-in-And-2.result.now c.in-And.is c.get-in-And.ensures c.get-in-And-2.ensures) c.joined.ensures

pub put_test-returns-in-Or : goal.put_test-returns-in-Or
put_test-returns-in-Or t c =
    subst (λ s. OnOk c.joined-in-Or.result (c.joined-in-Or.new.into ≡ c.args.into.now ++ s))
    (or_printed c.args.test.now c.in-Or.a c.in-Or.b c.get-in-Or.result.now c.get-in-Or-2.result.now c.in-Or.is c.get-in-Or.ensures c.get-in-Or-2.ensures) c.joined-in-Or.ensures
