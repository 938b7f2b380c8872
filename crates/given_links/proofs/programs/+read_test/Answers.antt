use Rattle.std.proofs.Common.{rules, ap}
use Rattle.fs_lang.specs.Meaning.{test_of}
use Rattle.fs_lang.specs.Sizes.{test_size}
use Rattle.fs_lang.proofs.SizeLaws.{and_size, or_size}
use Rattle.given_links.proofs.BuiltLaws.{and_read, or_read}
use Rattle.given_links.proofs.programs.+read_test.Goals as goal

pub read_test-conjunction-requires : goal.read_test-conjunction-requires
read_test-conjunction-requires t c =
    let size = and_size c.args.test.now c.in-And.a c.in-And.b c.in-And.is in
    let left = ap (λ x. test_size (test_of x)) c.get-in-And.ensures in
    let right = ap (λ x. test_size (test_of x)) c.get-in-And-2.ensures in
    search rules

pub read_test-disjunction-requires : goal.read_test-disjunction-requires
read_test-disjunction-requires t c =
    let size = or_size c.args.test.now c.in-Or.a c.in-Or.b c.in-Or.is in
    let left = ap (λ x. test_size (test_of x)) c.get-in-Or.ensures in
    let right = ap (λ x. test_size (test_of x)) c.get-in-Or-2.ensures in
    search rules

pub read_test-returns-in-And : goal.read_test-returns-in-And
read_test-returns-in-And t c =
    and_read c.args.links.now c.args.test.now c.in-And.a c.in-And.b c.get-in-And.result.now c.get-in-And-2.result.now c.conjunction.result c.in-And.is c.get-in-And.ensures c.get-in-And-2.ensures c.conjunction.ensures

pub read_test-returns-in-Or : goal.read_test-returns-in-Or
read_test-returns-in-Or t c =
    or_read c.args.links.now c.args.test.now c.in-Or.a c.in-Or.b c.get-in-Or.result.now c.get-in-Or-2.result.now c.disjunction.result c.in-Or.is c.get-in-Or.ensures c.get-in-Or-2.ensures c.disjunction.ensures
