use Rattle.std.proofs.Common.{◌≡◌, map, sym, subst}
use Rattle.fs_lang.specs.Meaning.{program_of}
use Rattle.given_equal.specs.Sizes.{AreWithinWith}
use Rattle.given_equal.proofs.LimitLaws.{never}
use Rattle.given_equal.proofs.comparing.compare_from.Goals as goal

pub returns-in_err-check_within-clause-only : goal.returns-in_err-check_within-clause-only
returns-in_err-check_within-clause-only c = λ within.
    let es = map program_of c.args.left.now.programs.now in
    let fs = map program_of c.args.right.now.programs.now in
    let terms = c.args.terms.now in
    let same : c.as_slice-given.result.now ≡ terms.given = c.as_slice-given.ensures in
    never c.from_residual.result c.in_err-check_within.field-0.0 c.from_residual.ensures.1 (c.in_err-check_within.ensures.only (subst (λ g. AreWithinWith terms.limits g es fs) (sym same) within))
