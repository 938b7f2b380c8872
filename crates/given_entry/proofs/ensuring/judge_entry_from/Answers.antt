use Rattle.std.proofs.Common.{◌≡◌, map, sym, subst}
use Rattle.fs_lang.specs.Meaning.{program_of}
use Rattle.given_verdict.specs.Limits.{HasFewPathsWith}
use Rattle.given_entry.specs.Sizes.{HasFewPathsProbed}
use Rattle.given_entry.proofs.LimitLaws.{never}
use Rattle.given_entry.proofs.ensuring.judge_entry_from.Goals as goal

pub returns-in_err-check_size_probed-clause-only : goal.returns-in_err-check_size_probed-clause-only
returns-in_err-check_size_probed-clause-only c = λ few many light.
    let es = map program_of c.args.plan.now.programs.now in
    let terms = c.args.terms.now in
    let same : c.as_slice-given.result.now ≡ terms.given = c.as_slice-given.ensures in
    never c.from_residual.result c.in_err-check_size_probed.field-0.0 c.from_residual.ensures.1
    (c.in_err-check_size_probed.ensures.only (subst (λ g. HasFewPathsWith terms.limits g es) (sym same) few) (subst (λ g. HasFewPathsProbed terms.limits g es c.args.wanted.now) (sym same) many) light)
