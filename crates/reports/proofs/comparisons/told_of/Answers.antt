use Rattle.std.proofs.Common.{map, subst, subst₂}
use Rattle.std.proofs.lemmas.Result.{err_from_is_err_and}
use Rattle.rh_base.specs.Refused.{IfRefused}
use Rattle.fs_lang.specs.Meaning.{program_of}
use Rattle.given_equal.specs.Sizes.{IsTooLargeJoined}
use Rattle.equal_report.specs.Told.{IsComparedTold}
use Rattle.reports.specs.declared.terms.Asked.{Asked}
use Rattle.reports.specs.Questions.{names_in}
use Rattle.reports.proofs.ComparisonLaws.{both, too_large_both}
use Rattle.reports.proofs.SourceLaws.{in_order}
use Rattle.reports.proofs.comparisons.told_of.Goals as goal

pub told_of_both-requires-clause-left : goal.told_of_both-requires-clause-left
told_of_both-requires-clause-left c = in_order c.args.inputs.now c.args.known.now c.args.left.now.source c.args.left.now.catalog c.args.left.now.graph (map program_of c.args.left.now.programs) c.requires.left

pub told_of_both-requires-clause-right : goal.told_of_both-requires-clause-right
told_of_both-requires-clause-right c = in_order _ c.args.known.now c.args.right.now.source c.args.right.now.catalog c.args.right.now.graph (map program_of c.args.right.now.programs) c.requires.right

pub returns-in_err-report-clause-refused : goal.returns-in_err-report-clause-refused
returns-in_err-report-clause-refused c =
    let es = map program_of c.args.left.now.programs in
    let fs = map program_of c.args.right.now.programs in
    let p = err_from_is_err_and c.from_residual-in_err-report.result c.from_residual-in_err-report.ensures.1 in
    rw (p.1, p.2)
    (too_large_both c.args.inputs.now c.args.known.now c.args.left.now.source c.args.left.now.catalog c.args.left.now.graph es c.requires.left c.args.right.now.source c.args.right.now.catalog c.args.right.now.graph fs c.requires.right
    c.in_err-report.field-0.0
    (subst (λ (a : Asked). IfRefused c.in_err-report.field-0.0 (IsTooLargeJoined a.terms.limits a.terms.given es fs)) c.in_ok-asked.ensures c.in_err-report.ensures.refused))

pub returns-clause-report : goal.returns-clause-report
returns-clause-report c =
    let es = map program_of c.args.left.now.programs in
    let fs = map program_of c.args.right.now.programs in
    let names = names_in c.args.left.now.catalog c.args.left.now.graph.plain in
    let others = names_in c.args.right.now.catalog c.args.right.now.graph.plain in
    record {
      of = both c.args.inputs.now c.args.known.now c.args.left.now.source c.args.left.now.catalog c.args.left.now.graph es c.requires.left c.args.right.now.source c.args.right.now.catalog c.args.right.now.graph fs c.requires.right;
      told = subst₂ (λ (a : Asked) (b : Asked). IsComparedTold a.terms a.notes b.notes names es c.args.left.now.graph.order others fs c.args.right.now.graph.order c.in_ok-report.report)
          c.in_ok-asked.ensures c.in_ok-other_asked.ensures c.in_ok-report.ensures.told;
    }
