use Rattle.std.proofs.Common.{map}
use Rattle.fs_lang.specs.Meaning.{program_of}
use Rattle.question_terms.specs.Terms.{budget_of}
use Rattle.explain_report.proofs.ReportLaws.{end_is_so}
use Rattle.explain_report.proofs.telling.explain.Goals as goal

pub explain_sure-requires-clause-holds : goal.explain_sure-requires-clause-holds
explain_sure-requires-clause-holds c =
    let told = c.in-Judged-default-default-Same-default in
    end_is_so c.args.terms.now.given c.as_slice-given.result.now (map program_of c.args.plan.now.programs.now) c.args.plan.now.order.now (budget_of c.args.terms.now.conflicts) c.args.judged.now
    told.pruned told.sure told.second told.ends told.is c.as_slice-given.ensures c.requires.verdict
