use Rattle.std.proofs.Common.{map}
use Rattle.fs_lang.specs.Meaning.{program_of}
use Rattle.reports.proofs.QuestionLaws.{report_of, refusal_of}
use Rattle.reports.proofs.stages.report_on_programs.Goals as goal

pub returns-clause-report : goal.returns-clause-report
returns-clause-report c =
    let m = c.args.made.now in
    report_of c.args.question c.args.inputs.now c.args.known.now m.source m.catalog m.graph (map program_of m.programs) c.told_of.result c.requires.modelled c.told_of.ensures.told

pub returns-clause-refused : goal.returns-clause-refused
returns-clause-refused c =
    let m = c.args.made.now in
    refusal_of c.args.question c.args.inputs.now c.args.known.now m.source m.catalog m.graph (map program_of m.programs) c.told_of.result c.requires.modelled c.told_of.ensures.refused
