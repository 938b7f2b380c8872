use Rattle.std.proofs.Common.{map}
use Rattle.fs_lang.specs.Meaning.{program_of}
use Rattle.explain_report.proofs.ReportLaws.{explains_change}
use Rattle.explain_report.proofs.parting.explain_change.Goals as goal

pub returns : goal.returns
returns c = λ order.
    explains_change c.args.given.now c.args.names.now (map program_of c.args.programs.now) order c.args.head.now c.in_ok-lines.lines c.as_slice.result.now c.in_ok-text.text c.args.witness.now c.in-Twice.tree c.in-Twice.order
    c.as_slice-turns.result.now c.in-Twice.is c.as_slice-turns.ensures c.in_ok-lines.ensures c.as_slice.ensures c.in_ok-text.ensures
