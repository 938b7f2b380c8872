use Rattle.std.proofs.Common.{map}
use Rattle.fs_lang.specs.Meaning.{program_of}
use Rattle.explain_report.proofs.ReportLaws.{explains_difference}
use Rattle.explain_report.proofs.parting.explain_difference.Goals as goal

pub returns : goal.returns
returns c = λ order.
    explains_difference c.args.given.now c.args.names.now (map program_of c.args.programs.now) order c.args.head.now c.in_ok-lines.lines c.as_slice.result.now c.in_ok-text.text c.args.witness.now
    c.in-Orders.tree c.in-Orders.left c.in-Orders.right c.as_slice-first.result.now c.as_slice-second.result.now c.in-Orders.is c.as_slice-first.ensures c.as_slice-second.ensures
    c.in_ok-lines.ensures c.as_slice.ensures c.in_ok-text.ensures
