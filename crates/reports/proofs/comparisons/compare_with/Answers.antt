use Rattle.std.proofs.Common.{map}
use Rattle.fs_lang.specs.Meaning.{program_of}
use Rattle.reports.proofs.ComparisonLaws.{other_refused}
use Rattle.reports.proofs.comparisons.compare_with.Goals as goal

pub returns-in-Err-clause-refused : goal.returns-in-Err-clause-refused
returns-in-Err-clause-refused c =
    rw (c.refused_in.ensures)
    (other_refused c.args.inputs.now c.args.known.now c.args.left.now.source c.args.left.now.catalog c.args.left.now.graph (map program_of c.args.left.now.programs) c.requires.left c.in-Err.fault
    c.in-Err.ensures.refused)
