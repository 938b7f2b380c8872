use Rattle.printed_names.proofs.Lines.{has_none, as_it_is}
use Rattle.printed_names.proofs.printing.one_line.Goals as goal

pub returns-clause-none : goal.returns-clause-none
returns-clause-none c = has_none

pub returns-clause-same : goal.returns-clause-same
returns-clause-same c = as_it_is
