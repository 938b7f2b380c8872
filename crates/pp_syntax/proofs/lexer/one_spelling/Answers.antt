use Rattle.pp_syntax.proofs.Slices.{no_failure, same_failure}
use Rattle.pp_syntax.proofs.lexer.one_spelling.Goals as goal

pub returns-clause-either : goal.returns-clause-either
returns-clause-either c = no_failure

pub returns-clause-place : goal.returns-clause-place
returns-clause-place c = same_failure
