use Rattle.pp_readers.proofs.StatementLaws.{same_statement}
use Rattle.pp_readers.proofs.laws.one_statement.Goals as goal

pub returns : goal.returns
returns c = same_statement
