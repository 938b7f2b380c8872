use Rattle.pp_readers.proofs.StatementLaws.{statement_finds, statement_reads}
use Rattle.pp_readers.proofs.laws.statements_are_read.Goals as goal

pub returns-clause-found : goal.returns-clause-found
returns-clause-found c = statement_finds

pub returns-clause-only : goal.returns-clause-only
returns-clause-only c = λ limit depth y front rest h n l. statement_reads limit depth y front rest h n l
