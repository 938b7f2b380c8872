use Rattle.std.proofs.Common.{arith}
use Rattle.pp_readers.proofs.Whole.{expr_found}
use Rattle.pp_readers.proofs.Quotes.{expr_read}
use Rattle.pp_readers.proofs.DoubleQuotes.{dq_found, dq_read}
use Rattle.pp_readers.proofs.laws.expressions_are_read.Goals as goal

pub returns-clause-found : goal.returns-clause-found
returns-clause-found c = expr_found dq_found

pub returns-clause-only : goal.returns-clause-only
returns-clause-only c = λ depth y front rest h n l. expr_read dq_read depth y front rest h n (omega arith)
