use Rattle.pp_print.proofs.Escapes.{escaped_reads, fewest}
use Rattle.pp_print.proofs.laws.fewest_backslashes.Goals as goal

pub returns : goal.returns
returns c = record { value = λ text. (escaped_reads text).0; spelled = λ text. (escaped_reads text).1; fewest = fewest }
