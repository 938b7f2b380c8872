-- The value of an option, from the rows of the matches.
use Rattle.std.proofs.Common.{◌≡◌}
use Rattle.clap.specs.Matches.{first_value}
use Rattle.clap.specs.Walk.{Text, first_of, rows_of}
use Rattle.clap.specs.declared.parser.matches.Found.{Found}
use Rattle.clap.proofs.WalkLemmas.{first_value-rows}

-- the first value of an option is the first of its row
pub value_in_rows : (f : Found) (id : Text) → first_value f id ≡ first_of id (rows_of f)
value_in_rows f id = first_value-rows f id
