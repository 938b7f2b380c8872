use Rattle.pp_parser.proofs.Holes.{holes_are_cases, cases_are_holes}
use Rattle.pp_parser.proofs.laws.words_in_holes_are_variables.Goals as goal

pub returns : goal.returns
returns c = record { cases = holes_are_cases; holes = cases_are_holes }
