use Rattle.given_links.proofs.ProgramLaws.{mentions, same}
use Rattle.given_links.proofs.laws.program_readings.Goals as goal

pub returns : goal.returns
returns c = record { mentions = mentions; none = same }
