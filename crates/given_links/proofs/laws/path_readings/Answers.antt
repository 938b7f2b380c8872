use Rattle.given_links.proofs.ReadLaws.{exact, alike, behind_none, no_link}
use Rattle.given_links.proofs.laws.path_readings.Goals as goal

pub returns : goal.returns
returns c = record { exact = exact; alike = alike; behind_none = behind_none; none = no_link }
