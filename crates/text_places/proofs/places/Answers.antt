use Rattle.text_places.proofs.PlaceLaws.{one_place, apart}
use Rattle.text_places.proofs.places.Goals as goal

pub returns : goal.returns
returns c = record { one = one_place; apart = apart }
