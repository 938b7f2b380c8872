use Rattle.allowed_order.proofs.ApartLaws.{told_apart}
use Rattle.allowed_order.proofs.laws.plain_resources_are_told_apart.Goals as goal

pub returns : goal.returns
returns c = told_apart c.references_have_one_place.ensures
