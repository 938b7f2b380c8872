use Rattle.std.proofs.Common.{ap, ◌∙◌}
use Rattle.pp_value.specs.Keys.{place_among}
use Rattle.pp_value.proofs.PlaceLaws.{found}
use Rattle.pp_value.proofs.places.Places.find.Goals as goal

pub returns : goal.returns
returns c = c.copied.ensures ∙ (c.get.ensures.value ∙ (found c.args.key.now c.self.inside.places.entries ∙ ap (place_among c.args.key.now) c.self.view_is))
