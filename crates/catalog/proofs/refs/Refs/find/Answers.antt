use Rattle.std.proofs.Common.{ap, ◌∙◌}
use Rattle.pp_value.specs.contracts.value.RefPartialEq.TheImpl.{eq-value}
use Rattle.catalog.specs.Places.{place_among}
use Rattle.catalog.proofs.RefLaws.{found, key_turned}
use Rattle.catalog.proofs.refs.Refs.find.Goals as goal

pub returns : goal.returns
returns c = c.copied.ensures ∙ (c.get.ensures.value ∙ (found eq-value.it key_turned c.args.r.now c.self.inside.places.entries ∙ ap (place_among c.args.r.now) c.self.view_is))
