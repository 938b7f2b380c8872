use Rattle.std.proofs.Common.{ap, ◌∙◌}
use Rattle.pp_eval.specs.ClassNames.{place_among}
use Rattle.pp_eval.proofs.ClassNameLaws.{found}
use Rattle.pp_eval.proofs.classes.Classes.find.Goals as goal

pub returns : goal.returns
returns c = c.copied.ensures ∙ (c.get.ensures.value ∙ (found c.args.name.now c.self.inside.places.entries ∙ ap (place_among c.args.name.now) c.self.view_is))
