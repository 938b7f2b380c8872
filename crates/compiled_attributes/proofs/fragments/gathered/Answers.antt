use Rattle.std.proofs.Common.{ap, ◌∙◌}
use Rattle.compiled_attributes.specs.Places.{at_places}
use Rattle.compiled_attributes.proofs.PlaceLaws.{gathered_there}
use Rattle.compiled_attributes.proofs.fragments.gathered.Goals as goal

pub returns : goal.returns
returns c =
    c.in_ok-found.ensures ∙ (ap (at_places c.args.resources.now) c.in_ok-places.ensures ∙ gathered_there c.args.resources.now c.args.fragments.now c.args.file.now c.requires)
