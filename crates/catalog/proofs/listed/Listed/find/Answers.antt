use Rattle.std.proofs.Common.{ap, ◌∙◌}
use Rattle.catalog_semantics.specs.States.{place_of, references_of}
use Rattle.catalog.specs.Places.{place_among}
use Rattle.catalog.proofs.RefLaws.{place_is, place_below}
use Rattle.catalog.proofs.listed.Listed.find.Goals as goal

pub returns-clause-place : goal.returns-clause-place
returns-clause-place c =
    c.find.ensures ∙ (ap (place_among c.args.r.now) c.self.invariant.refs_are
    ∙ (place_is 0 c.args.r.now (references_of c.self.inside.resources.items) ∙ ap (place_of c.args.r.now) c.self.view_is))

pub returns-clause-below : goal.returns-clause-below
returns-clause-below c =
    place_below c.args.r.now c.self.inside.resources.items c.self.invariant.few c.find.result
    (c.find.ensures ∙ (ap (place_among c.args.r.now) c.self.invariant.refs_are ∙ place_is 0 c.args.r.now (references_of c.self.inside.resources.items)))
