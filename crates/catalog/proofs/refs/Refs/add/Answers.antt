use Rattle.std.proofs.Common.{[], ◌∷◌, ◌++◌, ap, ◌∙◌}
use Rattle.pp_value.specs.contracts.value.RefPartialEq.TheImpl.{eq-value}
use Rattle.catalog.specs.Places.{place_among}
use Rattle.catalog.proofs.RefLaws.{added, key_turned}
use Rattle.catalog.proofs.refs.Refs.add.Goals as goal

pub returns-clause-ok : goal.returns-clause-ok
returns-clause-ok c =
    c.in_ok-insert.ensures.entries
    ∙ (added eq-value.it key_turned c.self.inside.places.entries c.args.r c.args.place (ap (place_among c.args.r) c.self.view_is ∙ c.requires)
    ∙ ap (λ places. places ++ (c.args.r, c.args.place) ∷ []) c.self.view_is)
