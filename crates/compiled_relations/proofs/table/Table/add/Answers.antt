use Rattle.std.proofs.Common.{[], ◌∷◌, ◌++◌, ap, refl, ◌∙◌}
use Rattle.pp_value.specs.contracts.value.RefPartialEq.TheImpl.{eq-value}
use Rattle.compiled_relations.specs.Tables.{place_among}
use Rattle.compiled_relations.proofs.TableLaws.{added, last_among}
use Rattle.compiled_relations.proofs.table.Table.add.Goals as goal

pub returns : goal.returns
returns c =
    let entries = c.in_ok-insert.ensures.entries
    ∙ (added eq-value.it (λ a b. refl) c.self.inside.places.entries c.args.r c.args.place (ap (place_among c.args.r) c.self.view_is ∙ c.requires)
    ∙ ap (λ places. places ++ (c.args.r, c.args.place) ∷ []) c.self.view_is) in
    λ q. ap (place_among q) entries ∙ last_among q c.args.r c.args.place c.args.self.now
