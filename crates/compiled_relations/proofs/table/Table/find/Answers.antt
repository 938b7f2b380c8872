use Rattle.std.proofs.Common.{ap, refl, ◌∙◌}
use Rattle.pp_value.specs.contracts.value.RefPartialEq.TheImpl.{eq-value}
use Rattle.compiled_relations.specs.Tables.{place_among}
use Rattle.compiled_relations.proofs.TableLaws.{found}
use Rattle.compiled_relations.proofs.table.Table.find.Goals as goal

pub returns : goal.returns
returns c = c.copied.ensures ∙ (c.get.ensures.value ∙ (found eq-value.it (λ a b. refl) c.args.r.now c.self.inside.places.entries ∙ ap (place_among c.args.r.now) c.self.view_is))
