use Rattle.std.proofs.Common.{ap, sym, ◌∙◌, option_map}
use Rattle.std.specs.Prelude.{slice_get}
use Rattle.pp_value.specs.Keys.{value_at}
use Rattle.pp_value.proofs.PlaceLaws.{item_found, none_found}
use Rattle.pp_value.proofs.keyed.Keyed.find.Goals as goal

pub returns-in-Some : goal.returns-in-Some
returns-in-Some g c =
    c.item_at.ensures ∙ (ap (λ pairs. option_map (λ p. p.1) (slice_get pairs c.in-Some.place)) c.as_slice.ensures.value
    ∙ (item_found c.args.key.now c.self.inside.pairs.items c.self.inside.places c.in-Some.place c.self.invariant.1 (sym c.find.ensures ∙ c.in-Some.is) ∙ ap (value_at c.args.key.now) c.self.view_is))

pub returns-in-None : goal.returns-in-None
returns-in-None g c =
    sym (none_found c.args.key.now c.self.inside.pairs.items c.self.inside.places c.self.invariant.1 (sym c.find.ensures ∙ c.in-None.is)) ∙ ap (value_at c.args.key.now) c.self.view_is
