use Rattle.std.proofs.Common.{ap, refl, ◌∙◌}
use Rattle.pp_value.specs.contracts.value.RefPartialEq.TheImpl.{eq-value}
use Rattle.compiled_text.specs.Reading.{place_of}
use Rattle.compiled_text.proofs.RefLaws.{position_is}
use Rattle.compiled_text.proofs.refs.Refs.find.Goals as goal

pub returns : goal.returns
returns c = c.get_index_of.ensures.index ∙ (position_is eq-value.it (λ a b. refl) c.args.r.now c.self.inside.refs.keys ∙ ap (place_of c.args.r.now) c.self.view_is)
