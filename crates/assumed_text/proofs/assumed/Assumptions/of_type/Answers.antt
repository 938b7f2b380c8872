use Rattle.std.proofs.Common.{List, option_map, slice_get, ap, ◌∙◌}
use Rattle.assumed_text.specs.declared.assumed.Assumption.{Assumption}
use Rattle.assumed_text.specs.Assumptions.{assumed_of_type}
use Rattle.assumed_text.proofs.TypeLaws.{found_at, not_found}
use Rattle.assumed_text.proofs.assumed.Assumptions.of_type.Goals as goal

pub returns-in-Some : goal.returns-in-Some
returns-in-Some c =
    c.assumed_at.ensures
    ∙ (ap (λ (l : List Assumption). option_map (λ (a : Assumption). a.assumed) (slice_get l c.in-Some.place.now)) c.as_slice.ensures
    ∙ (found_at c.args.kind.now c.self.inside.types c.self.inside.rows c.in-Some.place.now c.self.invariant.1 c.in-Some.ensures ∙ ap (assumed_of_type c.args.kind.now) c.self.view_is))

pub returns-in-None : goal.returns-in-None
returns-in-None c = not_found c.args.kind.now c.self.inside.types c.self.inside.rows c.self.invariant.1 c.in-None.ensures ∙ ap (assumed_of_type c.args.kind.now) c.self.view_is
