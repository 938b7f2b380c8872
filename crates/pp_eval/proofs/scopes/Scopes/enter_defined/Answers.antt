use Rattle.std.proofs.Common.{refl}
use Rattle.pp_eval.proofs.ClassPlaces.{entered_inside}
use Rattle.pp_eval.proofs.scopes.Scopes.enter_defined.Goals as goal

pub invariant_of-self : goal.invariant_of-self
invariant_of-self c =
    entered_inside c.self.inside.scopes.items c.enter.new.scopes.items _ c.self.inside.open.items c.enter.new.opened.items c.self.inside.classes c.enter.result (λ name. refl) refl c.self.invariant
    c.enter.ensures.scopes_ok c.enter.ensures.open_ok c.enter.ensures.scopes_err c.enter.ensures.open_err
