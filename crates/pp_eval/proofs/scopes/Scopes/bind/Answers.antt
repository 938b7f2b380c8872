use Rattle.pp_eval.proofs.OpenLaws.{bound_are}
use Rattle.pp_eval.proofs.ClassPlaces.{bound_kept}
use Rattle.pp_eval.proofs.scopes.Scopes.bind.Goals as goal

pub invariant_of-self : goal.invariant_of-self
invariant_of-self c = (
  bound_are c.place_now-place.result c.self.inside.scopes.items c.args.name.now c.args.value c.bind_at.new.scopes.items c.bind_at.result c.self.inside.open.items c.bind_at.ensures c.self.invariant.0,
  bound_kept c.place_now-place.result c.self.inside.scopes.items c.args.name.now c.args.value c.bind_at.new.scopes.items c.bind_at.result c.self.inside.classes c.bind_at.ensures c.self.invariant.1,
)
