use Rattle.std.proofs.Common.{sym, subst}
use Rattle.catalog.specs.Places.{IsListed}
use Rattle.catalog.proofs.SizeLaws.{still_listed}
use Rattle.catalog.proofs.listed.Listed.realize.Goals as goal

pub invariant_of-self : goal.invariant_of-self
invariant_of-self c = subst (IsListed _ _) (sym c.set_real.ensures) (still_listed _ _ c.args.place c.self.inside.resources.items c.self.invariant)
