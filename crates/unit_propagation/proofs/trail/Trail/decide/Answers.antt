use Rattle.std.proofs.Common.{ℕ, ◌<◌, length, get_or, sym, subst}
use Rattle.unit_propagation.specs.Trails.{Way}
use Rattle.unit_propagation.proofs.trail.Trail.decide.Goals as goal

pub open_level-requires-clause-last : goal.open_level-requires-clause-last
open_level-requires-clause-last c =
    subst (λ (y : Way). (k : ℕ) → k < length y.starts → get_or y.starts k 0 < c.len-place.result) (sym c.in_ok-set.ensures.ok)
    (subst (λ (n : ℕ). (k : ℕ) → k < length c.args.self.now.starts → get_or c.args.self.now.starts k 0 < n) (sym c.len-place.ensures.count) (λ k l. (c.level-levels.ensures.rising k l).0))
