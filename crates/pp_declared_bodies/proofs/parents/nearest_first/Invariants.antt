use Rattle.std.proofs.Common.{◌≡◌, ◌+◌, map, length}
use Rattle.pp_declared_bodies.specs.Parents.{nearest_first, with_front}
use Rattle.pp_declared_bodies.proofs.parents.nearest_first.Given as goal

abbrev pub decreases-loop-left : goal.decreases-loop-left
decreases-loop-left l = l.left

abbrev pub invariant-loop-left : goal.invariant-loop-left
invariant-loop-left l =
    with_front (map (λ p. p.now) l.line.items) (nearest_first l.left l.site l.state l.current) ≡ nearest_first (length l.site.classes + 1) l.site l.state l.d
