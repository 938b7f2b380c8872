use Rattle.std.proofs.Common.{◌≡◌}
use Rattle.finite_domain.specs.Layouts.{stem}
use Rattle.path_domain.proofs.stems.stem.Given as goal

abbrev pub invariant-loop-turn : goal.invariant-loop-turn
invariant-loop-turn l = l.text ≡ stem l._turn
