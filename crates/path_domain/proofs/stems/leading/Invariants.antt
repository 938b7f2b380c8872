use Rattle.std.proofs.Common.{◌≡◌, ◌++◌, length}
use Rattle.finite_domain.specs.Layouts.{letters}
use Rattle.path_domain.proofs.stems.leading.Given as goal

-- the text is so many letters and what is left
abbrev pub invariant-loop-rest : goal.invariant-loop-rest
invariant-loop-rest l = l.c ≡ letters l.n ++ l.left

abbrev pub decreases-loop-rest : goal.decreases-loop-rest
decreases-loop-rest l = length l.left
