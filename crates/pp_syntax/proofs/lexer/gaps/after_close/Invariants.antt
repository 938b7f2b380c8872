use Rattle.std.proofs.Common.{◌≡◌, length}
use Rattle.pp_syntax.specs.Scanning.{after_close}
use Rattle.pp_syntax.proofs.lexer.gaps.after_close.Given as goal

abbrev pub invariant-loop-rest : goal.invariant-loop-rest
invariant-loop-rest l = after_close l.rest ≡ after_close l.text

abbrev pub decreases-loop-rest : goal.decreases-loop-rest
decreases-loop-rest l = length l.rest
