use Rattle.std.proofs.Common.{◌≡◌, length}
use Rattle.pp_syntax.specs.Scanning.{after_sq}
use Rattle.pp_syntax.proofs.lexer.quoted.after_sq.Given as goal

abbrev pub invariant-loop-rest : goal.invariant-loop-rest
invariant-loop-rest l = after_sq l.rest ≡ after_sq l.text

abbrev pub decreases-loop-rest : goal.decreases-loop-rest
decreases-loop-rest l = length l.rest
