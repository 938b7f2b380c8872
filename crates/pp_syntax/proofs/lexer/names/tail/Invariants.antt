use Rattle.std.proofs.Common.{◌≡◌, length}
use Rattle.pp_syntax.specs.Scanning.{tail_from}
use Rattle.pp_syntax.proofs.lexer.names.tail.Given as goal

abbrev pub invariant-loop-b : goal.invariant-loop-b
invariant-loop-b l = tail_from l.style l.best l.rest ≡ tail_from l.style l.text l.text

abbrev pub decreases-loop-b : goal.decreases-loop-b
decreases-loop-b l = length l.rest
