use Rattle.std.proofs.Common.{◌≡◌, length}
use Rattle.pp_syntax.specs.Scanning.{text_from}
use Rattle.pp_syntax.proofs.lexer.quoted.after_text.Given as goal

abbrev pub invariant-loop-b : goal.invariant-loop-b
invariant-loop-b l = text_from 0 l.rest ≡ text_from 0 l.text

abbrev pub decreases-loop-b : goal.decreases-loop-b
decreases-loop-b l = length l.rest
