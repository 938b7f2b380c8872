use Rattle.std.proofs.Common.{◌≡◌, length}
use Rattle.pp_syntax.specs.Scanning.{in_class, after_all}
use Rattle.pp_syntax.proofs.lexer.bytes.after_all.Given as goal

-- What is left behind the rest is what is left behind the whole.
abbrev pub invariant-loop-b : goal.invariant-loop-b
invariant-loop-b l = after_all (in_class l.class) l.rest ≡ after_all (in_class l.class) l.text

abbrev pub decreases-loop-b : goal.decreases-loop-b
decreases-loop-b l = length l.rest
