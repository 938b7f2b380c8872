use Rattle.std.proofs.Common.{◌≡◌, false, drop}
use Rattle.pp_syntax.specs.Lexing.{lexemes_of}
use Rattle.pp_parser.specs.Scanning.{first_left_out}
use Rattle.pp_parser.proofs.left_out.first_left_out.Given as goal

-- What is first among the tokens that are left is first among all.
abbrev pub invariant-loop-i : goal.invariant-loop-i
invariant-loop-i l = first_left_out l.names (lexemes_of (drop l.i l.tokens)) ≡ first_left_out false (lexemes_of l.tokens)
