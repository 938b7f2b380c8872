use Rattle.std.proofs.Common.{◌≡◌, drop}
use Rattle.pp_syntax.specs.Lexing.{lexemes_of}
use Rattle.pp_parser.specs.Nested.{at_start}
use Rattle.pp_parser.specs.Scanning.{first_too_deep}
use Rattle.pp_parser.proofs.Rows.{IsBelow}
use Rattle.pp_parser.proofs.depth.first_too_deep.Given as goal

abbrev pub invariant-loop-t : goal.invariant-loop-t
invariant-loop-t l = record {
  first : first_too_deep l.nesting (lexemes_of (drop l.t-index l.tokens)) ≡ first_too_deep at_start (lexemes_of l.tokens);
  below : IsBelow l.nesting l.t-index;
}
