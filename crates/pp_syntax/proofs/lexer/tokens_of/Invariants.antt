use Rattle.std.proofs.Common.{◌≡◌, ◌+◌, length}
use Rattle.std.specs.Prelude.{IsUtf8}
use Rattle.pp_syntax.specs.Lexing.{lexemes_of}
use Rattle.pp_syntax.proofs.Lexed.{Completes}
use Rattle.pp_syntax.proofs.lexer.tokens_of.Given as goal

abbrev pub invariant-loop-rest : goal.invariant-loop-rest
invariant-loop-rest l = record {
  reads : Completes l.source (lexemes_of l.tokens.items) l.place l.rest;
  sizes : l.place.at + length l.rest ≡ length l.source;
  utf8 : IsUtf8 l.rest;
}

abbrev pub decreases-loop-rest : goal.decreases-loop-rest
decreases-loop-rest l = length l.rest
