use Rattle.std.proofs.Common.{◌≡◌, ◌++◌, ◌-◌, length, drop}
use Rattle.pp_syntax.specs.Lexing.{lexemes_of}
use Rattle.pp_readers.specs.Expressions.{prefixes}
use Rattle.pp_expression.proofs.marks.prefixes.Given as goal

-- the prefixes so far, and those of the rest
abbrev pub invariant-loop-op : goal.invariant-loop-op
invariant-loop-op l = (l.found ++ (prefixes (drop l.rest (lexemes_of l.tokens))).0, (prefixes (drop l.rest (lexemes_of l.tokens))).1) ≡ prefixes (drop l.from (lexemes_of l.tokens))

abbrev pub decreases-loop-op : goal.decreases-loop-op
decreases-loop-op l = length l.tokens - l.rest
