use Rattle.std.proofs.Common.{◌≡◌, ◌-◌, [], ◌∷◌, drop, ◌+◌, length}
use Rattle.pp_syntax.specs.Lexing.{lexemes_of}
use Rattle.pp_readers.specs.Expressions.{with_front, expr_at}
use Rattle.pp_readers.specs.Statements.{more_args}
use Rattle.pp_statement.proofs.chain.args_behind.Given as goal

-- what was read so far, and what reading the rest gives in the turns that are left
abbrev pub invariant-loop-turn : goal.invariant-loop-turn
invariant-loop-turn l = with_front l.found (more_args (expr_at l.parser.limit) (l._turn-end - l._turn) (drop l.rest (lexemes_of l.parser.tokens.now)))
    ≡ with_front (l.fn.first ∷ []) (more_args (expr_at l.parser.limit) (length (drop l.from (lexemes_of l.parser.tokens.now)) + 1) (drop l.from (lexemes_of l.parser.tokens.now)))
