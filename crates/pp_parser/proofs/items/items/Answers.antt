use Rattle.std.proofs.Common.{◌+◌, ◌-◌, sym, ap, ◌∙◌, drop}
use Rattle.pp_syntax.specs.Lexing.{lexemes_of}
use Rattle.pp_readers.specs.Expressions.{with_front, expr_at}
use Rattle.pp_readers.specs.Combining.{many}
use Rattle.pp_readers.specs.Statements.{stmt_at}
use Rattle.pp_readers.proofs.StatementSteps.{many_goes_on, many_ends}
use Rattle.pp_parser.specs.TypeReading.{type_at}
use Rattle.pp_parser.specs.ItemReading.{has_token, item_with}
use Rattle.pp_parser.proofs.items.items.Goals as goal

pub loop-turn-preserved : goal.loop-turn-preserved
loop-turn-preserved c =
    let ts = lexemes_of c.args.parser.now.tokens.now in
    ap (λ xs. with_front xs (many has_token (item_with (expr_at c.args.parser.now.limit) (type_at c.args.parser.now.limit) (stmt_at (expr_at c.args.parser.now.limit) c.args.parser.now.limit)) (c.turns-turn-end.result - (c.loop-turn._turn + 1)) (drop c.in_ok-item.more ts))) c.in_ok-push.ensures.ok
    ∙ sym (many_goes_on has_token (item_with (expr_at c.args.parser.now.limit) (type_at c.args.parser.now.limit) (stmt_at (expr_at c.args.parser.now.limit) c.args.parser.now.limit)) c.loop-turn.found c.turns-turn-end.result c.loop-turn._turn (drop c.loop-turn.rest ts) (drop c.in_ok-item.more ts) c.in_ok-item.item
    c.loop-turn-test.true (sym c.has_token.ensures ∙ c.if-not-has_token.false) c.in_ok-item.ensures)
    ∙ c.loop-turn.invariant

pub returns-then-not-has_token : goal.returns-then-not-has_token
returns-then-not-has_token c =
    let ts = lexemes_of c.args.parser.now.tokens.now in
    sym c.loop-turn.invariant
    ∙ many_ends has_token (item_with (expr_at c.args.parser.now.limit) (type_at c.args.parser.now.limit) (stmt_at (expr_at c.args.parser.now.limit) c.args.parser.now.limit)) c.loop-turn.found c.turns-turn-end.result c.loop-turn._turn (drop c.loop-turn.rest ts) c.loop-turn-test.true (sym c.has_token.ensures ∙ c.if-not-has_token.true)
