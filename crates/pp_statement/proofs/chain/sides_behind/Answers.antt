use Rattle.std.proofs.Common.{◌+◌, ◌-◌, sym, ◌∙◌, drop}
use Rattle.pp_syntax.specs.Lexing.{lexemes_of}
use Rattle.pp_readers.specs.Expressions.{expr_at}
use Rattle.pp_readers.specs.Combining.{many}
use Rattle.pp_readers.specs.Names.{begins_arrow}
use Rattle.pp_readers.specs.Statements.{link_with}
use Rattle.pp_readers.proofs.StatementSteps.{same_links, links_go_on, links_end}
use Rattle.pp_statement.proofs.chain.sides_behind.Goals as goal

pub loop-turn-preserved : goal.loop-turn-preserved
loop-turn-preserved c =
    let ts = lexemes_of c.args.parser.now.tokens.now in
    let more = many begins_arrow (link_with (expr_at c.args.parser.now.limit)) (c.turns-turn-end.result - (c.loop-turn._turn + 1)) (drop c.in_ok-arrow.more ts) in
    same_links more c.in_ok-push-2.ensures.ok c.in_ok-push-3.ensures.ok
    ∙ sym (links_go_on begins_arrow (link_with (expr_at c.args.parser.now.limit)) c.loop-turn.sides c.loop-turn.arrows c.turns-turn-end.result c.loop-turn._turn (drop c.loop-turn.rest ts) (drop c.in_ok-arrow.more ts) (c.in_ok-arrow.arrow, c.in_ok-arrow.side)
    c.loop-turn-test.true (sym c.begins_arrow.ensures ∙ c.if-not-begins_arrow.false) c.in_ok-arrow.ensures)
    ∙ c.loop-turn.invariant

pub returns-then-not-begins_arrow : goal.returns-then-not-begins_arrow
returns-then-not-begins_arrow c =
    let ts = lexemes_of c.args.parser.now.tokens.now in
    sym c.loop-turn.invariant
    ∙ links_end begins_arrow (link_with (expr_at c.args.parser.now.limit)) c.loop-turn.sides c.loop-turn.arrows c.turns-turn-end.result c.loop-turn._turn (drop c.loop-turn.rest ts) c.loop-turn-test.true (sym c.begins_arrow.ensures ∙ c.if-not-begins_arrow.true)
