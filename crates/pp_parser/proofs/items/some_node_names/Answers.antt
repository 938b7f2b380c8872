use Rattle.std.proofs.Common.{◌+◌, ◌-◌, Some, sym, ap, ◌∙◌, drop}
use Rattle.std.specs.Prelude.{codes}
use Rattle.pp_syntax.specs.Lexing.{lexemes_of}
use Rattle.pp_readers.specs.Expressions.{with_front, expr_at}
use Rattle.pp_readers.specs.Combining.{listed}
use Rattle.pp_readers.proofs.StatementSteps.{listed_goes_on, listed_last, listed_ends}
use Rattle.pp_parser.specs.ItemReading.{unopened, node_name_with}
use Rattle.pp_parser.proofs.items.some_node_names.Goals as goal

pub loop-turn-preserved : goal.loop-turn-preserved
loop-turn-preserved c =
    let ts = lexemes_of c.args.parser.now.tokens.now in
    ap (λ xs. with_front xs (listed (codes ",") unopened (node_name_with (expr_at c.args.parser.now.limit)) (c.turns-turn-end.result - (c.loop-turn._turn + 1)) (drop c.in-Some.behind ts))) c.in_ok-push.ensures.ok
    ∙ sym (listed_goes_on (codes ",") unopened (node_name_with (expr_at c.args.parser.now.limit)) c.loop-turn.found c.turns-turn-end.result c.loop-turn._turn c.in-Some.field-0-0 (drop c.loop-turn.rest ts) (drop c.in_ok-item.more ts) (drop c.in-Some.behind ts) c.in_ok-item.item
    c.loop-turn-test.true (sym c.unopened.ensures ∙ c.if-not-unopened.false) c.in_ok-item.ensures (sym c.in-Some.ensures))
    ∙ c.loop-turn.invariant

pub returns-in_default : goal.returns-in_default
returns-in_default c =
    let ts = lexemes_of c.args.parser.now.tokens.now in
    sym c.loop-turn.invariant
    ∙ listed_last (codes ",") unopened (node_name_with (expr_at c.args.parser.now.limit)) c.loop-turn.found c.turns-turn-end.result c.loop-turn._turn (drop c.loop-turn.rest ts) (drop c.in_ok-item.more ts) c.in_ok-item.item
    c.loop-turn-test.true (sym c.unopened.ensures ∙ c.if-not-unopened.false) c.in_ok-item.ensures (sym c.in_default.ensures)
    ∙ ap (λ xs. Some (xs, drop c.in_ok-item.more ts)) (sym c.in_ok-push.ensures.ok)

pub returns-then-not-unopened : goal.returns-then-not-unopened
returns-then-not-unopened c =
    let ts = lexemes_of c.args.parser.now.tokens.now in
    sym c.loop-turn.invariant
    ∙ listed_ends (codes ",") unopened (node_name_with (expr_at c.args.parser.now.limit)) c.loop-turn.found c.turns-turn-end.result c.loop-turn._turn (drop c.loop-turn.rest ts) c.loop-turn-test.true (sym c.unopened.ensures ∙ c.if-not-unopened.true)
