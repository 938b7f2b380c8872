use Rattle.std.proofs.Common.{◌+◌, ◌-◌, Some, sym, ap, ◌∙◌, drop, subst}
use Rattle.std.specs.Prelude.{codes}
use Rattle.std.proofs.lemmas.Bool.{ne_eqb}
use Rattle.pp_syntax.specs.Lexing.{lexemes_of}
use Rattle.pp_readers.specs.Parsed.{Gives}
use Rattle.pp_readers.specs.Expressions.{with_front, items}
use Rattle.pp_readers.proofs.Steps.{item_goes_on, item_ends}
use Rattle.pp_parser.specs.TypeReading.{type_at}
use Rattle.pp_parser.proofs.Turns.{type_step}
use Rattle.pp_parser.proofs.types.+types.Goals as goal

pub type_at-returns : goal.type_at-returns
type_at-returns t c =
    subst (λ r. Gives (λ x. (x.0, drop x.1 (lexemes_of c.args.parser.now.tokens.now))) c.any_type.result r) (type_step c.args.depth (drop c.args.from (lexemes_of c.args.parser.now.tokens.now)) (ne_eqb c.args.depth 0 c.if-depth-eq0.false)) c.any_type.ensures

pub types-returns-then-ends : goal.types-returns-then-ends
types-returns-then-ends t c =
    let ts = lexemes_of c.args.parser.now.tokens.now in
    sym c.loop-turn.invariant
    ∙ item_ends (codes "]") (type_at c.args.depth) c.loop-turn.found c.turns-turn-end.result c.loop-turn._turn (drop c.loop-turn.rest ts) (drop c.in_ok-item.more ts) (drop c.in_ok-ends.more ts) c.in_ok-item.item
    c.loop-turn-test.true c.in_ok-item.ensures (c.in_ok-ends.ensures ∙ ap (λ b. Some (b, drop c.in_ok-ends.more ts)) c.if-ends.true)
    ∙ ap (λ xs. Some (xs, drop c.in_ok-ends.more ts)) (sym c.in_ok-push.ensures.ok)

pub types-loop-turn-preserved : goal.types-loop-turn-preserved
types-loop-turn-preserved t c =
    let ts = lexemes_of c.args.parser.now.tokens.now in
    ap (λ xs. with_front xs (items (codes "]") (type_at c.args.depth) (c.turns-turn-end.result - (c.loop-turn._turn + 1)) (drop c.in_ok-ends.more ts))) c.in_ok-push.ensures.ok
    ∙ sym (item_goes_on (codes "]") (type_at c.args.depth) c.loop-turn.found c.turns-turn-end.result c.loop-turn._turn (drop c.loop-turn.rest ts) (drop c.in_ok-item.more ts) (drop c.in_ok-ends.more ts) c.in_ok-item.item
    c.loop-turn-test.true c.in_ok-item.ensures (c.in_ok-ends.ensures ∙ ap (λ b. Some (b, drop c.in_ok-ends.more ts)) c.if-ends.false))
    ∙ c.loop-turn.invariant
