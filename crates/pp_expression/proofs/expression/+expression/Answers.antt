use Rattle.std.proofs.Common.{◌+◌, ◌-◌, ◌∷◌, [], ◌++◌, Some, sym, ap, ◌∙◌, drop}
use Rattle.std.specs.Prelude.{codes}
use Rattle.pp_syntax.specs.Lexing.{lexemes_of, lexeme_of}
use Rattle.pp_readers.specs.Expressions.{levels_with, operations, items, separator, pair_with, choice_with, members, expr_at, with_front, with_members}
use Rattle.pp_readers.proofs.Steps.{operation_goes_on, operation_ends, item_goes_on, item_ends, suffix_goes_on, separator_stops, gives_err, member_goes_on, index_step, member_hole, reference_ref}
use Rattle.pp_expression.proofs.expression.+expression.Goals as goal

pub operations-loop-turn-preserved : goal.operations-loop-turn-preserved
operations-loop-turn-preserved t c =
    let ts = lexemes_of c.args.tokens.now in
    let u = levels_with (expr_at c.args.depth) c.args.n in
    ap (λ xs. with_front xs (operations (6 - c.args.n) u (c.args.turns - (c.loop-turn._turn + 1)) (drop c.in_ok-operand.more ts))) c.in_ok-push.ensures.ok
    ∙ sym (operation_goes_on (6 - c.args.n) u c.loop-turn.found c.args.turns c.loop-turn._turn (drop c.loop-turn.rest ts) (drop c.in-Some.behind ts) (drop c.in_ok-operand.more ts) c.in-Some.op c.in_ok-operand.operand
    c.loop-turn-test.true (sym c.in-Some.ensures) c.in_ok-operand.ensures)
    ∙ c.loop-turn.invariant

pub operations-returns-in_default : goal.operations-returns-in_default
operations-returns-in_default t c =
    let ts = lexemes_of c.args.tokens.now in
    sym c.loop-turn.invariant
    ∙ operation_ends (6 - c.args.n) (levels_with (expr_at c.args.depth) c.args.n) c.loop-turn.found c.args.turns c.loop-turn._turn (drop c.loop-turn.rest ts) c.loop-turn-test.true (sym c.in_default.ensures)

pub exprs-loop-turn-preserved : goal.exprs-loop-turn-preserved
exprs-loop-turn-preserved t c =
    let ts = lexemes_of c.args.tokens.now in
    ap (λ xs. with_front xs (items c.args.close.now (expr_at c.args.depth) (c.args.turns - (c.loop-turn._turn + 1)) (drop c.in_ok-ends.more ts))) c.in_ok-push.ensures.ok
    ∙ sym (item_goes_on c.args.close.now (expr_at c.args.depth) c.loop-turn.found c.args.turns c.loop-turn._turn (drop c.loop-turn.rest ts) (drop c.in_ok-item.more ts) (drop c.in_ok-ends.more ts) c.in_ok-item.item
    c.loop-turn-test.true c.in_ok-item.ensures (c.in_ok-ends.ensures ∙ ap (λ b. Some (b, drop c.in_ok-ends.more ts)) c.if-ends.false))
    ∙ c.loop-turn.invariant

pub exprs-returns-then-ends : goal.exprs-returns-then-ends
exprs-returns-then-ends t c =
    let ts = lexemes_of c.args.tokens.now in
    sym c.loop-turn.invariant
    ∙ item_ends c.args.close.now (expr_at c.args.depth) c.loop-turn.found c.args.turns c.loop-turn._turn (drop c.loop-turn.rest ts) (drop c.in_ok-item.more ts) (drop c.in_ok-ends.more ts) c.in_ok-item.item
    c.loop-turn-test.true c.in_ok-item.ensures (c.in_ok-ends.ensures ∙ ap (λ b. Some (b, drop c.in_ok-ends.more ts)) c.if-ends.true)
    ∙ ap (λ xs. Some (xs, drop c.in_ok-ends.more ts)) (sym c.in_ok-push.ensures.ok)

pub exprs-returns-in_err-ends : goal.exprs-returns-in_err-ends
exprs-returns-in_err-ends t c =
    let ts = lexemes_of c.args.tokens.now in
    gives_err (λ x. (x.0, drop x.1 ts)) c.from_residual-in_err-ends.result c.in_err-ends.field-0.0 (separator c.args.close.now (drop c.in_ok-item.more ts)) (items c.args.close.now (expr_at c.args.depth) c.args.turns (drop c.args.from ts))
    c.from_residual-in_err-ends.ensures.1 c.in_err-ends.ensures
    (λ none. sym c.loop-turn.invariant
    ∙ separator_stops c.args.close.now (expr_at c.args.depth) c.loop-turn.found c.args.turns c.loop-turn._turn (drop c.loop-turn.rest ts) (drop c.in_ok-item.more ts) c.in_ok-item.item c.loop-turn-test.true c.in_ok-item.ensures none)

pub pairs-loop-turn-preserved : goal.pairs-loop-turn-preserved
pairs-loop-turn-preserved t c =
    let ts = lexemes_of c.args.tokens.now in
    ap (λ xs. with_front xs (items (codes "}") (pair_with (expr_at c.args.depth)) (c.args.turns - (c.loop-turn._turn + 1)) (drop c.in_ok-ends.more ts))) c.in_ok-push.ensures.ok
    ∙ sym (item_goes_on (codes "}") (pair_with (expr_at c.args.depth)) c.loop-turn.found c.args.turns c.loop-turn._turn (drop c.loop-turn.rest ts) (drop c.in_ok-item.more ts) (drop c.in_ok-ends.more ts) c.in_ok-item.item
    c.loop-turn-test.true c.in_ok-item.ensures (c.in_ok-ends.ensures ∙ ap (λ b. Some (b, drop c.in_ok-ends.more ts)) c.if-ends.false))
    ∙ c.loop-turn.invariant

pub some_choices-loop-turn-preserved : goal.some_choices-loop-turn-preserved
some_choices-loop-turn-preserved t c =
    let ts = lexemes_of c.args.tokens.now in
    ap (λ xs. with_front xs (items (codes "}") (choice_with (expr_at c.args.depth)) (c.args.turns - (c.loop-turn._turn + 1)) (drop c.in_ok-ends.more ts))) c.in_ok-push.ensures.ok
    ∙ sym (item_goes_on (codes "}") (choice_with (expr_at c.args.depth)) c.loop-turn.found c.args.turns c.loop-turn._turn (drop c.loop-turn.rest ts) (drop c.in_ok-item.more ts) (drop c.in_ok-ends.more ts) c.in_ok-item.item
    c.loop-turn-test.true c.in_ok-item.ensures (c.in_ok-ends.ensures ∙ ap (λ b. Some (b, drop c.in_ok-ends.more ts)) c.if-ends.false))
    ∙ c.loop-turn.invariant

pub members-loop-turn-preserved : goal.members-loop-turn-preserved
members-loop-turn-preserved t c =
    let ts = lexemes_of c.args.tokens.now in
    ap (λ xs. with_members xs c.any_of-either.result (members (expr_at c.args.depth) (c.args.turns - (c.loop-turn._turn + 1)) (drop c.in_ok-e.more ts))) c.in_ok-push.ensures.ok
    ∙ ap (λ b. with_members (c.loop-turn.found ++ c.in_ok-e.e ∷ []) b (members (expr_at c.args.depth) (c.args.turns - (c.loop-turn._turn + 1)) (drop c.in_ok-e.more ts))) c.any_of-either.ensures
    ∙ sym (member_goes_on (expr_at c.args.depth) c.loop-turn.found c.loop-turn.part c.args.turns c.loop-turn._turn (drop c.loop-turn.rest ts) (drop c.in_ok-e.more ts) (c.in_ok-e.e, c.in_ok-e.is_part)
    c.loop-turn-test.true (sym c.in_default.ensures) c.in_ok-e.ensures)
    ∙ c.loop-turn.invariant

pub index-returns : goal.index-returns
index-returns t c =
    let ts = lexemes_of c.args.tokens.now in
    index_step (expr_at c.args.depth) c.args.at c.args.base (drop c.args.from ts) (c.in_ok-rest.field-0-0, drop c.in_ok-rest.rest ts) (c.in_ok-key.key, drop c.in_ok-key.rest ts) c.in_ok-rest.ensures c.in_ok-key.ensures
    ∙ ap (λ e. Some (e, drop c.in_ok-key.rest ts)) (sym c.in_ok-e.ensures)

pub member-returns-in_ok-e-in-Hole : goal.member-returns-in_ok-e-in-Hole
member-returns-in_ok-e-in-Hole t c =
    let ts = lexemes_of c.args.tokens.now in
    member_hole (expr_at c.args.depth) (drop c.args.from ts) (lexeme_of c.in-Some.token.now, drop c.in-Some.rest ts) (c.in_ok-e-in-Hole.e, drop c.in_ok-e-in-Hole.rest ts) (sym c.in-Some.ensures.is) c.in-Hole.is c.in_ok-e-in-Hole.ensures

pub reference-returns-in_ok-e-in-Ref : goal.reference-returns-in_ok-e-in-Ref
reference-returns-in_ok-e-in-Ref t c =
    let ts = lexemes_of c.args.tokens.now in
    reference_ref (expr_at c.args.depth) (drop c.args.from ts) (lexeme_of c.in-Some.token.now, drop c.in-Some.rest ts) (c.in_ok-found-in-Ref.found, drop c.in_ok-found-in-Ref.rest ts) (sym c.in-Some.ensures.is) c.in-Ref.is c.in_ok-found-in-Ref.ensures
    ∙ ap (λ e. Some (e, drop c.in_ok-found-in-Ref.rest ts)) (sym c.in_ok-e-in-Ref.ensures)

pub suffixes-loop-turn-preserved : goal.suffixes-loop-turn-preserved
suffixes-loop-turn-preserved t c =
    let ts = lexemes_of c.args.tokens.now in
    sym (suffix_goes_on (expr_at c.args.depth) c.args.at c.args.turns c.loop-turn._turn c.loop-turn.base c.in_ok-next.next (drop c.loop-turn.rest ts) (drop c.in_ok-next.more ts) c.loop-turn-test.true
    (sym c.begins_suffix.ensures ∙ c.if-begins_suffix.true) c.in_ok-next.ensures)
    ∙ c.loop-turn.invariant
