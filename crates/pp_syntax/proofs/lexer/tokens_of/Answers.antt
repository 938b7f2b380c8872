use Rattle.std.proofs.Common.{◌≡◌, None, refl, sym, ap, ◌∙◌}
use Rattle.pp_syntax.specs.Scanning.{gap_at, token_at}
use Rattle.pp_syntax.proofs.Lexed.{gap_cut, token_cut, gap_turn, token_turn, stuck_at, whole_text, unclosed_text, empty_text, some_text, lexical_refusal}
use Rattle.pp_syntax.proofs.lexer.tokens_of.Goals as goal

pub cut-requires : goal.cut-requires
cut-requires c =
    (gap_cut c.loop-rest.place c.loop-rest.rest.now c.in-Some.behind.now c.loop-rest.invariant.utf8 (ap (gap_at c.loop-rest.place) (sym c.as_bytes.ensures.value) ∙ sym c.in-Some.ensures)).0

pub cut-requires-in-Some-token : goal.cut-requires-in-Some-token
cut-requires-in-Some-token c =
    (token_cut c.loop-rest.place c.loop-rest.rest.now c.in-Some-token.kind c.in-Some-token.behind.now c.loop-rest.invariant.utf8
    (ap (token_at c.loop-rest.place) (sym c.as_bytes-in_default.ensures.value) ∙ sym c.in-Some-token.ensures)).0

pub loop-rest-preserved-in-Some : goal.loop-rest-preserved-in-Some
loop-rest-preserved-in-Some c =
    let t = gap_turn c.args.source.now _ c.loop-rest.place c.pass_gap.new.self c.loop-rest.rest.now c.in-Some.behind.now c.cut.result.0.now c.cut.result.1.now c.as_bytes-in-Some.result.now
    c.loop-rest.invariant.utf8 (ap (gap_at c.loop-rest.place) (sym c.as_bytes.ensures.value) ∙ sym c.in-Some.ensures) c.cut.ensures.front c.cut.ensures.back c.as_bytes-in-Some.ensures.value c.pass_gap.ensures
    c.loop-rest.invariant.sizes c.loop-rest.invariant.reads in
    record { reads = t.0; sizes = t.1; utf8 = t.2 }

pub loop-rest-smaller-in-Some : goal.loop-rest-smaller-in-Some
loop-rest-smaller-in-Some c =
    (gap_turn c.args.source.now _ c.loop-rest.place c.pass_gap.new.self c.loop-rest.rest.now c.in-Some.behind.now c.cut.result.0.now c.cut.result.1.now c.as_bytes-in-Some.result.now
    c.loop-rest.invariant.utf8 (ap (gap_at c.loop-rest.place) (sym c.as_bytes.ensures.value) ∙ sym c.in-Some.ensures) c.cut.ensures.front c.cut.ensures.back c.as_bytes-in-Some.ensures.value c.pass_gap.ensures
    c.loop-rest.invariant.sizes c.loop-rest.invariant.reads).3

pub loop-rest-preserved : goal.loop-rest-preserved
loop-rest-preserved c =
    let t = token_turn c.args.source.now c.loop-rest.tokens.items c.add.new.tokens.items _ c.loop-rest.place c.pass.new.self c.in-Some-token.kind c.loop-rest.rest.now c.in-Some-token.behind.now
    c.cut-in-Some-token.result.0.now c.cut-in-Some-token.result.1.now c.as_bytes-in-Some-token.result.now
    c.loop-rest.invariant.utf8 (ap (token_at c.loop-rest.place) (sym c.as_bytes-in_default.ensures.value) ∙ sym c.in-Some-token.ensures) c.cut-in-Some-token.ensures.front c.cut-in-Some-token.ensures.back
    c.as_bytes-in-Some-token.ensures.value c.in_ok-pass.ensures c.in_ok-add.ensures refl c.loop-rest.invariant.sizes c.loop-rest.invariant.reads in
    record { reads = t.0; sizes = t.1; utf8 = t.2 }

pub loop-rest-smaller : goal.loop-rest-smaller
loop-rest-smaller c =
    (token_turn c.args.source.now c.loop-rest.tokens.items c.add.new.tokens.items _ c.loop-rest.place c.pass.new.self c.in-Some-token.kind c.loop-rest.rest.now c.in-Some-token.behind.now
    c.cut-in-Some-token.result.0.now c.cut-in-Some-token.result.1.now c.as_bytes-in-Some-token.result.now
    c.loop-rest.invariant.utf8 (ap (token_at c.loop-rest.place) (sym c.as_bytes-in_default.ensures.value) ∙ sym c.in-Some-token.ensures) c.cut-in-Some-token.ensures.front c.cut-in-Some-token.ensures.back
    c.as_bytes-in-Some-token.ensures.value c.in_ok-pass.ensures c.in_ok-add.ensures refl c.loop-rest.invariant.sizes c.loop-rest.invariant.reads).3

pub returns-in_default-token-clause-refused : goal.returns-in_default-token-clause-refused
returns-in_default-token-clause-refused c =
    let none : gap_at c.loop-rest.place c.loop-rest.rest.now ≡ None = ap (gap_at c.loop-rest.place) (sym c.as_bytes.ensures.value) ∙ sym c.in_default.ensures in
    let no_token : token_at c.loop-rest.place c.loop-rest.rest.now ≡ None = ap (token_at c.loop-rest.place) (sym c.as_bytes-in_default.ensures.value) ∙ sym c.in_default-token.ensures in
    lexical_refusal c.args.source.now c.loop-rest.place.at c.refused.result
    (stuck_at c.args.source.now _ c.loop-rest.place c.loop-rest.rest.now (some_text c.loop-rest.rest.now (sym c.is_empty.ensures ∙ c.loop-rest-test.true)) none no_token c.loop-rest.invariant.reads) c.refused.ensures

pub returns-in-None-clause-spelled : goal.returns-in-None-clause-spelled
returns-in-None-clause-spelled c =
    whole_text c.args.source.now _ c.loop-rest.place c.loop-rest.rest.now (empty_text c.loop-rest.rest.now (sym c.is_empty.ensures ∙ c.loop-rest-test.false)) c.loop-rest.invariant.reads (sym c.in-None.ensures)

pub returns-clause-refused : goal.returns-clause-refused
returns-clause-refused c =
    lexical_refusal c.args.source.now c.in-Some-unclosed.at c.refused-in-Some-unclosed.result
    (unclosed_text c.args.source.now _ c.loop-rest.place c.loop-rest.rest.now c.in-Some-unclosed.at (empty_text c.loop-rest.rest.now (sym c.is_empty.ensures ∙ c.loop-rest-test.false)) c.loop-rest.invariant.reads (sym c.in-Some-unclosed.ensures))
    c.refused-in-Some-unclosed.ensures
