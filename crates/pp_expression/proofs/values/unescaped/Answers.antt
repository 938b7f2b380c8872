use Rattle.std.proofs.Common.{◌++◌, ap, ◌∙◌, rules, string_bytes}
use Rattle.std.specs.Prelude.{encode_utf8}
use Rattle.pp_readers.proofs.Escapes.{one_escape}
use Rattle.pp_expression.proofs.values.unescaped.Goals as goal

pub loop-front-preserved : goal.loop-front-preserved
loop-front-preserved c = record {
  is = one_escape (string_bytes c.loop-front.value) (string_bytes c.push.new.self) c.args.raw.now c.loop-front.rest.now c.in-Some.front.now c.in-Some.tail.now c.escape_sq-c.result.1.now c.escape_sq-c.result.0
      c.loop-front.invariant.is c.in-Some.ensures.0 c.in-Some.ensures.1 c.escape_sq-c.ensures.value
      (c.in_ok-push.ensures.bytes ∙ ap (λ x. x ++ encode_utf8 c.escape_sq-c.result.0) c.in_ok-push_str.ensures.bytes
      ∙ ap (λ e. (string_bytes c.loop-front.value ++ c.in-Some.front.now) ++ e) (c.in_ok-push.ensures.ascii c.escape_sq-c.ensures.ascii));
  text = search rules;
}
