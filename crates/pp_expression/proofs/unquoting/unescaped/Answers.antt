use Rattle.std.proofs.Common.{◌++◌, sym, ap, ◌∙◌, rules, string_bytes}
use Rattle.std.specs.Prelude.{encode_utf8}
use Rattle.pp_readers.specs.Values.{dq, with_bytes}
use Rattle.pp_readers.proofs.Digits.{dq_escape}
use Rattle.pp_expression.proofs.unquoting.unescaped.Goals as goal

pub loop-front-preserved : goal.loop-front-preserved
loop-front-preserved c = record {
  is = ap (λ u. with_bytes u (dq c.in-Some-escape.more.now)) (c.in_ok-push.ensures ∙ ap (λ u. u ++ encode_utf8 c.in-Some-escape.c) c.in_ok-push_str.ensures)
      ∙ sym (dq_escape (string_bytes c.loop-front.value) c.loop-front.rest.now c.in-Some.front.now c.in-Some.tail.now c.in-Some-escape.more.now c.in-Some-escape.c c.in-Some.ensures.0 c.in-Some.ensures.1 c.in-Some-escape.ensures.value)
      ∙ c.loop-front.invariant.is;
  text = search rules;
}
