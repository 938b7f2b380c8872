use Rattle.std.proofs.Common.{rules}
use Rattle.fs_lang.proofs.NameLaws.{next_replaced}
use Rattle.std.proofs.Common.{◌++◌, ap, ◌∙◌}
use Rattle.assumed_models.proofs.marks.replaced.Goals as goal

pub loop-front-preserved : goal.loop-front-preserved
loop-front-preserved c = record {
  is = next_replaced c.args.c c.args.other.now c.loop-front.made c.push-in-Some.new.self c.loop-front.rest.now c.in-Some.front.now c.in-Some.tail.now c.in-Some.ensures.0 c.in-Some.ensures.1 (c.in_ok-push-2.ensures.ok ∙ ap (λ l. l ++ c.args.other.now) c.in_ok-push.ensures.ok) ∙ c.loop-front.invariant.is;
  text = search rules;
}
