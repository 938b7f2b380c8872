use Rattle.std.proofs.Common.{◌<◌, ℕ, subst, refl, ◌∙◌, arith}
use Rattle.std.specs.Prelude.{◌↔◌}
use Rattle.std.proofs.lemmas.List.{take_all}
use Rattle.finite_domain.specs.Layouts.{stem}
use Rattle.path_domain.specs.Laid.{Starts}
use Rattle.path_domain.proofs.StemLaws.{Begins, start_none, start_more}
use Rattle.path_domain.proofs.stems.start_of.Goals as goal

pub loop-i-init : goal.loop-i-init
loop-i-init c = start_none _ refl

pub loop-i-preserved : goal.loop-i-preserved
loop-i-preserved c =
    start_more c.args.table.now.contents c.loop-i.i c.content-c.result.now c.loop-i.start c.stems_of.result c.larger-start.result c.content-c.ensures c.loop-i.invariant
    (subst (λ t. (n : ℕ) → (n < c.stems_of.result) ↔ Begins t (stem n)) (c.as_bytes.ensures.value ∙ c.as_str.ensures) c.stems_of.ensures) c.larger-start.ensures.left c.larger-start.ensures.right c.larger-start.ensures.one

pub returns : goal.returns
returns c = subst (Starts c.loop-i.start) (take_all c.loop-i.i c.args.table.now.contents (omega (arith, c.loop-i-test.false, c.content_count-i-end.ensures))) c.loop-i.invariant
