use Rattle.std.proofs.Common.{rules, ap, ◌∙◌, refl, arith}
use Rattle.path_domain.proofs.StemLaws.{numbers_none, number_more, all_numbers}
use Rattle.path_domain.proofs.stems.add_numbered.Goals as goal

pub loop-i-init : goal.loop-i-init
loop-i-init c = record { paths = refl; contents = numbers_none c.args.start.now c.args.table.now.contents c.args.table.now.contents refl }

pub loop-i-preserved : goal.loop-i-preserved
loop-i-preserved c = record {
  paths = ap (λ t. t.paths) c.in_ok-add_content.ensures.ok ∙ c.loop-i.invariant.paths;
  contents = ap (λ t. t.contents) c.in_ok-add_content.ensures.ok
      ∙ number_more c.args.start.now c.loop-i.i c.args.table.now.contents c.loop-i.table.contents _ (search rules) c.loop-i.invariant.contents c.in_ok-numbered.ensures (c.requires c.loop-i.i);
}

pub returns-clause-contents : goal.returns-clause-contents
returns-clause-contents c =
    all_numbers c.args.start.now c.loop-i.i c.args.table.now.paths c.loop-i.table.contents c.args.table.now.contents (omega (arith, c.loop-i-test.false, c.path_count-count.ensures, c.loop-i.auto.i-end)) c.loop-i.invariant.contents
