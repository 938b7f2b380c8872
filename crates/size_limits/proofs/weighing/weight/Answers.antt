use Rattle.std.proofs.Common.{◌*◌, length, refl}
use Rattle.size_limits.specs.Weights.{capped, count_in, child_count}
use Rattle.size_limits.proofs.WeightLaws.{weighed}
use Rattle.size_limits.proofs.weighing.weight.Goals as goal

pub returns : goal.returns
returns c = record {
  named = c.in_ok-paths.paths.keys;
  in_order = c.in_ok-counts.ensures.in_order;
  named_are = c.in_ok-paths.ensures;
  weight = weighed c.args.programs.now (count_in c.in_ok-counts.counts) (child_count c.in_ok-paths.paths.keys) c.weigh_all-work.result (capped (length c.args.programs.now * 2)) c.product.result
      c.in_ok-counts.ensures.counts c.weigh_all-work.ensures refl c.product.ensures;
}
