use Rattle.std.proofs.Common.{ap, length, arith}
use Rattle.pp_value.proofs.Distinct.{all_copied}
use Rattle.pp_value.proofs.value.+copy.Goals as goal

pub copy_pairs-returns : goal.copy_pairs-returns
copy_pairs-returns t c =
    all_copied c.loop-pair.copies c.args.pairs.now c.loop-pair.pair-index (omega (arith, c.loop-pair-test.false, ap length c.as_slice-pair-items.ensures.pairs)) c.loop-pair.invariant c.as_slice-pair-items.ensures.distinct
