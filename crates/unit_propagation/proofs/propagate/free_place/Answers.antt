use Rattle.std.proofs.Common.{get_or, arith}
use Rattle.unit_propagation.proofs.Marks.{has_at}
use Rattle.unit_propagation.proofs.propagate.free_place.Goals as goal

pub is_false-is_false-requires : goal.is_false-is_false-requires
is_false-is_false-requires c = c.requires (get_or c.args.lits.now c.loop-k.k 0) (has_at c.args.lits.now c.loop-k.k (omega arith))
