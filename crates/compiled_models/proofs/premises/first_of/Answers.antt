use Rattle.std.proofs.Common.{◌+◌, sym, ◌∙◌, arith}
use Rattle.compiled_models.proofs.PlacedLaws.{past_first}
use Rattle.compiled_models.proofs.premises.first_of.Goals as goal

pub loop-k-preserved : goal.loop-k-preserved
loop-k-preserved c = past_first c.args.place c.loop-k.k (c.loop-k.k + 1) _ c.args.places.now c.args.rows.now (omega arith) c.loop-k-test.true c.requires (sym c.is_at.ensures ∙ c.if-is_at.false) ∙ c.loop-k.invariant
