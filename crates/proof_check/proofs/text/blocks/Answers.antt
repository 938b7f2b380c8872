use Rattle.std.proofs.Common.{◌-◌, ◌+◌, map, sym, ap, ◌∙◌}
use Rattle.proof_check.specs.Refuted.{refutation}
use Rattle.proof_check.specs.WordReading.{with_front, blocks_in}
use Rattle.proof_check.proofs.Turns.{blocks_goes}
use Rattle.proof_check.proofs.Spelling.{map_more}
use Rattle.proof_check.proofs.text.blocks.Goals as goal

pub loop-i-preserved : goal.loop-i-preserved
loop-i-preserved c =
    ap (λ xs. with_front (map refutation xs) (blocks_in (c.args.count - (c.loop-i.i + 1)) c.block.new.words)) c.in_ok-add.ensures
    ∙ ap (λ xs. with_front xs (blocks_in (c.args.count - (c.loop-i.i + 1)) c.block.new.words)) (map_more refutation c.loop-i.found.items c.in_ok-block.block)
    ∙ sym (blocks_goes (map refutation c.loop-i.found.items) c.args.count c.loop-i.i c.loop-i.words c.block.new.words (refutation c.in_ok-block.block) c.loop-i-test.true c.in_ok-block.ensures)
    ∙ c.loop-i.invariant
