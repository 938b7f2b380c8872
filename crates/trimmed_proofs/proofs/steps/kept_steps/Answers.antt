use Rattle.std.proofs.Common.{refl, arith}
use Rattle.trimmed_proofs.specs.Marks.{new_number, kept}
use Rattle.trimmed_proofs.proofs.KeptLaws.{kept_more}
use Rattle.trimmed_proofs.proofs.steps.kept_steps.Goals as goal

pub loop-i-preserved : goal.loop-i-preserved
loop-i-preserved c =
    let ren = new_number c.args.count c.args.numbers.now in
    kept_more ren c.args.steps.now c.loop-i.left c.push_marked.new.left (kept ren c.args.steps.now c.args.marks.now) c.args.marks.now c.loop-i.i c.index-steps-i.result _
    (omega arith) c.requires c.index-steps-i.is refl c.in_ok-push_marked.ensures c.loop-i.invariant
