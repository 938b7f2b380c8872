use Rattle.std.proofs.Common.{length, refl, arith}
use Rattle.std.proofs.lemmas.Option.{slice_get_read}
use Rattle.trimmed_proofs.proofs.MarkLaws.{marked_skip, marked_more}
use Rattle.trimmed_proofs.proofs.marks.mark_from.Goals as goal

pub returns-then-marks-i : goal.returns-then-marks-i
returns-then-marks-i c =
    marked_more c.args.count c.args.steps.now c.args.i c.args.marks.now c.mark_named.new.marks c.index-steps-i.result
    (slice_get_read c.args.steps.now (length c.args.steps.now) c.args.i c.index-steps-i.result refl (omega arith) c.index-steps-i.is) c.requires.earlier c.requires.so_far c.if-marks-i.true c.mark_named.ensures

pub returns-else-marks-i : goal.returns-else-marks-i
returns-else-marks-i c = marked_skip c.args.count c.args.steps.now c.args.i c.args.marks.now c.requires.so_far c.if-marks-i.false
