use Rattle.std.proofs.Common.{map, get_or, refl}
use Rattle.fs_lang.specs.Meaning.{program_of}
use Rattle.assumed_models.specs.Edits.{edits_beside, marks_in, edits_at}
use Rattle.assumed_models.specs.LostEdits.{drops}
use Rattle.assumed_models.proofs.EditLaws.{next_drop}
use Rattle.assumed_models.proofs.edits.drops_at.Goals as goal

pub loop-i-preserved : goal.loop-i-preserved
loop-i-preserved c =
    next_drop c.args.place c.args.edits.now c.args.places.now c.loop-i.i-index (get_or c.args.places.now c.loop-i.i-index 0) 0 (map program_of c.loop-i.steps) (map program_of c.push_drop_at.new.steps)
    (drops (marks_in (edits_beside c.args.place (edits_at c.args.edits.now c.args.places.now)))) c.loop-i-test.true refl c.in_ok-push_drop_at.ensures c.loop-i.invariant
