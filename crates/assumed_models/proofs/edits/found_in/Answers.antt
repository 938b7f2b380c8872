use Rattle.assumed_models.proofs.EditLaws.{all_noted}
use Rattle.assumed_models.proofs.edits.found_in.Goals as goal

pub returns : goal.returns
returns c =
    all_noted c.path_texts.ensures.same c.paths.ensures.same c.loop-edit.found c.loop-edit.place c.loop-edit.edit-index c.args.edits.now c.loop-edit-test.false c.loop-edit.invariant.0 c.loop-edit.invariant.2
