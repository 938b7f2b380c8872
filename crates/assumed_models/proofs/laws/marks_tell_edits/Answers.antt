use Rattle.assumed_models.proofs.MarkLaws.{marks_tell}
use Rattle.assumed_models.proofs.laws.marks_tell_edits.Goals as goal

pub returns : goal.returns
returns c = marks_tell c.path_texts.ensures.same c.segments_of_names.ensures
