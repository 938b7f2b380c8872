use Rattle.assumed_text.proofs.SubjectLaws.{subject_where}
use Rattle.assumed_text.proofs.OneText.{one_text, all_sound}
use Rattle.assumed_text.proofs.laws.assumption_texts.Goals as goal

pub returns-clause-one : goal.returns-clause-one
returns-clause-one c = one_text c.compiled_texts.ensures.references c.package_paths.ensures

pub returns-clause-sound : goal.returns-clause-sound
returns-clause-sound c bytes rows text = all_sound rows text.says.resources text.says.are_assumptions

pub returns-clause-subjects : goal.returns-clause-subjects
returns-clause-subjects c = subject_where c.compiled_texts.ensures.references
