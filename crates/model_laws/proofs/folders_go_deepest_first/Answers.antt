use Rattle.model_laws.proofs.FolderLaws.{falling, in_order}
use Rattle.model_laws.proofs.folders_go_deepest_first.Goals as goal

pub returns-clause-falling : goal.returns-clause-falling
returns-clause-falling c = falling

pub returns-clause-in_order : goal.returns-clause-in_order
returns-clause-in_order c folders n = in_order n folders
