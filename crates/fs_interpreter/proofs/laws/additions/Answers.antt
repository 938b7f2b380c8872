use Rattle.fs_interpreter.proofs.AdditionLaws.{path_added, keeps_path, content_added, keeps_content}
use Rattle.fs_interpreter.proofs.laws.additions.Goals as goal

pub returns-clause-path : goal.returns-clause-path
returns-clause-path c = path_added

pub returns-clause-paths : goal.returns-clause-paths
returns-clause-paths c = keeps_path

pub returns-clause-content : goal.returns-clause-content
returns-clause-content c = content_added

pub returns-clause-contents : goal.returns-clause-contents
returns-clause-contents c = keeps_content
