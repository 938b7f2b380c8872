use Rattle.std.proofs.Common.{Some, refl, ap}
use Rattle.fs_semantics.specs.FileTree.{Folder, File, Link}
use Rattle.fs_semantics.proofs.Words.{made_word, removed_word, copied_word, steps_word, if_word}
use Rattle.fs_semantics.proofs.program_laws.changes.Goals as goal

pub returns : goal.returns
returns c = record {
  id = λ t u. ((λ h. cc), (λ e. ap (λ v. Some v) e));
  err = λ t. refl;
  mkdir = λ p t u. made_word p Folder t u;
  creat = λ p content t u. made_word p (File content) t u;
  link = λ p target t u. made_word p (Link target) t u;
  rm = removed_word;
  cp = copied_word;
  no_steps = λ t u. ((λ h. cc), (λ e. ap (λ v. Some v) e));
  steps = steps_word;
  choice = if_word;
}
