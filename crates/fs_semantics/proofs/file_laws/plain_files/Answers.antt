use Rattle.fs_semantics.specs.Orders.{Told}
use Rattle.fs_semantics.proofs.PlainFiles.{plain_deterministic, plain_idempotent}
use Rattle.fs_semantics.proofs.Ground.{plain_succeeds}
use Rattle.fs_semantics.proofs.file_laws.plain_files.Goals as goal

pub returns : goal.returns
returns c = record {
  deterministic = λ files before plain. plain_deterministic files (Told before) plain;
  idempotent = λ files before plain. plain_idempotent files (Told before) plain;
  succeeds = λ files before o plain allowed. plain_succeeds files (Told before) o plain allowed;
}
