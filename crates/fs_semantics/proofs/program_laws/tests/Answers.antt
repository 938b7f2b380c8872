use Rattle.std.proofs.Common.{refl}
use Rattle.fs_semantics.proofs.Words.{not_holds, and_holds, or_holds, file_at, link_at, folder_at, empty_at, free_at}
use Rattle.fs_semantics.proofs.program_laws.tests.Goals as goal

pub returns : goal.returns
returns c = record {
  certain = λ t. refl;
  never = λ t h. cc;
  not = not_holds;
  and = and_holds;
  or = or_holds;
  file = λ p t. file_at t p;
  link = λ p t. link_at t p;
  folder = λ p t. folder_at t p;
  empty = λ p t. empty_at t p;
  free = λ p t. free_at t p;
}
