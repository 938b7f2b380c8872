use Rattle.fs_semantics.specs.Orders.{Told}
use Rattle.settled_groups.proofs.GroupLaws.{second_run}
use Rattle.settled_groups.proofs.settled_groups.Goals as goal

pub returns : goal.returns
returns c = record {
  idempotent = λ es before proper sure groups allowed settle commute. second_run es (Told before) proper sure groups allowed settle commute;
}
