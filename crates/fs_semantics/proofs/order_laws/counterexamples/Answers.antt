use Rattle.fs_semantics.specs.Orders.{Told}
use Rattle.fs_semantics.proofs.Refuted.{deterministic_exactly, idempotent_exactly, fails_exactly}
use Rattle.fs_semantics.proofs.order_laws.counterexamples.Goals as goal

pub returns : goal.returns
returns c = record {
  deterministic = λ es before. deterministic_exactly es (Told before);
  idempotent = λ es before proper sure. idempotent_exactly es (Told before) proper sure;
  fails = λ es before. fails_exactly es (Told before);
}
