use Rattle.fs_semantics.specs.Orders.{Told}
use Rattle.given_hosts.proofs.NoneGiven.{deterministic, idempotent, succeeds, counterexample, second_run}
use Rattle.given_hosts.proofs.none_given.Goals as goal

pub returns : goal.returns
returns c = record {
  deterministic = λ es before. deterministic es (Told before);
  idempotent = λ es before. idempotent es (Told before);
  succeeds = λ es before. succeeds es (Told before);
  counterexample = λ es before t o p. counterexample es (Told before) t o p;
  second_run = λ es before t o. second_run es (Told before) t o;
}
