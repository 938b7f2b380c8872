use Rattle.given_hosts.proofs.GraphLaws.{deterministic, idempotent, succeeds, counterexample, exchange, ends_with, equal}
use Rattle.given_hosts.proofs.guarded_graphs.Goals as goal

pub returns : goal.returns
returns c = record {
  deterministic = deterministic;
  idempotent = idempotent;
  succeeds = succeeds;
  counterexample = counterexample;
  exchange = exchange;
  ends = ends_with;
  equal = equal;
}
