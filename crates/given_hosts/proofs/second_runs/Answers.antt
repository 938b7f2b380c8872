use Rattle.given_hosts.proofs.SecondRuns.{exact, kept, after_one, one_changes}
use Rattle.given_hosts.proofs.second_runs.Goals as goal

pub returns : goal.returns
returns c = record {
  exact = exact;
  kept = kept;
  after_first = after_one;
  shown = one_changes;
}
