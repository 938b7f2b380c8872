use Rattle.kept_graph.proofs.KeptLaws.{counterexamples, deterministic}
use Rattle.kept_graph.proofs.kept.kept_graphs.Goals as goal

pub returns : goal.returns
returns c = record { counterexamples = counterexamples; deterministic = deterministic }
