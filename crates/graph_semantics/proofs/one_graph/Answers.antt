use Rattle.graph_semantics.proofs.OneGraph.{places, pairs, refusals}
use Rattle.graph_semantics.proofs.one_graph.Goals as goal

pub returns-clause-places : goal.returns-clause-places
returns-clause-places c = places

pub returns-clause-pairs : goal.returns-clause-pairs
returns-clause-pairs c = pairs

pub returns-clause-refusals : goal.returns-clause-refusals
returns-clause-refusals c = refusals
