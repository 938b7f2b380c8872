use Rattle.std.specs.Prelude.{length}
use Rattle.fs_semantics.specs.Orders.{up_from}
use Rattle.orders.specs.Relation.{comes}
use Rattle.kept_graph.proofs.ContractedLaws.{expanded_counterexample, contracted_deterministic, contracted_counterexample, expanded_exchange}
use Rattle.kept_graph.proofs.contracted.contractions.Goals as goal

pub returns-clause-deterministic : goal.returns-clause-deterministic
returns-clause-deterministic c = λ es proper order p is d contracted.
    let leads = c.pruning.ensures.leads es (comes order) is.moves (up_from 0 (length es)) p.kept is.prunes in
    contracted_deterministic es order p d contracted is (c.pruning.ensures.completed es proper (comes order) is.moves p.kept leads) (c.pruning.ensures.rearranged es proper (comes order) is.moves p.kept leads)

pub returns-clause-counterexample : goal.returns-clause-counterexample
returns-clause-counterexample c = λ es proper order p is d contracted.
    let leads = c.pruning.ensures.leads es (comes order) is.moves (up_from 0 (length es)) p.kept is.prunes in
    contracted_counterexample es order p d contracted is (c.pruning.ensures.completed es proper (comes order) is.moves p.kept leads) (c.pruning.ensures.rearranged es proper (comes order) is.moves p.kept leads)

pub returns-clause-expanded : goal.returns-clause-expanded
returns-clause-expanded c = λ es proper order p is d contracted.
    let leads = c.pruning.ensures.leads es (comes order) is.moves (up_from 0 (length es)) p.kept is.prunes in
    expanded_counterexample es order p d contracted is (c.pruning.ensures.completed es proper (comes order) is.moves p.kept leads)

pub returns-clause-exchange : goal.returns-clause-exchange
returns-clause-exchange c = λ es order p is d contracted.
    let leads = c.pruning.ensures.leads es (comes order) is.moves (up_from 0 (length es)) p.kept is.prunes in
    expanded_exchange es order p d contracted (c.pruning.ensures.some es (comes order) is.moves p.kept leads).once
