use Rattle.std.proofs.Common.{◌∙◌}
use Rattle.bool_circuit.specs.Gates.{wire_value}
use Rattle.order_encode.proofs.ForkLaws.{either_true}
use Rattle.order_encode.proofs.GrowthLaws.{◌>>◌}
use Rattle.order_encode.proofs.fork.with_pair.Goals as goal

pub returns-clause-found : goal.returns-clause-found
returns-clause-found c = λ v o h free these apart.
    let s1 = c.pair_differs.new.sym in
    c.in_ok-goal.ensures.gives.means v ∙ either_true (wire_value s1 v c.args.goal.now.wire.0) (wire_value s1 v c.in_ok-one.one.0) ((c.in_ok-one.ensures.exact v o h).1 (these, apart))

pub returns-clause-grows : goal.returns-clause-grows
returns-clause-grows c = c.pair_differs.ensures.grows >> c.mux.ensures.grows

pub returns-in_err-goal-clause-grows : goal.returns-in_err-goal-clause-grows
returns-in_err-goal-clause-grows c = c.pair_differs.ensures.grows >> c.mux.ensures.grows
