use Rattle.std.proofs.Common.{◌^◌, ◌≤◌, List, map, subst, ◌∙◌, arith}
use Rattle.std.proofs.lemmas.Result.{IfOk-weaker}
use Rattle.std.proofs.lemmas.List.{length-map}
use Rattle.bool_circuit.specs.declared.gate.Gate.{Gate}
use Rattle.cnf.specs.Encoding.{inputs_in}
use Rattle.fs_lang.specs.Meaning.{program_of}
use Rattle.fs_interpreter.proofs.Frames.{cells_stay}
use Rattle.order_circuit.proofs.RunLaws.{rows_stay}
use Rattle.order_encode.specs.Asked.{Asked, Shows}
use Rattle.order_encode.proofs.GoalLaws.{if_ok_both}
use Rattle.order_encode.proofs.OrderLaws.{order_readable, order_exact, order_models}
use Rattle.order_encode.proofs.order.ask_order.Goals as goal

pub pose-requires-clause-cells : goal.pose-requires-clause-cells
pose-requires-clause-cells c = let asks = c.in_ok-inputs.ensures.asks in cells_stay _ _ _ asks.grows asks.asking.trees.are_cells

pub pose-requires-clause-places : goal.pose-requires-clause-places
pose-requires-clause-places c = c.in_ok-inputs.ensures.asks.asking.trees.places

pub pose-requires-clause-codes : goal.pose-requires-clause-codes
pose-requires-clause-codes c =
    let asks = c.in_ok-inputs.ensures.asks in
    let is = asks.asking in
    let inputs = c.in_ok-inputs.inputs in
    (rows_stay asks.before c.asked_order.new.sym inputs.codes asks.grows is.codes, asks.grows.owns_code inputs.place is.place)

pub pose-requires-clause-readable : goal.pose-requires-clause-readable
pose-requires-clause-readable c = λ v h.
    let order = c.args.order.now in
    let d = c.args.domain.now in
    let asks = c.in_ok-inputs.ensures.asks in
    let s1 = asks.before in
    let inputs = c.in_ok-inputs.inputs in
    let is = asks.asking in
    let small : order.count ≤ 2 ^ 32 = omega (arith, c.count-nodes.ensures.count) in
    order_readable c.allowed_orders.ensures.exact (map program_of c.args.programs.now) order d s1 c.asked_order.new.sym inputs v c.count-nodes.ensures.ordered small is asks.grows ((asks.exact v).0 h)

pub returns : goal.returns
returns c =
    let order = c.args.order.now in
    let d = c.args.domain.now in
    let asks = c.in_ok-inputs.ensures.asks in
    let s1 = asks.before in
    let inputs = c.in_ok-inputs.inputs in
    let is = asks.asking in
    let same = length-map c.args.programs.now program_of ∙ c.requires.nodes in
    record {
      exact = IfOk-weaker c.pose.result _ _ (λ q states.
          order_exact c.allowed_orders.ensures.exact c.allowed_orders.ensures.long c.exchanges.ensures.found c.exchanges.ensures.placed c.neighbours.ensures.exchange (map program_of c.args.programs.now) order d s1 c.asked_order.new.sym inputs c.in_ok-inputs.asked.wire q.formula c.count-nodes.ensures.ordered same is asks.exact states) c.pose.ensures.states;
      models = if_ok_both _ _ _ c.pose.result (λ q states holds w told.
          let u = told.0 in
          let seen = subst (λ (x : Asked (List Gate)). Shows x (inputs_in u) w) holds told.2 in
          order_models c.states.ensures.outcome c.allowed_orders.ensures.exact c.exchanges.ensures.found (map program_of c.args.programs.now) order d s1 c.asked_order.new.sym inputs c.in_ok-inputs.asked.wire q.formula c.count-nodes.ensures.ordered same is asks.grows asks.exact states u told.1 w seen) c.pose.ensures.states c.pose.ensures.holds;
    }
