use Rattle.std.proofs.Common.{List, Some, map, subst, ◌∙◌}
use Rattle.std.proofs.lemmas.Result.{IfOk-weaker}
use Rattle.std.specs.Prelude.{IfOk}
use Rattle.std.proofs.lemmas.List.{length-map}
use Rattle.bool_circuit.specs.declared.gate.Gate.{Gate}
use Rattle.cnf.specs.Formulas.{IsSatisfiable}
use Rattle.cnf.specs.Encoding.{StatesGoal}
use Rattle.fs_lang.specs.Meaning.{program_of}
use Rattle.order_encode.specs.Goals.{ApartBelow}
use Rattle.order_encode.proofs.ExtensionLaws.{AsksOfTrees, tree_exact}
use Rattle.order_encode.proofs.PairLaws.{pair_is}
use Rattle.order_encode.proofs.pairs.ask_pairs.Goals as goal

pub returns : goal.returns
returns c =
    let d = c.args.domain.now in
    let es = map program_of c.args.programs.now in
    let order = c.args.order.now in
    let start = c.in_ok-sym in
    let asks : AsksOfTrees d start.sym c.goal_of_pairs.new.sym start.cells start.well c.in_ok-asked.asked.wire (λ t. ApartBelow es order (Some t) order.count) = record {
      trees = start.ensures.trees;
      every = start.ensures.every;
      grows = c.goal_of_pairs.ensures.grows;
      exact = c.in_ok-asked.ensures.exact;
    } in
    IfOk-weaker c.from_circuit_with.result _ _ (λ r states. pair_is es order d (IsSatisfiable r.0) (length-map c.args.programs.now program_of ∙ c.requires.nodes) (tree_exact asks r.0 states))
    (subst (λ (g : List Gate). IfOk c.from_circuit_with.result (λ r. StatesGoal g c.in_ok-asked.asked.wire.0 r.0)) c.circuit.ensures c.from_circuit_with.ensures.states)
