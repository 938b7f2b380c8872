use Rattle.std.proofs.Common.{map}
use Rattle.std.proofs.lemmas.Result.{IfOk-weaker}
use Rattle.fs_lang.specs.Meaning.{program_of}
use Rattle.fs_interpreter.proofs.Frames.{cells_stay}
use Rattle.order_encode.specs.Parting.{EndDifferently}
use Rattle.order_encode.proofs.GoalLaws.{if_ok_both}
use Rattle.order_encode.proofs.ExtensionLaws.{asks_order, readable, tree_exact, tree_shown}
use Rattle.order_encode.proofs.PartingLaws.{parting_exact, parting_shown}
use Rattle.order_encode.proofs.parting.ask_parting.Goals as goal

pub pose-requires-clause-cells : goal.pose-requires-clause-cells
pose-requires-clause-cells c = cells_stay _ _ _ c.goal_of_parting.ensures.grows c.in_ok-sym.ensures.trees.are_cells

pub pose-requires-clause-readable : goal.pose-requires-clause-readable
pose-requires-clause-readable c =
    readable (asks_order (λ o. EndDifferently (map program_of c.args.left.now) o (map program_of c.args.right.now) c.args.other.now) c.as_slice.ensures c.in_ok-sym.ensures.trees c.in_ok-sym.ensures.every c.goal_of_parting.ensures.grows c.in_ok-wire.ensures.exact) (λ v. tt)

pub returns-clause-exact : goal.returns-clause-exact
returns-clause-exact c =
    let es = map program_of c.args.left.now in
    let fs = map program_of c.args.right.now in
    let asks = asks_order (λ o. EndDifferently es o fs c.args.other.now) c.as_slice.ensures c.in_ok-sym.ensures.trees c.in_ok-sym.ensures.every c.goal_of_parting.ensures.grows c.in_ok-wire.ensures.exact in
    IfOk-weaker c.pose.result _ _ (λ q states. parting_exact es c.args.order fs c.args.other.now c.args.domain.now (tree_exact asks q.formula states)) c.pose.ensures.states

pub returns-clause-models : goal.returns-clause-models
returns-clause-models c =
    let es = map program_of c.args.left.now in
    let fs = map program_of c.args.right.now in
    let asks = asks_order (λ o. EndDifferently es o fs c.args.other.now) c.as_slice.ensures c.in_ok-sym.ensures.trees c.in_ok-sym.ensures.every c.goal_of_parting.ensures.grows c.in_ok-wire.ensures.exact in
    if_ok_both _ _ _ c.pose.result
    (λ q states holds w can. parting_shown es c.args.order fs c.args.other.now c.args.domain.now w (tree_shown asks c.states.ensures.outcome q holds states w can))
    c.pose.ensures.states c.pose.ensures.holds
