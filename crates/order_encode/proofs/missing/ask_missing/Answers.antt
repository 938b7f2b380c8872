use Rattle.std.proofs.Common.{map, ◌∙◌}
use Rattle.std.proofs.lemmas.Result.{IfOk-weaker}
use Rattle.std.proofs.lemmas.List.{length-map}
use Rattle.fs_lang.specs.Meaning.{program_of}
use Rattle.fs_interpreter.proofs.Frames.{cells_stay}
use Rattle.order_encode.specs.Missing.{EndsMissing}
use Rattle.order_encode.specs.Witnesses.{IsFirstExtension}
use Rattle.order_encode.proofs.GoalLaws.{if_ok_both}
use Rattle.order_encode.proofs.ExtensionLaws.{asks_order, readable, tree_exact, tree_shown}
use Rattle.order_encode.proofs.MissingLaws.{missing_exact, missing_shown}
use Rattle.order_encode.proofs.missing.ask_missing.Goals as goal

pub pose-requires-clause-cells : goal.pose-requires-clause-cells
pose-requires-clause-cells c = cells_stay _ _ _ c.goal_of_missing.ensures.grows c.in_ok-sym.ensures.trees.are_cells

pub pose-requires-clause-readable : goal.pose-requires-clause-readable
pose-requires-clause-readable c =
    readable (asks_order (λ o. EndsMissing (map program_of c.args.programs.now) o c.args.wanted.now) c.as_slice.ensures c.in_ok-sym.ensures.trees c.in_ok-sym.ensures.every c.goal_of_missing.ensures.grows c.in_ok-wire.ensures.exact) (λ v. tt)

pub returns-clause-exact : goal.returns-clause-exact
returns-clause-exact c =
    let asks = asks_order (λ o. EndsMissing (map program_of c.args.programs.now) o c.args.wanted.now) c.as_slice.ensures c.in_ok-sym.ensures.trees c.in_ok-sym.ensures.every c.goal_of_missing.ensures.grows c.in_ok-wire.ensures.exact in
    let is_first : IsFirstExtension c.args.order.now c.in_ok-first.first = record { allowed = c.in_ok-first.ensures.allowed; least = c.in_ok-first.ensures.least } in
    let same = length-map c.args.programs.now program_of ∙ c.requires.nodes in
    IfOk-weaker c.pose.result _ _
    (λ q states. missing_exact _ c.args.order.now c.args.domain.now c.args.wanted.now c.in_ok-first.first is_first same c.allowed_orders.ensures.long (tree_exact asks q.formula states)) c.pose.ensures.states

pub returns-clause-models : goal.returns-clause-models
returns-clause-models c =
    let asks = asks_order (λ o. EndsMissing (map program_of c.args.programs.now) o c.args.wanted.now) c.as_slice.ensures c.in_ok-sym.ensures.trees c.in_ok-sym.ensures.every c.goal_of_missing.ensures.grows c.in_ok-wire.ensures.exact in
    let is_first : IsFirstExtension c.args.order.now c.in_ok-first.first = record { allowed = c.in_ok-first.ensures.allowed; least = c.in_ok-first.ensures.least } in
    let same = length-map c.args.programs.now program_of ∙ c.requires.nodes in
    if_ok_both _ _ _ c.pose.result
    (λ q states holds w can. missing_shown _ c.args.order.now c.args.domain.now c.args.wanted.now c.in_ok-first.first is_first same w (tree_shown asks c.states.ensures.outcome q holds states w can))
    c.pose.ensures.states c.pose.ensures.holds
