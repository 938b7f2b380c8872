use Rattle.std.proofs.Common.{inl, map, subst₂, refl}
use Rattle.fs_lang.specs.Meaning.{program_of}
use Rattle.orders.specs.Relation.{Comes}
use Rattle.determinism.specs.Answers.{AnswersOrder}
use Rattle.determinism.proofs.JudgeLaws.{pruned, judged_proved, judged_spent, states_kept, lent_difference}
use Rattle.determinism.proofs.QuestionLaws.{has_two}
use Rattle.determinism.proofs.judging.judge_kept.Goals as goal

pub two_orders-tree-requires : goal.two_orders-tree-requires
two_orders-tree-requires c =
    let kept = c.args.kept.now in
    let shown = subst₂ (λ ps a. AnswersOrder (map program_of ps) kept.order c.args.budget a) c.as_slice.ensures c.in-Shown.is c.in_ok-answer.ensures in
    has_two (map program_of kept.programs) (Comes kept.order) c.in-Shown.witness shown

pub judge_found-requires-clause-counterexample : goal.judge_found-requires-clause-counterexample
judge_found-requires-clause-counterexample c =
    let kept = c.args.kept.now in
    let shown = subst₂ (λ ps a. AnswersOrder (map program_of ps) kept.order c.args.budget a) c.as_slice.ensures c.in-Shown.is c.in_ok-answer.ensures in
    (lent_difference (map program_of kept.programs) (Comes kept.order) c.in-Shown.witness c.two_orders-tree.result.0 c.two_orders-tree.result.1 c.two_orders-tree.result.2 c.as_slice-in-Shown.result.now c.as_slice-in-Shown-2.result.now
    shown c.two_orders-tree.ensures c.as_slice-in-Shown.ensures c.as_slice-in-Shown-2.ensures).0

pub judge_found-requires-clause-exchange : goal.judge_found-requires-clause-exchange
judge_found-requires-clause-exchange c =
    let kept = c.args.kept.now in
    let shown = subst₂ (λ ps a. AnswersOrder (map program_of ps) kept.order c.args.budget a) c.as_slice.ensures c.in-Shown.is c.in_ok-answer.ensures in
    (lent_difference (map program_of kept.programs) (Comes kept.order) c.in-Shown.witness c.two_orders-tree.result.0 c.two_orders-tree.result.1 c.two_orders-tree.result.2 c.as_slice-in-Shown.result.now c.as_slice-in-Shown-2.result.now
    shown c.two_orders-tree.ensures c.as_slice-in-Shown.ensures c.as_slice-in-Shown-2.ensures).1

pub returns-in-Refuted : goal.returns-in-Refuted
returns-in-Refuted c =
    let kept = c.args.kept.now in
    let is = c.requires.kept in
    let sure = subst₂ (λ ps a. AnswersOrder (map program_of ps) kept.order c.args.budget a) c.as_slice.ensures c.in-Refuted.is c.in_ok-answer.ensures in
    let states = states_kept is (c.kept_graphs.ensures.counterexamples _ c.args.plan.now.order.now kept is) c.in-Refuted.verified.formula sure.1 in
    judged_proved is c.pruning.ensures.one c.requires.some (pruned is c.args.plan.now.programs.now _ refl c.args.plan.now.count c.pruned_count-pruned.ensures) (c.requires.enough sure.0)
    (inl ((c.kept_graphs.ensures.deterministic _ c.args.plan.now.order.now kept is).0 sure.0, states)) sure.2

pub returns-in-Spent : goal.returns-in-Spent
returns-in-Spent c =
    let kept = c.args.kept.now in
    let is = c.requires.kept in
    let spent = subst₂ (λ ps a. AnswersOrder (map program_of ps) kept.order c.args.budget a) c.as_slice.ensures c.in-Spent.is c.in_ok-answer.ensures in
    let states = states_kept is (c.kept_graphs.ensures.counterexamples _ c.args.plan.now.order.now kept is) c.in-Spent.cnf spent.0 in
    judged_spent is c.pruning.ensures.one c.requires.some (pruned is c.args.plan.now.programs.now _ refl c.args.plan.now.count c.pruned_count-pruned.ensures) (inl states) spent.1
