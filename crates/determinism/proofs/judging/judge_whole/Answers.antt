use Rattle.std.proofs.Common.{inr, map, subst, refl}
use Rattle.fs_lang.specs.Meaning.{program_of}
use Rattle.determinism.specs.Answers.{AnswersOrder}
use Rattle.determinism.proofs.JudgeLaws.{pruned, judged_proved, judged_differs, judged_spent}
use Rattle.determinism.proofs.judging.judge_whole.Goals as goal

pub returns-in-Refuted : goal.returns-in-Refuted
returns-in-Refuted c =
    let sure = subst (AnswersOrder (map program_of c.args.plan.now.programs.now) c.args.plan.now.order.now c.args.budget) c.in-Refuted.is c.in_ok-answer.ensures in
    judged_proved c.requires.kept c.pruning.ensures.one c.requires.some (pruned c.requires.kept c.args.plan.now.programs.now _ refl c.args.plan.now.count c.pruned_count-pruned.ensures) sure.0 (inr (c.requires.differ, sure.1)) sure.2

pub returns-in-Shown : goal.returns-in-Shown
returns-in-Shown c =
    let shown = subst (AnswersOrder (map program_of c.args.plan.now.programs.now) c.args.plan.now.order.now c.args.budget) c.in-Shown.is c.in_ok-answer.ensures in
    judged_differs c.requires.kept c.pruning.ensures.one c.requires.some (pruned c.requires.kept c.args.plan.now.programs.now _ refl c.args.plan.now.count c.pruned_count-pruned.ensures) shown

pub returns-in-Spent : goal.returns-in-Spent
returns-in-Spent c =
    let spent = subst (AnswersOrder (map program_of c.args.plan.now.programs.now) c.args.plan.now.order.now c.args.budget) c.in-Spent.is c.in_ok-answer.ensures in
    judged_spent c.requires.kept c.pruning.ensures.one c.requires.some (pruned c.requires.kept c.args.plan.now.programs.now _ refl c.args.plan.now.count c.pruned_count-pruned.ensures) (inr (c.requires.differ, spent.0)) spent.1
