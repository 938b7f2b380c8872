use Rattle.std.proofs.Common.{map, subst}
use Rattle.fs_lang.specs.Meaning.{program_of}
use Rattle.answering.specs.Answers.{AnswersBy}
use Rattle.given_verdict.specs.Second.{StatesSecondFrom, NeverChangedFrom, IsChangeTree}
use Rattle.given_verdict.proofs.SecondLaws.{of_end, with_it}
use Rattle.given_verdict.proofs.second.ask_second_from.Goals as goal

pub with_first-requires : goal.with_first-requires
with_first-requires c =
    let es = map program_of c.args.asked.now.plan.now.programs.now in
    let order = c.args.asked.now.plan.now.order.now in
    let given = c.args.asked.now.given.now in
    of_end given es order c.in-Shown.witness (subst (AnswersBy (StatesSecondFrom given es order) (NeverChangedFrom given es order) (IsChangeTree given es order) c.args.asked.now.budget) c.in-Shown.is c.in_ok-found.ensures)

pub returns-in_ok-with_first-in-Shown : goal.returns-in_ok-with_first-in-Shown
returns-in_ok-with_first-in-Shown c =
    let es = map program_of c.args.asked.now.plan.now.programs.now in
    let order = c.args.asked.now.plan.now.order.now in
    let given = c.args.asked.now.given.now in
    with_it given es order c.allowed_orders.ensures.long c.in-Shown.witness c.in_ok-with_first-in-Shown.field-0
    (subst (AnswersBy (StatesSecondFrom given es order) (NeverChangedFrom given es order) (IsChangeTree given es order) c.args.asked.now.budget) c.in-Shown.is c.in_ok-found.ensures) c.in_ok-with_first-in-Shown.ensures

pub returns-in-Refuted : goal.returns-in-Refuted
returns-in-Refuted c =
    let es = map program_of c.args.asked.now.plan.now.programs.now in
    let order = c.args.asked.now.plan.now.order.now in
    let given = c.args.asked.now.given.now in
    subst (AnswersBy (StatesSecondFrom given es order) (NeverChangedFrom given es order) (IsChangeTree given es order) c.args.asked.now.budget) c.in-Refuted.is c.in_ok-found.ensures

pub returns-in-Spent : goal.returns-in-Spent
returns-in-Spent c =
    let es = map program_of c.args.asked.now.plan.now.programs.now in
    let order = c.args.asked.now.plan.now.order.now in
    let given = c.args.asked.now.given.now in
    subst (AnswersBy (StatesSecondFrom given es order) (NeverChangedFrom given es order) (IsChangeTree given es order) c.args.asked.now.budget) c.in-Spent.is c.in_ok-found.ensures
