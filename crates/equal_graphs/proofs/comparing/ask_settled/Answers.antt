use Rattle.std.proofs.Common.{map, subst, sym}
use Rattle.fs_lang.specs.Meaning.{program_of}
use Rattle.equal_graphs.specs.Equal.{FirstsPart}
use Rattle.equal_graphs.specs.Questions.{AnswersParting}
use Rattle.equal_graphs.proofs.PartLaws.{parts_in}
use Rattle.equal_graphs.proofs.comparing.ask_settled.Goals as goal

pub returns-in-Shown : goal.returns-in-Shown
returns-in-Shown c =
    let es = map program_of c.args.left.now.programs.now in
    let fs = map program_of c.args.right.now.programs.now in
    let order = c.args.left.now.order.now in
    let other = c.args.right.now.order.now in
    let found = subst (AnswersParting es order fs other c.args.budget) c.in-Shown.is c.in_ok-answer.ensures in
    (c.requires.left_settled, c.requires.right_settled, subst (FirstsPart es order fs other) (sym c.tree_in.ensures) (parts_in es order fs other c.in-Shown.witness found))

pub returns-in-Refuted : goal.returns-in-Refuted
returns-in-Refuted c =
    let es = map program_of c.args.left.now.programs.now in
    let fs = map program_of c.args.right.now.programs.now in
    let found = subst (AnswersParting es c.args.left.now.order.now fs c.args.right.now.order.now c.args.budget) c.in-Refuted.is c.in_ok-answer.ensures in
    (c.requires.left_settled, c.requires.right_settled, found.0, record { states = found.1; no_model = found.2 })

pub returns-in-Spent : goal.returns-in-Spent
returns-in-Spent c =
    let es = map program_of c.args.left.now.programs.now in
    let fs = map program_of c.args.right.now.programs.now in
    let found = subst (AnswersParting es c.args.left.now.order.now fs c.args.right.now.order.now c.args.budget) c.in-Spent.is c.in_ok-answer.ensures in
    (c.requires.left_settled, c.requires.right_settled, found)

pub ask_equal-requires-clause-left_sure : goal.ask_equal-requires-clause-left_sure
ask_equal-requires-clause-left_sure c = c.requires.left_settled.deterministic

pub ask_equal-requires-clause-right_sure : goal.ask_equal-requires-clause-right_sure
ask_equal-requires-clause-right_sure c = c.requires.right_settled.deterministic
