use Rattle.std.proofs.Common.{map, subst, ◌∙◌}
use Rattle.std.proofs.lemmas.List.{length-map}
use Rattle.fs_lang.specs.Meaning.{program_of}
use Rattle.success.specs.Answers.{AnswersEnd}
use Rattle.ensured_entry.proofs.EnsuredLaws.{succeeds}
use Rattle.ensured_entry.proofs.ensuring.ask_success.Goals as goal

pub returns-in-Shown : goal.returns-in-Shown
returns-in-Shown c =
    let es = map program_of c.args.plan.now.programs.now in
    let order = c.args.plan.now.order.now in
    let found = subst (AnswersEnd es order c.args.budget) c.in-Shown.is c.in_ok-end.ensures in
    (c.requires.settled, c.requires.holds, c.requires.proof, (succeeds es order (length-map c.args.plan.now.programs.now program_of ∙ c.args.plan.now.count) c.in-Shown.witness found, found))

pub returns-in-Refuted : goal.returns-in-Refuted
returns-in-Refuted c =
    let found = subst (AnswersEnd (map program_of c.args.plan.now.programs.now) c.args.plan.now.order.now c.args.budget) c.in-Refuted.is c.in_ok-end.ensures in
    (c.requires.settled, c.requires.holds, c.requires.proof, (found.0, record { states = found.1; no_model = found.2 }))

pub returns-in-Spent : goal.returns-in-Spent
returns-in-Spent c =
    let found = subst (AnswersEnd (map program_of c.args.plan.now.programs.now) c.args.plan.now.order.now c.args.budget) c.in-Spent.is c.in_ok-end.ensures in
    (c.requires.settled, c.requires.holds, found)
