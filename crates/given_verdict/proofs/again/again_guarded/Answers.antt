use Rattle.std.proofs.Common.{map, subst, inl}
use Rattle.fs_lang.specs.Meaning.{program_of}
use Rattle.given_verdict.specs.Second.{AnswersSecondFrom}
use Rattle.given_verdict.proofs.BehindLaws.{change_of_first}
use Rattle.given_verdict.proofs.again.again_guarded.Goals as goal

pub ask_on-requires-clause-never : goal.ask_on-requires-clause-never
ask_on-requires-clause-never c =
    let found = subst (AnswersSecondFrom c.args.asked.now.given.now (map program_of c.args.asked.now.plan.now.programs.now) c.args.asked.now.plan.now.order.now c.args.asked.now.budget) c.in-Refuted.is c.in_ok-found.ensures in
    found.0

pub ask_on-requires-clause-same : goal.ask_on-requires-clause-same
ask_on-requires-clause-same c =
    let found = subst (AnswersSecondFrom c.args.asked.now.given.now (map program_of c.args.asked.now.plan.now.programs.now) c.args.asked.now.plan.now.order.now c.args.asked.now.budget) c.in-Refuted.is c.in_ok-found.ensures in
    record { states = found.1; no_model = found.2 }

pub returns-in-Shown : goal.returns-in-Shown
returns-in-Shown c =
    let es = map program_of c.args.asked.now.plan.now.programs.now in
    change_of_first c.args.asked.now.given.now es c.args.asked.now.plan.now.order.now c.in-Shown.witness (subst (AnswersSecondFrom c.args.asked.now.given.now es c.args.asked.now.plan.now.order.now c.args.asked.now.budget) c.in-Shown.is c.in_ok-found.ensures)

pub returns-in-Spent : goal.returns-in-Spent
returns-in-Spent c =
    let found = subst (AnswersSecondFrom c.args.asked.now.given.now (map program_of c.args.asked.now.plan.now.programs.now) c.args.asked.now.plan.now.order.now c.args.asked.now.budget) c.in-Spent.is c.in_ok-found.ensures in
    inl found
