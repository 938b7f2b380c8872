use Rattle.std.proofs.Common.{map, subst}
use Rattle.fs_lang.specs.Meaning.{program_of}
use Rattle.ensured_entry.specs.Questions.{AnswersMissing}
use Rattle.ensured_entry.proofs.ensuring.ask_entry.Goals as goal

pub returns-in-Shown : goal.returns-in-Shown
returns-in-Shown c =
    let found = subst (AnswersMissing (map program_of c.args.plan.now.programs.now) c.args.plan.now.order.now c.args.wanted.now c.args.budget) c.in-Shown.is c.in_ok-answer.ensures in
    (c.requires.settled, found)

pub ensure_held-requires-clause-holds : goal.ensure_held-requires-clause-holds
ensure_held-requires-clause-holds c =
    let found = subst (AnswersMissing (map program_of c.args.plan.now.programs.now) c.args.plan.now.order.now c.args.wanted.now c.args.budget) c.in-Refuted.is c.in_ok-answer.ensures in
    found.0

pub ensure_held-requires-clause-proof : goal.ensure_held-requires-clause-proof
ensure_held-requires-clause-proof c =
    let found = subst (AnswersMissing (map program_of c.args.plan.now.programs.now) c.args.plan.now.order.now c.args.wanted.now c.args.budget) c.in-Refuted.is c.in_ok-answer.ensures in
    record { states = found.1; no_model = found.2 }

pub returns-in-Spent : goal.returns-in-Spent
returns-in-Spent c =
    let found = subst (AnswersMissing (map program_of c.args.plan.now.programs.now) c.args.plan.now.order.now c.args.wanted.now c.args.budget) c.in-Spent.is c.in_ok-answer.ensures in
    (c.requires.settled, tt, found)
