use Rattle.std.proofs.Common.{map, subst}
use Rattle.fs_lang.specs.Meaning.{program_of}
use Rattle.given_verdict.specs.First.{IsJudgedFrom}
use Rattle.given_verdict.proofs.VerdictLaws.{different, spent_first}
use Rattle.given_verdict.proofs.judging.judge_on.Goals as goal

pub judge_sure-requires : goal.judge_sure-requires
judge_sure-requires c = record { judged = subst (IsJudgedFrom c.args.asked.now.given.now (map program_of c.args.asked.now.plan.now.programs.now) c.args.asked.now.plan.now.order.now c.args.asked.now.budget) c.in-Sure.is c.requires.judged }

pub returns-in-Differs : goal.returns-in-Differs
returns-in-Differs c =
    let es = map program_of c.args.asked.now.plan.now.programs.now in
    let order = c.args.asked.now.plan.now.order.now in
    different c.args.asked.now.given.now es order c.args.asked.now.budget c.in-Differs.pruned c.in-Differs.witness (subst (IsJudgedFrom c.args.asked.now.given.now es order c.args.asked.now.budget) c.in-Differs.is c.requires.judged)

pub returns-in-Spent : goal.returns-in-Spent
returns-in-Spent c =
    let es = map program_of c.args.asked.now.plan.now.programs.now in
    let order = c.args.asked.now.plan.now.order.now in
    spent_first c.args.asked.now.given.now es order c.args.asked.now.budget c.in-Spent.pruned c.in-Spent.cnf c.in-Spent.log c.new.result c.new.ensures
    (subst (IsJudgedFrom c.args.asked.now.given.now es order c.args.asked.now.budget) c.in-Spent.is c.requires.judged)
