use Rattle.std.proofs.Common.{map, subst}
use Rattle.fs_lang.specs.Meaning.{program_of}
use Rattle.determinism.specs.Answers.{IsJudged}
use Rattle.verdict.proofs.SureLaws.{settled, differs, spent}
use Rattle.equal_graphs.proofs.comparing.compare_left.Goals as goal

pub judge_right-requires-clause-left_settled : goal.judge_right-requires-clause-left_settled
judge_right-requires-clause-left_settled c =
    let es = map program_of c.args.left.now.programs.now in
    let order = c.args.left.now.order.now in
    settled es order c.args.budget c.in-Sure.pruned c.in-Sure.sure (subst (IsJudged es order c.args.budget) c.in-Sure.is c.requires.judged)

pub returns-in-Differs : goal.returns-in-Differs
returns-in-Differs c =
    let es = map program_of c.args.left.now.programs.now in
    let order = c.args.left.now.order.now in
    differs es order c.args.budget c.in-Differs.pruned c.in-Differs.witness (subst (IsJudged es order c.args.budget) c.in-Differs.is c.requires.judged)

pub returns-in-Spent : goal.returns-in-Spent
returns-in-Spent c =
    let es = map program_of c.args.left.now.programs.now in
    let order = c.args.left.now.order.now in
    spent es order c.args.budget c.in-Spent.pruned c.in-Spent.cnf c.in-Spent.log (subst (IsJudged es order c.args.budget) c.in-Spent.is c.requires.judged)
