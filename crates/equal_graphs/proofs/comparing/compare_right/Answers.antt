use Rattle.std.proofs.Common.{map, subst}
use Rattle.fs_lang.specs.Meaning.{program_of}
use Rattle.determinism.specs.Answers.{IsJudged}
use Rattle.verdict.proofs.SureLaws.{settled, differs, spent}
use Rattle.equal_graphs.proofs.comparing.compare_right.Goals as goal

pub compare_settled-requires-clause-right_settled : goal.compare_settled-requires-clause-right_settled
compare_settled-requires-clause-right_settled c =
    let fs = map program_of c.args.right.now.programs.now in
    let other = c.args.right.now.order.now in
    settled fs other c.args.budget c.in-Sure.pruned c.in-Sure.sure (subst (IsJudged fs other c.args.budget) c.in-Sure.is c.requires.judged)

pub returns-in-Differs : goal.returns-in-Differs
returns-in-Differs c =
    let fs = map program_of c.args.right.now.programs.now in
    let other = c.args.right.now.order.now in
    (c.requires.left_settled, differs fs other c.args.budget c.in-Differs.pruned c.in-Differs.witness (subst (IsJudged fs other c.args.budget) c.in-Differs.is c.requires.judged))

pub returns-in-Spent : goal.returns-in-Spent
returns-in-Spent c =
    let fs = map program_of c.args.right.now.programs.now in
    let other = c.args.right.now.order.now in
    (c.requires.left_settled, spent fs other c.args.budget c.in-Spent.pruned c.in-Spent.cnf c.in-Spent.log (subst (IsJudged fs other c.args.budget) c.in-Spent.is c.requires.judged))
