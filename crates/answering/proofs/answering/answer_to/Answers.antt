use Rattle.std.proofs.Common.{sym, subst, ◌∙◌}
use Rattle.std.proofs.lemmas.Result.{IfOk-weaker}
use Rattle.sat_solver.specs.Turning.{Finds}
use Rattle.sat_solver.specs.Working.{IsWorking}
use Rattle.answering.specs.Answers.{Answers, IsReadFrom, IsRefuted}
use Rattle.answering.proofs.AnswerLaws.{read, refuted}
use Rattle.answering.proofs.answering.answer_to.Goals as goal

pub returns-in-Model : goal.returns-in-Model
returns-in-Model c =
    let q = c.args.question in
    IfOk-weaker c.read.result (IsReadFrom q) (Answers q c.args.budget) (read q c.args.budget) c.read.ensures

pub returns-in-Refuted : goal.returns-in-Refuted
returns-in-Refuted c =
    let q = c.args.question in
    IfOk-weaker c.refute.result (IsRefuted c.into_cnf.result) (Answers q c.args.budget) (refuted q c.args.budget c.into_cnf.result c.into_cnf.ensures) c.refute.ensures

pub returns-in-Spent : goal.returns-in-Spent
returns-in-Spent c =
    let is = c.into_cnf-in-Spent.ensures in
    let found = subst (Finds c.cnf.result.now c.args.budget) c.in-Spent.is c.in_ok-found.ensures in (
      is,
      record { working = subst (λ f. IsWorking f c.in-Spent.log.steps) (c.cnf.ensures ∙ sym is) found.0; all = found.1; limited = found.2 },
    )
