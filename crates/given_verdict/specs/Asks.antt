-- What the three questions are of: a plan, from the file trees in which the given folders stand, each under a budget.
use Rattle.fs_semantics.specs.Orders.{Told}
use Rattle.given_hosts.specs.Given.{IsDeterministicFrom, IsIdempotentFrom}
use Rattle.orders.specs.Relation.{comes}
use Rattle.plans.specs.Plans.{meant_by}
use Rattle.cnf.specs.Formulas.{Formula}
use Rattle.order_encode.specs.declared.witness.Witness.{Witness}
use Rattle.answering.specs.declared.answering.Answer.{Answer}
use Rattle.determinism.specs.declared.first.First.{First}
use Rattle.verdict.specs.declared.verdicts.Verdict.{Verdict}
use Rattle.given_verdict.specs.declared.asking.Asking.{Asking}
use Rattle.given_verdict.specs.First.{IsJudgedFrom}
use Rattle.given_verdict.specs.Second.{StatesSecondFrom, IsSecondProofFrom, IsSettledFrom, AnswersAgainFrom, NeverChangedFrom, IsChangeTree, AnswersSecondFrom}
use Rattle.given_verdict.specs.Behind.{IsJudgedBehind}
use Rattle.given_verdict.specs.Ends.{AnswersEndFrom}
use Rattle.given_verdict.specs.Answers.{IsVerdictFrom}

-- all orders end alike
abbrev pub IsDeterministicOn : Asking → Type 0
IsDeterministicOn a = IsDeterministicFrom a.given.now (meant_by a.plan.now) (Told (comes a.plan.now.order.now))

-- no second run changes anything
abbrev pub IsIdempotentOn : Asking → Type 0
IsIdempotentOn a = IsIdempotentFrom a.given.now (meant_by a.plan.now) (Told (comes a.plan.now.order.now))

-- the answer to the first question
abbrev pub IsJudgedOn : Asking → First → Type 0
IsJudgedOn a = IsJudgedFrom a.given.now (meant_by a.plan.now) a.plan.now.order.now a.budget

-- the answer to the same question behind a run in the first extension
abbrev pub IsJudgedBehindOn : Asking → First → Type 0
IsJudgedBehindOn a = IsJudgedBehind a.given.now (meant_by a.plan.now) a.plan.now.order.now a.budget

-- no second run in the first extension changes anything
abbrev pub NeverChangedOn : Asking → Type 0
NeverChangedOn a = NeverChangedFrom a.given.now (meant_by a.plan.now) a.plan.now.order.now

-- the formula states the question about second runs in the first extension
abbrev pub StatesSecondOn : Asking → Formula → Type 0
StatesSecondOn a = StatesSecondFrom a.given.now (meant_by a.plan.now) a.plan.now.order.now

-- the formula states that question, and has no model
abbrev pub IsSecondProofOn : Asking → Formula → Type 0
IsSecondProofOn a = IsSecondProofFrom a.given.now (meant_by a.plan.now) a.plan.now.order.now

-- no second run changes anything, as the formula shows
abbrev pub IsSettledOn : Asking → Formula → Type 0
IsSettledOn a = IsSettledFrom a.given.now (meant_by a.plan.now) a.plan.now.order.now

-- a tree from which a second run in the first extension changes something
abbrev pub IsChangeTreeOn : Asking → Witness → Type 0
IsChangeTreeOn a = IsChangeTree a.given.now (meant_by a.plan.now) a.plan.now.order.now

-- the answer to the question about second runs in the first extension
abbrev pub AnswersSecondOn : Asking → Answer → Type 0
AnswersSecondOn a = AnswersSecondFrom a.given.now (meant_by a.plan.now) a.plan.now.order.now a.budget

-- the answer to the question about second runs
abbrev pub AnswersAgainOn : Asking → Answer → Type 0
AnswersAgainOn a = AnswersAgainFrom a.given.now (meant_by a.plan.now) a.plan.now.order.now a.budget

-- the answer to the question whether a run ends in a tree
abbrev pub AnswersEndOn : Asking → Answer → Type 0
AnswersEndOn a = AnswersEndFrom a.given.now (meant_by a.plan.now) a.plan.now.order.now a.budget

-- the answers to all three
abbrev pub IsVerdictOn : Asking → Verdict → Type 0
IsVerdictOn a = IsVerdictFrom a.given.now (meant_by a.plan.now) a.plan.now.order.now a.budget
