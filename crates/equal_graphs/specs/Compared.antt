-- What is answered to the question whether two graphs do the same, and what each answer says.
use Rattle.std.specs.Prelude.{ℕ, List}
use Rattle.fs_semantics.specs.Programs.{Program}
use Rattle.fs_semantics.specs.Orders.{Told}
use Rattle.orders.specs.Relation.{Relation, comes}
use Rattle.cnf.specs.Formulas.{Formula}
use Rattle.cnf.specs.declared.log.Step.{Step}
use Rattle.answering.specs.Answers.{UsesUp}
use Rattle.verdict.specs.Settled.{IsSettled, IsUnsettled}
use Rattle.equal_graphs.specs.Equal.{AreEqual, FirstsPart}
use Rattle.equal_graphs.specs.Questions.{StatesParting, IsEqualProof}
use Rattle.equal_graphs.specs.declared.compared.Compared.{Compared}
use Rattle.equal_graphs.specs.declared.compared.Compared.TheVariants as compared

-- The formula states the question, and the log over it is a working one of just as many steps as the budget. The greatest u64 is
-- no budget.
abbrev pub IsSpentOn : List Program → Relation → List Program → Relation → ℕ → Formula → List Step → Type 0
IsSpentOn es order fs other budget f steps = StatesParting es order fs other f × UsesUp budget f steps

-- All that is said of an answer. The left graph isn't known to be deterministic; or it is, and the right one isn't. Or both are, and do
-- the same over every file tree and in all orders, as it was refuted by a formula that states the question; or from the tree they end
-- differently; or the budget was spent.
abbrev pub IsCompared : List Program → Relation → List Program → Relation → ℕ → Compared → Type 0
IsCompared es order fs other budget (compared.Left f) = IsUnsettled es order budget f
IsCompared es order fs other budget (compared.Right l f) = IsSettled es order l × IsUnsettled fs other budget f
IsCompared es order fs other budget (compared.Equal l r v) = IsSettled es order l × IsSettled fs other r
    × AreEqual es (Told (comes order)) fs (Told (comes other)) × IsEqualProof es order fs other v.formula
IsCompared es order fs other budget (compared.Differ l r t) = IsSettled es order l × IsSettled fs other r
    × FirstsPart es order fs other t
IsCompared es order fs other budget (compared.Spent l r cnf log) = IsSettled es order l × IsSettled fs other r
    × IsSpentOn es order fs other budget cnf log.steps
