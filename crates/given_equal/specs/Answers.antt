-- All that is said of the answer to the question whether two graphs do the same, from the trees in which given folders stand.
use Rattle.std.specs.Prelude.{◌≡◌, ℕ, List}
use Rattle.fs_semantics.specs.FileTree.{Path}
use Rattle.fs_semantics.specs.Programs.{Program}
use Rattle.fs_semantics.specs.Orders.{Told}
use Rattle.given_hosts.specs.Given.{AreEqualFrom}
use Rattle.orders.specs.Relation.{Relation, comes}
use Rattle.cnf.specs.Formulas.{Formula}
use Rattle.cnf.specs.declared.log.Step.{Step}
use Rattle.answering.specs.Answers.{UsesUp}
use Rattle.determinism.specs.First.{IfDiffers}
use Rattle.determinism.specs.Answers.{HasTwoOrders}
use Rattle.determinism.specs.declared.first.First.{First}
use Rattle.equal_graphs.specs.declared.compared.Compared.{Compared}
use Rattle.equal_graphs.specs.declared.compared.Compared.TheVariants as compared
use Rattle.given_verdict.specs.First.{IsAnswerWithout}
use Rattle.given_verdict.specs.Settled.{IsSettledFrom, IsUnsettledFrom, without}
use Rattle.given_equal.specs.Questions.{FirstsPartFrom, StatesPartingFrom, IsEqualProofFrom}

-- The formula states the question, and the log over it is a working one of just as many steps as the budget. The greatest u64 is
-- no budget.
abbrev pub IsSpentOnFrom : List Path → List Program → Relation → List Program → Relation → ℕ → Formula → List Step → Type 0
IsSpentOnFrom given es order fs other budget f steps = StatesPartingFrom given es order fs other f × UsesUp budget f steps

-- What an answer says of every file tree is said of those in which the given folders stand. The left graph isn't known to be
-- deterministic; or it is, and the right one isn't. Or both are, and do the same, as it was refuted by a formula that states the question;
-- or from the tree they end differently; or the budget was spent. Pruning is the same, whatever is given.
abbrev pub IsComparedFrom : List Path → List Program → Relation → List Program → Relation → ℕ → Compared → Type 0
IsComparedFrom given es order fs other budget (compared.Left f) = IsUnsettledFrom given es order budget f
IsComparedFrom given es order fs other budget (compared.Right l f) = IsSettledFrom given es order l
    × IsUnsettledFrom given fs other budget f
IsComparedFrom given es order fs other budget (compared.Equal l r v) = IsSettledFrom given es order l × IsSettledFrom given fs other r
    × AreEqualFrom given es (Told (comes order)) fs (Told (comes other)) × IsEqualProofFrom given es order fs other v.formula
IsComparedFrom given es order fs other budget (compared.Differ l r t) = IsSettledFrom given es order l × IsSettledFrom given fs other r
    × FirstsPartFrom given es order fs other t
IsComparedFrom given es order fs other budget (compared.Spent l r cnf log) = IsSettledFrom given es order l
    × IsSettledFrom given fs other r × IsSpentOnFrom given es order fs other budget cnf log.steps

-- ---- without the guard

-- a witness of a difference of one graph, if there is one, has two orders
abbrev pub HasOrders : Compared → Type 0
HasOrders (compared.Left f) = IfDiffers f HasTwoOrders
HasOrders (compared.Right l f) = IfDiffers f HasTwoOrders
HasOrders (compared.Equal l r v) = Unit {0}
HasOrders (compared.Differ l r t) = Unit {0}
HasOrders (compared.Spent l r cnf log) = Unit {0}

-- the same answer, with one program less of each graph that was pruned, and no guard in its orders
abbrev pub IsComparedWithout : Compared → Compared → Type 0
IsComparedWithout (compared.Left f) c = (a : First) × IsAnswerWithout f a × (c ≡ compared.Left a)
IsComparedWithout (compared.Right l f) c = (a : First) × IsAnswerWithout f a × (c ≡ compared.Right (without l) a)
IsComparedWithout (compared.Equal l r v) c = c ≡ compared.Equal (without l) (without r) v
IsComparedWithout (compared.Differ l r t) c = c ≡ compared.Differ (without l) (without r) t
IsComparedWithout (compared.Spent l r cnf log) c = c ≡ compared.Spent (without l) (without r) cnf log
