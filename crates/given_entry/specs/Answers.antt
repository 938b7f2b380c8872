-- All that is said of the answer to the question whether a graph ensures an entry, from the trees in which given folders stand.
use Rattle.std.specs.Prelude.{◌≡◌, ℕ, List}
use Rattle.fs_semantics.specs.FileTree.{Path}
use Rattle.fs_semantics.specs.Programs.{Program}
use Rattle.fs_semantics.specs.Orders.{Told}
use Rattle.given_hosts.specs.Given.{SucceedsFrom}
use Rattle.orders.specs.Relation.{Relation, comes}
use Rattle.cnf.specs.Formulas.{Formula}
use Rattle.cnf.specs.declared.log.Step.{Step}
use Rattle.order_encode.specs.declared.witness.Witness.{Witness}
use Rattle.determinism.specs.First.{IfDiffers}
use Rattle.determinism.specs.Answers.{HasTwoOrders}
use Rattle.determinism.specs.declared.first.First.{First}
use Rattle.answering.specs.Answers.{UsesUp}
use Rattle.verdict.specs.declared.verdicts.Ends.{Ends}
use Rattle.verdict.specs.declared.verdicts.Ends.TheVariants as ends
use Rattle.wanted_entry.specs.declared.wanted.Wanted.{Wanted}
use Rattle.ensured_entry.specs.declared.ensured.Late.{Late}
use Rattle.ensured_entry.specs.declared.ensured.Late.TheVariants as late
use Rattle.ensured_entry.specs.declared.ensured.Ensured.{Ensured}
use Rattle.ensured_entry.specs.declared.ensured.Ensured.TheVariants as ensured
use Rattle.given_verdict.specs.First.{IsAnswerWithout}
use Rattle.given_verdict.specs.Settled.{IsSettledFrom, IsUnsettledFrom, without}
use Rattle.given_verdict.specs.Ends.{StatesEndFrom, IsEndFrom, IsEndProofFrom, IsRunOf, HasOneOrder}
use Rattle.given_entry.specs.Questions.{EnsuresFrom, StatesMissingFrom, IsEntryProofFrom, IsMissedFrom}

-- The graph succeeds, as the witness shows; or it fails from every such tree, as it was refuted by a formula that states this question.
abbrev pub AreEndsFrom : List Path → List Program → Relation → Ends → Type 0
AreEndsFrom given es order (ends.From w) = SucceedsFrom given es (Told (comes order)) × IsEndFrom given es order w
AreEndsFrom given es order (ends.Never v) = (SucceedsFrom given es (Told (comes order)) → ⊥) × IsEndProofFrom given es order v.formula

-- The formula states the question, and the log over it is a working one of just as many steps as the budget. The greatest u64 is
-- no budget.
abbrev pub IsSpentOnFrom : List Path → List Program → Relation → Wanted → ℕ → Late → Formula → List Step → Type 0
IsSpentOnFrom given es order w budget late.Ensures f steps = StatesMissingFrom given es order w f × UsesUp budget f steps
IsSpentOnFrom given es order w budget late.Succeeds f steps = StatesEndFrom given es order f × UsesUp budget f steps

-- what is known once this question is asked, beside that the graph is deterministic
abbrev pub IsKnownBeforeFrom : List Path → List Program → Relation → Wanted → Late → Type 0
IsKnownBeforeFrom given es order w late.Ensures = Unit {0}
IsKnownBeforeFrom given es order w late.Succeeds = EnsuresFrom given es (Told (comes order)) w

-- What an answer says of every file tree is said of those in which the given folders stand. The graph isn't known to be deterministic.
-- Or it is, and ensures the entry, as it was refuted by a formula that states the question; or a run ends without it; or the budget was
-- spent. Pruning is the same, whatever is given.
abbrev pub IsEnsuredFrom : List Path → List Program → Relation → Wanted → ℕ → Ensured → Type 0
IsEnsuredFrom given es order w budget (ensured.First f) = IsUnsettledFrom given es order budget f
IsEnsuredFrom given es order w budget (ensured.Holds s v end) = IsSettledFrom given es order s
    × EnsuresFrom given es (Told (comes order)) w × IsEntryProofFrom given es order w v.formula × AreEndsFrom given es order end
IsEnsuredFrom given es order w budget (ensured.Fails s x) = IsSettledFrom given es order s × IsMissedFrom given es order w x
IsEnsuredFrom given es order w budget (ensured.Spent s asked cnf log) = IsSettledFrom given es order s
    × IsKnownBeforeFrom given es order w asked × IsSpentOnFrom given es order w budget asked cnf log.steps

-- ---- without the guard

-- the witness, if there is one, has a tree with one order
abbrev pub EndInOneOrder : Ends → Type 0
EndInOneOrder (ends.From w) = HasOneOrder w
EndInOneOrder (ends.Never v) = Unit {0}

-- the witness, if there is one, has the orders that its question asks for
abbrev pub HasOrders : Ensured → Type 0
HasOrders (ensured.First f) = IfDiffers f HasTwoOrders
HasOrders (ensured.Holds s v end) = EndInOneOrder end
HasOrders (ensured.Fails s w) = HasOneOrder w
HasOrders (ensured.Spent s asked cnf log) = Unit {0}

-- whether the graph succeeds, with its first extension
abbrev pub AreEndsOf : Relation → Ends → Ends → Type 0
AreEndsOf order (ends.From w) end = (v : Witness) × IsRunOf order w v × (end ≡ ends.From v)
AreEndsOf order (ends.Never u) end = end ≡ ends.Never u

-- The same answer, with one program less that was pruned, and no guard in its orders: those of one run are the first extension.
abbrev pub IsEnsuredWithout : Relation → Ensured → Ensured → Type 0
IsEnsuredWithout order (ensured.First f) e = (a : First) × IsAnswerWithout f a × (e ≡ ensured.First a)
IsEnsuredWithout order (ensured.Holds s v end) e = (more : Ends) × AreEndsOf order end more × (e ≡ ensured.Holds (without s) v more)
IsEnsuredWithout order (ensured.Fails s w) e = (v : Witness) × IsRunOf order w v × (e ≡ ensured.Fails (without s) v)
IsEnsuredWithout order (ensured.Spent s asked cnf log) e = e ≡ ensured.Spent (without s) asked cnf log
