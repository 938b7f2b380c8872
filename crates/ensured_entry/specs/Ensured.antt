-- What is answered to the question whether a graph ensures an entry, and what each answer says.
use Rattle.std.specs.Prelude.{ℕ, List}
use Rattle.fs_semantics.specs.Programs.{Program}
use Rattle.fs_semantics.specs.Orders.{Told, Succeeds}
use Rattle.orders.specs.Relation.{Relation, comes}
use Rattle.cnf.specs.Formulas.{Formula}
use Rattle.cnf.specs.declared.log.Step.{Step}
use Rattle.answering.specs.Answers.{UsesUp}
use Rattle.verdict.specs.declared.verdicts.Ends.{Ends}
use Rattle.verdict.specs.declared.verdicts.Ends.TheVariants as ends
use Rattle.verdict.specs.Settled.{IsSettled, IsUnsettled}
use Rattle.success.specs.Questions.{StatesEnd, IsEndProof, IsEnd}
use Rattle.wanted_entry.specs.declared.wanted.Wanted.{Wanted}
use Rattle.wanted_entry.specs.Entries.{Ensures}
use Rattle.ensured_entry.specs.declared.ensured.Late.{Late}
use Rattle.ensured_entry.specs.declared.ensured.Late.TheVariants as late
use Rattle.ensured_entry.specs.declared.ensured.Ensured.{Ensured}
use Rattle.ensured_entry.specs.declared.ensured.Ensured.TheVariants as ensured
use Rattle.ensured_entry.specs.Questions.{StatesMissing, IsEntryProof, IsMissed}

-- The graph succeeds, as the witness shows; or it fails from every tree, as it was refuted by a formula that states this question.
abbrev pub AreEnds : List Program → Relation → Ends → Type 0
AreEnds es order (ends.From w) = Succeeds es (Told (comes order)) × IsEnd es order w
AreEnds es order (ends.Never v) = (Succeeds es (Told (comes order)) → ⊥) × IsEndProof es order v.formula

-- The formula states the question, and the log over it is a working one of just as many steps as the budget. The greatest u64 is
-- no budget.
abbrev pub IsSpentOn : List Program → Relation → Wanted → ℕ → Late → Formula → List Step → Type 0
IsSpentOn es order w budget late.Ensures f steps = StatesMissing es order w f × UsesUp budget f steps
IsSpentOn es order w budget late.Succeeds f steps = StatesEnd es order f × UsesUp budget f steps

-- what is known once this question is asked, beside that the graph is deterministic
abbrev pub IsKnownBefore : List Program → Relation → Wanted → Late → Type 0
IsKnownBefore es order w late.Ensures = Unit {0}
IsKnownBefore es order w late.Succeeds = Ensures es (Told (comes order)) w

-- All that is said of an answer. The graph isn't known to be deterministic. Or it is, and ensures the entry over every file tree and in
-- all orders, as it was refuted by a formula that states the question; or a run ends without it; or the budget was spent.
abbrev pub IsEnsured : List Program → Relation → Wanted → ℕ → Ensured → Type 0
IsEnsured es order w budget (ensured.First f) = IsUnsettled es order budget f
IsEnsured es order w budget (ensured.Holds s v end) = IsSettled es order s × Ensures es (Told (comes order)) w
    × IsEntryProof es order w v.formula × AreEnds es order end
IsEnsured es order w budget (ensured.Fails s x) = IsSettled es order s × IsMissed es order w x
IsEnsured es order w budget (ensured.Spent s asked cnf log) = IsSettled es order s × IsKnownBefore es order w asked
    × IsSpentOn es order w budget asked cnf log.steps
