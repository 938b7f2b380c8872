-- What is answered to the three questions, and what each answer says.
use Rattle.std.specs.Prelude.{ℕ, List, [], ◌∷◌}
use Rattle.cnf.specs.Formulas.{Formula}
use Rattle.cnf.specs.declared.log.Step.{Step}
use Rattle.proof_check.specs.Refuted.{Refutation}
use Rattle.order_encode.specs.declared.witness.Witness.{Witness}
use Rattle.determinism.specs.declared.first.Sure.{Sure}
use Rattle.determinism.specs.declared.first.Sure.TheVariants as sure
use Rattle.verdict.specs.declared.verdicts.Asked.{Asked}
use Rattle.verdict.specs.declared.verdicts.Asked.TheVariants as asked
use Rattle.verdict.specs.declared.verdicts.Second.TheVariants as second
use Rattle.verdict.specs.declared.verdicts.Ends.TheVariants as ends
use Rattle.verdict.specs.declared.verdicts.Verdict.{Verdict}
use Rattle.verdict.specs.declared.verdicts.Verdict.TheVariants as verdict

-- what was refuted for why the graph is deterministic
abbrev pub proofs_in : Sure → List Refutation
proofs_in sure.Pruned = []
proofs_in (sure.Proved v) = v ∷ []

-- how many programs pruning doesn't keep
abbrev pub pruned_in : Verdict → ℕ
pruned_in (verdict.NotDeterministic pruned w) = pruned
pruned_in (verdict.Judged pruned s again end) = pruned
pruned_in (verdict.Spent pruned a cnf log proofs) = pruned

-- pruning alone shows it
abbrev pub IsByPruning : Sure → Type 0
IsByPruning sure.Pruned = Unit {0}
IsByPruning (sure.Proved v) = ⊥

-- a fact of the formula that was refuted, if one was
abbrev pub IfByProof : Sure → (Formula → Type 0) → Type 0
IfByProof sure.Pruned P = Unit {0}
IfByProof (sure.Proved v) P = P v.formula

-- a fact of the witness, if two orders have different outcomes
abbrev pub IfDifferent : Verdict → (Witness → Type 0) → Type 0
IfDifferent (verdict.NotDeterministic pruned w) P = P w
IfDifferent (verdict.Judged pruned s again end) P = Unit {0}
IfDifferent (verdict.Spent pruned a cnf log proofs) P = Unit {0}

-- a fact of why the graph is deterministic, if all three questions are answered
abbrev pub IfJudged : Verdict → (Sure → Type 0) → Type 0
IfJudged (verdict.NotDeterministic pruned w) P = Unit {0}
IfJudged (verdict.Judged pruned s again end) P = P s
IfJudged (verdict.Spent pruned a cnf log proofs) P = Unit {0}

-- a fact of the formula that was refuted, if no second run changes anything
abbrev pub IfSame : Verdict → (Formula → Type 0) → Type 0
IfSame (verdict.NotDeterministic pruned w) P = Unit {0}
IfSame (verdict.Judged pruned s (second.Same v) end) P = P v.formula
IfSame (verdict.Judged pruned s (second.Differs w) end) P = Unit {0}
IfSame (verdict.Spent pruned a cnf log proofs) P = Unit {0}

-- a fact of the witness, if a second run changes something
abbrev pub IfChanged : Verdict → (Witness → Type 0) → Type 0
IfChanged (verdict.NotDeterministic pruned w) P = Unit {0}
IfChanged (verdict.Judged pruned s (second.Same v) end) P = Unit {0}
IfChanged (verdict.Judged pruned s (second.Differs w) end) P = P w
IfChanged (verdict.Spent pruned a cnf log proofs) P = Unit {0}

-- a fact of the witness, if the graph succeeds
abbrev pub IfFrom : Verdict → (Witness → Type 0) → Type 0
IfFrom (verdict.NotDeterministic pruned w) P = Unit {0}
IfFrom (verdict.Judged pruned s again (ends.From w)) P = P w
IfFrom (verdict.Judged pruned s again (ends.Never v)) P = Unit {0}
IfFrom (verdict.Spent pruned a cnf log proofs) P = Unit {0}

-- a fact of the formula that was refuted, if the graph fails from every tree
abbrev pub IfNever : Verdict → (Formula → Type 0) → Type 0
IfNever (verdict.NotDeterministic pruned w) P = Unit {0}
IfNever (verdict.Judged pruned s again (ends.From w)) P = Unit {0}
IfNever (verdict.Judged pruned s again (ends.Never v)) P = P v.formula
IfNever (verdict.Spent pruned a cnf log proofs) P = Unit {0}

-- a fact of the question, its formula and the log, if the budget was spent
abbrev pub IfSpent : Verdict → (Asked → Formula → List Step → Type 0) → Type 0
IfSpent (verdict.NotDeterministic pruned w) P = Unit {0}
IfSpent (verdict.Judged pruned s again end) P = Unit {0}
IfSpent (verdict.Spent pruned a cnf log proofs) P = P a cnf log.steps

-- a fact of the question and of what was refuted before it, if the budget was spent
abbrev pub IfSpentAfter : Verdict → (Asked → List Refutation → Type 0) → Type 0
IfSpentAfter (verdict.NotDeterministic pruned w) P = Unit {0}
IfSpentAfter (verdict.Judged pruned s again end) P = Unit {0}
IfSpentAfter (verdict.Spent pruned a cnf log proofs) P = P a proofs
