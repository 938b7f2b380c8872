-- What is written of formulas and logs, and that it is read as them.
use Rattle.std.specs.Prelude.{ℕ, ◌+◌, ◌<◌, ◌≤◌, ◌^◌, List, ◌++◌, length, codes, decimal}
use Rattle.std.specs.List.{flat_map, AllByRecursion}
use Rattle.cnf.specs.declared.log.Step.{Step}
use Rattle.cnf.specs.Clauses.{IsClause}
use Rattle.cnf.specs.Formulas.{IsFormula}
use Rattle.cnf.specs.Proofs.{AreRight}
use Rattle.cnf.specs.ProofText.{proof_text}
use Rattle.proof_check.specs.Refuted.{Refutation}
use Rattle.proof_check.specs.ProofWords.{IsStepWritten, IsProofText}

-- A formula and a log that have a text: variables, counts and the numbers of clauses have places in it, and literals and
-- pivots have the formula's variables. Nothing is asked of whether the steps are right.
pub record IsWritable (p : Refutation) : Type 0 where
  pub formula : IsFormula p.formula
  pub small : p.formula.vars ≤ 2 ^ 31
  pub clause_count : length p.formula.clauses < 2 ^ 63
  pub step_count : length p.steps < 2 ^ 63
  pub clauses : AllByRecursion (λ (s : Step). IsClause s.clause) p.steps
  pub steps : AllByRecursion (IsStepWritten p.formula.vars) p.steps

-- the text of formulas and logs: how many there are, and what `write_proof` writes of each
abbrev pub proofs_text : List Refutation → List ℕ
proofs_text ps = codes "proofs " ++ (decimal (length ps) ++ (codes "\n" ++ flat_map (λ p. proof_text p.formula p.steps) ps))

-- what is written is read as it
abbrev pub WrittenProofsAreRead : Type 0
WrittenProofsAreRead = (ps : List Refutation) → length ps < 2 ^ 63 → AllByRecursion IsWritable ps → IsProofText (proofs_text ps) ps

-- a log whose steps are right, as they are in an accepted and in a working log, has a text; the numbers of clauses fit i64
abbrev pub RightLogsAreWritable : Type 0
RightLogsAreWritable = (p : Refutation) → IsFormula p.formula → p.formula.vars ≤ 2 ^ 31 → AreRight p.formula.clauses p.steps
    → length p.formula.clauses + length p.steps < 2 ^ 63 → IsWritable p
