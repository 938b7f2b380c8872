-- What a checked proof keeps.
use Rattle.std.specs.Prelude.{ℕ, Bool, List}
use Rattle.cnf.specs.declared.log.Step.{Step}
use Rattle.cnf.specs.declared.log.Log.{Log}
use Rattle.cnf.specs.Formulas.{Formula, Satisfies}

-- a formula, and the steps of a log
pub record Refutation : Type 0 where
  pub formula : Formula
  pub steps : List Step

-- no valuation makes each clause true
abbrev pub HasNoModel : Formula → Type 0
HasNoModel f = (v : ℕ → Bool) → Satisfies v f.clauses → ⊥

-- a formula and its log
abbrev pub refutation : Formula × Log → Refutation
refutation p = record { formula = p.0; steps = p.1.steps }
