-- What the program may say of a text of proofs.
use Rattle.std.specs.Prelude.{◌≡◌, ◌⊎◌, ℕ, ◌+◌, List, ◌∷◌, ◌++◌, length, codes}
use Rattle.std.specs.Fmt.{decimal}
use Rattle.std.specs.List.{AllByRecursion}
use Rattle.rh_base.specs.declared.fault.Refusal.{Refusal}
use Rattle.rh_base.specs.Refused.{IsRefusal}
use Rattle.cnf.specs.Proofs.{IsAccepted}
use Rattle.proof_check.specs.declared.fault.Cause.{Cause}
use Rattle.proof_check.specs.Faults.{IsFault}
use Rattle.proof_check.specs.Refuted.{Refutation, HasNoModel}
use Rattle.proof_check.specs.ProofWords.{IsProofText}

-- the log is a proof of the formula by resolution, which therefore has no model
pub record IsRefuted (proof : Refutation) : Type 0 where
  pub accepted : IsAccepted proof.formula proof.steps
  pub no_model : HasNoModel proof.formula

-- the line of a report on n proofs
abbrev pub verified_line : ℕ → List ℕ
verified_line n = codes "verified " ++ (decimal n ++ codes "\n")

-- the text spells proofs, of which each is one, and the report tells how many
pub record AreVerified (text report : List ℕ) : Type 0 where
  pub proofs : List Refutation
  pub spelled : IsProofText text proofs
  pub refuted : AllByRecursion IsRefuted proofs
  pub line : report ≡ verified_line (length proofs)

-- the first that is no proof is the one of this number, counted from 1, and this is its first step that fails
pub record FirstBad (proofs : List Refutation) (number step : ℕ) : Type 0 where
  pub front : List Refutation
  pub bad : Refutation
  pub back : List Refutation
  pub whole : proofs ≡ front ++ bad ∷ back
  pub refuted : AllByRecursion IsRefuted front
  pub number_is : number ≡ length front + 1
  pub cause : Cause
  pub fault : IsFault bad.formula bad.steps step cause

-- the name of a refusal of a proof
abbrev pub bad_proof : ℕ → ℕ → List ℕ
bad_proof number step = codes "proof " ++ (decimal number ++ (codes " step " ++ decimal step))

-- the text spells no proofs
abbrev pub SpellsNone : List ℕ → Type 0
SpellsNone text = (proofs : List Refutation) → IsProofText text proofs → ⊥

-- the text spells proofs, and this is the refusal of the first that is none
pub record HasBad (text : List ℕ) (r : Refusal) : Type 0 where
  pub proofs : List Refutation
  pub spelled : IsProofText text proofs
  pub number : ℕ
  pub step : ℕ
  pub first : FirstBad proofs number step
  pub refusal : IsRefusal 81 0 (bad_proof number step) r

-- the text spells no proofs, or one of them is none
abbrev pub BreaksProofRule : List ℕ → Refusal → Type 0
BreaksProofRule text r = (IsRefusal 80 0 (codes "proof") r × SpellsNone text) ⊎ HasBad text r
