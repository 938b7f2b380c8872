-- What a framed text spells.
use Rattle.std.proofs.Common.{◌≡◌, ℕ, List, [], ◌∷◌, Option, Some, None, refl, subst, sym}
use Rattle.rh_base.specs.Refused.{IfRefused}
use Rattle.rh_base.specs.declared.fault.Fault.{Fault}
use Rattle.rh_base.specs.declared.fault.Fault.TheVariants.{Refused}
use Rattle.rh_base.specs.declared.fault.Refusal.{Refusal}
use Rattle.cnf.specs.Formulas.{Formula}
use Rattle.proof_check.specs.Refuted.{Refutation}
use Rattle.proof_check.specs.ProofWords.{IsProofText}
use Rattle.dimacs.specs.Dimacs.{framed, alone, IsDimacs, Reads}

-- the one formula that the framed text spells, without steps, is what the text spells
pub reads_only : (text bytes : List ℕ) → bytes ≡ framed text → (found : List Refutation) → IsProofText bytes found
    → ((ps : List Refutation) → IsProofText bytes ps → found ≡ ps) → (r : Option Formula)
    → ((f : Formula) → r ≡ Some f → found ≡ alone f ∷ []) → (r ≡ None → (f : Formula) → found ≡ alone f ∷ [] → ⊥) → Reads text r
reads_only text bytes is found spelled only (Some f) some none =
    subst (λ (b : List ℕ). IsProofText b (alone f ∷ [])) is (subst (IsProofText bytes) (some f refl) spelled)
reads_only text bytes is found spelled only None some none =
    λ f h. none refl f (only (alone f ∷ []) (subst (λ (b : List ℕ). IsProofText b (alone f ∷ [])) (sym is) h))

-- a framed text that is refused comes of a text that spells no formula
pub reads_none : (text bytes : List ℕ) → bytes ≡ framed text → (fault : Fault) (r : Refusal) → fault ≡ Refused r → (Q : Refusal → Type 0)
    → IfRefused fault (λ s. Q s × ((ps : List Refutation) → IsProofText bytes ps → ⊥)) → (f : Formula) → IsDimacs text f → ⊥
reads_none text bytes is fault r e Q h f spelled =
    (subst (λ (x : Fault). IfRefused x (λ s. Q s × ((ps : List Refutation) → IsProofText bytes ps → ⊥))) e h).1 (alone f ∷ [])
    (subst (λ (b : List ℕ). IsProofText b (alone f ∷ [])) (sym is) spelled)
