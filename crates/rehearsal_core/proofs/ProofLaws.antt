-- One proof of a text after another.
use Rattle.std.proofs.Common.{◌≡◌, ℕ, suc, ◌+◌, map, List, [], ◌∷◌, ◌++◌, length, refl, ap, sym, subst₂, ◌∙◌}
use Rattle.std.specs.List.{AllByRecursion}
use Rattle.rh_base.specs.declared.fault.Refusal.{Refusal}
use Rattle.rh_base.specs.declared.fault.Fault.{Fault}
use Rattle.rh_base.specs.declared.fault.Fault.TheVariants.{Refused, Memory}
use Rattle.rh_base.specs.Refused.{IfRefused, IsRefusal}
use Rattle.cnf.specs.declared.log.Log.{Log}
use Rattle.cnf.specs.Formulas.{Formula}
use Rattle.proof_check.specs.declared.fault.Cause.{Cause}
use Rattle.proof_check.specs.Faults.{IsFault}
use Rattle.proof_check.specs.Refuted.{refutation}
use Rattle.rehearsal_core.specs.Verified.{IsRefuted, FirstBad, bad_proof}

-- what is refused for one reason is refused for another that follows
pub broken : (e : Fault) (P Q : Refusal → Type 0) → ((r : Refusal) → P r → Q r) → IfRefused e P → IfRefused e Q
broken (Refused r) P Q f h = f r h
broken (Memory m) P Q f h = tt

-- a formula with its log
abbrev pub Proof : Type 0
Proof = Formula × Log

-- one more that is a proof
pub one_more : (front : List Proof) (p : Proof) → AllByRecursion IsRefuted (map refutation front) → IsRefuted (refutation p)
    → AllByRecursion IsRefuted (map refutation (front ++ p ∷ []))
one_more [] p h is = (is, tt)
one_more (q ∷ front) p h is = (h.0, one_more front p h.1 is)

-- the refutations of two lists joined are those of the one and then those of the other
map_joined : (front back : List Proof) → map refutation (front ++ back) ≡ map refutation front ++ map refutation back
map_joined [] back = refl
map_joined (p ∷ front) back = ap (λ ps. refutation p ∷ ps) (map_joined front back)

-- there are as many refutations as proofs
map_length : (front : List Proof) → length (map refutation front) ≡ length front
map_length [] = refl
map_length (p ∷ front) = ap suc (map_length front)

-- the proof with this number fails in some step, and this is the refusal for it
abbrev pub NoProof : Formula → Log → ℕ → Refusal → Type 0
NoProof f log number r = (step : ℕ) × (cause : Cause) × IsFault f log.steps step cause × IsRefusal 81 0 (bad_proof number step) r

-- the first of these that is no proof has this refusal
abbrev pub HasFirstBad : List Proof → Refusal → Type 0
HasFirstBad proofs r = (number : ℕ) × (step : ℕ) × FirstBad (map refutation proofs) number step × IsRefusal 81 0 (bad_proof number step) r

-- behind proofs stands one that is none
first_bad : (front : List Proof) (p : Proof) (back : List Proof) (step : ℕ) (cause : Cause) → AllByRecursion IsRefuted (map refutation front)
    → IsFault p.0 p.1.steps step cause → FirstBad (map refutation (front ++ p ∷ back)) (length front + 1) step
first_bad front p back step cause h fault = record {
  front = map refutation front;
  bad = refutation p;
  back = map refutation back;
  whole = map_joined front (p ∷ back);
  refuted = h;
  number_is = ap (λ n. n + 1) (sym (map_length front));
  cause = cause;
  fault = fault;
}

-- behind proofs, one that is none is the first that is refused
pub first_is_refused : (proofs front : List Proof) (p : Proof) (back rest : List Proof) (number : ℕ) (r : Refusal) → proofs ≡ front ++ rest → rest ≡ p ∷ back
    → AllByRecursion IsRefuted (map refutation front) → number ≡ length front → NoProof p.0 p.1 (number + 1) r → HasFirstBad proofs r
first_is_refused proofs front p back rest number r whole next h counted bad =
    let here : proofs ≡ front ++ p ∷ back = whole ∙ ap (λ ps. front ++ ps) next in
    let first : FirstBad (map refutation (front ++ p ∷ back)) (length front + 1) bad.0 = first_bad front p back bad.0 bad.1 h bad.2 in
    (number + 1, bad.0, subst₂ (λ ps n. FirstBad (map refutation ps) (n + 1) bad.0) (sym here) (sym counted) first, bad.3)
