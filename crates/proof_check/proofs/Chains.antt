-- Laws of chains, steps and logs, link by link and step by step.
use Rattle.std.proofs.Common.{◌≡◌, ◌≢◌, inl, inr, ℕ, zero, suc, ◌+◌, ◌-◌, ◌<◌, Bool, true, true≢false, List, [], ◌∷◌, ◌++◌, length, take, drop, get_or, Some, None, refl, sym, ap, ◌∙◌, subst, arith}
use Rattle.std.proofs.lemmas.List.{drop_more, append-nil}
use Rattle.std.proofs.lemmas.Option.{slice_get-get_or, same_Some}
use Rattle.cnf.specs.declared.lit.Lit.{Lit}
use Rattle.cnf.specs.declared.log.Link.{Link}
use Rattle.cnf.specs.declared.log.Step.{Step}
use Rattle.cnf.specs.Literals.{opposite}
use Rattle.cnf.specs.Clauses.{IsClause, HasVariables, has_lit, resolvent, clause_true}
use Rattle.cnf.specs.Formulas.{Formula, Satisfies}
use Rattle.cnf.specs.Proofs.{numbered, Leads, IsRight, AreRight, EndsEmpty, IsAccepted}
use Rattle.cnf.proofs.ClauseLaws.{resolvent_true}
use Rattle.proof_check.specs.declared.fault.Cause.{Cause}
use Rattle.proof_check.specs.declared.fault.Cause.TheVariants.{Resolvent}
use Rattle.proof_check.specs.declared.fault.StepFault.{StepFault}
use Rattle.proof_check.specs.declared.fault.StepFault.TheVariants as fault
use Rattle.proof_check.specs.Causes.{IfCause, IfBad, IsLocated}
use Rattle.proof_check.specs.Refuted.{HasNoModel}
use Rattle.proof_check.specs.declared.fault.CheckFault.{CheckFault}
use Rattle.proof_check.specs.declared.fault.CheckFault.TheVariants as bad_fault
use Rattle.proof_check.specs.Joining.{earlier_of, AreClean}
use Rattle.proof_check.proofs.Numbers.{earlier_more, clean_push}
use Rattle.proof_check.specs.Faults.{LeadsTo, Resolves, ChainFails, StepFails, FirstFault, EndsFull, IsFault}

-- ---- one more link
module _ (earlier : List (List Lit)) (chain : List Link) (i : ℕ) (h : i < length chain) (e : Link) where
  -- the link at a place of the chain
  link : Link
  link = get_or chain i e

  -- where a link resolves and the links behind it lead to a clause, the chain from that link on leads there
  pub leads_more : (c d x : List Lit) → Resolves earlier c (get_or chain i e) d → Leads earlier d (drop (i + 1) chain) x → Leads earlier c (drop i chain) x
  leads_more c d x r rest =
      subst (λ ls. Leads earlier c ls x) (sym (drop_more chain i e h))
      (r.0, r.1, r.2, r.3, subst (λ y. Leads earlier y (drop (i + 1) chain) x) r.4 rest)

  -- where a link resolves and a link behind it fails, the chain from that link on fails there
  pub fails_more : (wanted c d : List Lit) (k n : ℕ) (cause : Cause) → k + 1 ≡ n → Resolves earlier c (get_or chain i e) d → ChainFails earlier wanted d (drop (i + 1) chain) n cause → ChainFails earlier wanted c (drop i chain) k cause
  fails_more wanted c d k n cause q r rest =
      subst (λ ls. ChainFails earlier wanted c ls k cause) (sym (drop_more chain i e h)) (inr (d, r, subst (λ m. ChainFails earlier wanted d (drop (i + 1) chain) m cause) (sym q) rest))

-- the whole chain gave a clause that isn't wanted
pub leads_fails : (earlier : List (List Lit)) (wanted c d : List Lit) (chain : List Link) (k : ℕ) → Leads earlier c chain d → d ≢ wanted → ChainFails earlier wanted c chain k (Resolvent d)
leads_fails earlier wanted c d [] k l n = (ap Resolvent (sym l), λ e. n (sym l ∙ e))
leads_fails earlier wanted c d (link ∷ chain) k l n =
    inr (resolvent link.pivot c l.0, (l.0, l.1, l.2, l.3, refl), leads_fails earlier wanted (resolvent link.pivot c l.0) d chain (k + 1) l.4 n)

-- a step whose chain leads to another clause than its own fails
pub step_fails : (earlier : List (List Lit)) (step : Step) (d : List Lit) → LeadsTo earlier step d → d ≢ step.clause → StepFails earlier step (Resolvent d)
step_fails earlier step d l n = inr (l.0, l.1, leads_fails earlier step.clause l.0 d step.chain 1 l.2 n)

-- what follows from a cause follows of a fault that has one
pub if_cause : (e : StepFault) (P Q : Cause → Type 0) → ((cause : Cause) → P cause → Q cause) → IfCause e P → IfCause e Q
if_cause (fault.Cause cause) P Q f h = f cause h
if_cause (fault.Memory m) P Q f h = tt

-- ---- one more step
module _ (f : Formula) (steps : List Step) (i : ℕ) (h : i < length steps) (s : Step) (at : s ≡ get_or steps i s) where
  -- the steps from a place on are the one there and those behind it
  rest_is : drop i steps ≡ s ∷ drop (i + 1) steps
  rest_is = drop_more steps i s h ∙ ap (λ x. x ∷ drop (i + 1) steps) (sym at)

  -- one more step puts its clause behind those ahead
  more_is : earlier_of f (take (i + 1) steps) ≡ earlier_of f (take i steps) ++ s.clause ∷ []
  more_is = earlier_more f steps i s (slice_get-get_or steps i s h ∙ ap Some (sym at))

  -- the steps from a place on are right, where the first of them and those behind it are
  pub right_more : IsRight (earlier_of f (take i steps)) s → AreRight (earlier_of f (take (i + 1) steps)) (drop (i + 1) steps) → AreRight (earlier_of f (take i steps)) (drop i steps)
  right_more r rest = subst (AreRight (earlier_of f (take i steps))) (sym rest_is) (r, subst (λ e. AreRight e (drop (i + 1) steps)) more_is rest)

  -- the first fault is behind a step that is right
  pub fault_more : (n : ℕ) (cause : Cause) → IsRight (earlier_of f (take i steps)) s → FirstFault (earlier_of f (take (i + 1) steps)) (drop (i + 1) steps) n cause → FirstFault (earlier_of f (take i steps)) (drop i steps) (n + 1) cause
  fault_more n cause r rest =
      subst (λ ss. FirstFault (earlier_of f (take i steps)) ss (n + 1) cause) (sym rest_is)
      (inr (r, (n, refl, subst (λ e. FirstFault e (drop (i + 1) steps) n cause) more_is rest)))

  -- the first fault is at a step that fails
  pub fault_here : (cause : Cause) → StepFails (earlier_of f (take i steps)) s cause → FirstFault (earlier_of f (take i steps)) (drop i steps) 1 cause
  fault_here cause e = subst (λ ss. FirstFault (earlier_of f (take i steps)) ss 1 cause) (sym rest_is) (inl (refl, e))

  -- the clauses ahead stay clauses over the variables with that of one more step
  pub clean_more : (n : ℕ) → AreClean n (earlier_of f (take i steps)) → IsClause s.clause → HasVariables n s.clause → AreClean n (earlier_of f (take (i + 1) steps))
  clean_more n c k v = subst (AreClean n) (sym more_is) (clean_push n (earlier_of f (take i steps)) s.clause c k v)

-- nothing is checked yet
pub right_none : (f : Formula) (steps : List Step) → AreRight (earlier_of f []) steps → AreRight f.clauses steps
right_none f steps h = subst (λ e. AreRight e steps) (append-nil f.clauses) h

-- the first fault of a log is counted from its beginning
pub fault_none : (f : Formula) (steps : List Step) (n : ℕ) (cause : Cause) → FirstFault (earlier_of f []) steps n cause → FirstFault f.clauses steps (n + 0) cause
fault_none f steps n cause h =
    subst (λ m. FirstFault f.clauses steps m cause) (let e : n ≡ n + 0 = omega arith in e) (subst (λ e. FirstFault e steps n cause) (append-nil f.clauses) h)

-- ---- an accepted log's formula has no model
-- a valuation that makes all clauses true makes the one with a number true
numbered_true : (v : ℕ → Bool) (cs : List (List Lit)) (n : ℕ) (c : List Lit) → Satisfies v cs → numbered cs n ≡ Some c → clause_true v c ≡ true
numbered_true v cs zero c s e = absurd cc
numbered_true v [] (suc n) c s e = absurd cc
numbered_true v (d ∷ cs) (suc zero) c s e = let same : d ≡ c = cc in subst (λ x. clause_true v x ≡ true) same s.0
numbered_true v (d ∷ cs) (suc (suc n)) c s e = numbered_true v cs (suc n) c s.1 e

-- resolution is sound: a chain over true clauses leads to a true one
leads_true : (v : ℕ → Bool) (earlier : List (List Lit)) (c d : List Lit) (chain : List Link) → Satisfies v earlier → clause_true v c ≡ true → Leads earlier c chain d → clause_true v d ≡ true
leads_true v earlier c d [] s t l = subst (λ x. clause_true v x ≡ true) l t
leads_true v earlier c d (link ∷ chain) s t l =
    leads_true v earlier (resolvent link.pivot c l.0) d chain s (resolvent_true v link.pivot c l.0 t (numbered_true v earlier link.number l.0 s l.1)) l.4

-- one more true clause leaves all of them true
satisfies_push : (v : ℕ → Bool) (cs : List (List Lit)) (c : List Lit) → Satisfies v cs → clause_true v c ≡ true → Satisfies v (cs ++ c ∷ [])
satisfies_push v [] c s t = (t, tt)
satisfies_push v (d ∷ cs) c s t = (s.0, satisfies_push v cs c s.1 t)

-- no valuation makes the clauses true from which right steps lead to the empty clause
refuted : (v : ℕ → Bool) (earlier : List (List Lit)) (steps : List Step) → Satisfies v earlier → AreRight earlier steps → EndsEmpty steps → ⊥
refuted v earlier [] s r e = e
refuted v earlier (step ∷ []) s r e =
    let t = leads_true v earlier r.0.0 step.clause step.chain s (numbered_true v earlier step.start r.0.0 s r.0.1) r.0.2 in
    true≢false (sym t ∙ ap (clause_true v) e)
refuted v earlier (step ∷ next ∷ steps) s r e =
    let t = leads_true v earlier r.0.0 step.clause step.chain s (numbered_true v earlier step.start r.0.0 s r.0.1) r.0.2 in
    refuted v (earlier ++ step.clause ∷ []) (next ∷ steps) (satisfies_push v earlier step.clause s t) r.1 e

-- a formula with an accepted log has no model
pub accepted_refutes : (f : Formula) (steps : List Step) → IsAccepted f steps → (v : ℕ → Bool) → Satisfies v f.clauses → ⊥
accepted_refutes f steps a v s = refuted v f.clauses steps s a.right a.ends

-- ---- an accepted log has no fault
-- a chain that leads to the clause has no link that fails
right_chain : (earlier : List (List Lit)) (wanted c : List Lit) (chain : List Link) (k : ℕ) (cause : Cause) → Leads earlier c chain wanted → ChainFails earlier wanted c chain k cause → ⊥
right_chain earlier wanted c [] k cause l f = f.1 l
right_chain earlier wanted c (link ∷ chain) k cause l f = elim f [
  | inl here ↦ elim here [
    | inl none ↦ none_some (sym l.1 ∙ none.0)
    | inr pivot ↦ elim pivot.2 [
      | inl a ↦ true≢false (sym l.2 ∙ a)
      | inr b ↦ let same : l.0 ≡ pivot.0 = same_Some l.0 pivot.0 (sym l.1 ∙ pivot.1) in true≢false (sym l.3 ∙ ap (λ x. has_lit x (opposite link.pivot)) same ∙ b)
    ]
  ]
  | inr later ↦
      let r = later.1 in
      let same : l.0 ≡ r.0 = same_Some l.0 r.0 (sym l.1 ∙ r.1) in
      let next : later.0 ≡ resolvent link.pivot c l.0 = r.4 ∙ ap (resolvent link.pivot c) (sym same) in
      right_chain earlier wanted (resolvent link.pivot c l.0) chain (k + 1) cause l.4 (subst (λ x. ChainFails earlier wanted x chain (k + 1) cause) next later.2)
]
  where
    none_some : {x : List Lit} → Some x ≡ None → ⊥
    none_some e = cc

-- a step that is right doesn't fail
right_step : (earlier : List (List Lit)) (step : Step) (cause : Cause) → IsRight earlier step → StepFails earlier step cause → ⊥
right_step earlier step cause r f = elim f [
  | inl none ↦ none_some (sym r.1 ∙ none.0)
  | inr later ↦
      let same : r.0 ≡ later.0 = same_Some r.0 later.0 (sym r.1 ∙ later.1) in
      right_chain earlier step.clause r.0 step.chain 1 cause r.2 (subst (λ x. ChainFails earlier step.clause x step.chain 1 cause) (sym same) later.2)
]
  where
    none_some : {x : List Lit} → Some x ≡ None → ⊥
    none_some e = cc

-- steps that are right have no first fault
right_steps : (earlier : List (List Lit)) (steps : List Step) (n : ℕ) (cause : Cause) → AreRight earlier steps → FirstFault earlier steps n cause → ⊥
right_steps earlier [] n cause r f = f
right_steps earlier (step ∷ steps) n cause r f = elim f [
  | inl here ↦ right_step earlier step cause r.0 here.1
  | inr later ↦ right_steps (earlier ++ step.clause ∷ []) steps later.1.0 cause r.1 later.1.2
]

-- a log doesn't end both in the empty clause and in another one
empty_full : (steps : List Step) → EndsEmpty steps → EndsFull steps → ⊥
empty_full [] e f = e
empty_full (step ∷ []) e f = f e
empty_full (step ∷ next ∷ steps) e f = empty_full (next ∷ steps) e f

-- a log that is accepted has no fault
pub no_fault : (f : Formula) (steps : List Step) (n : ℕ) (cause : Cause) → IsAccepted f steps → IsFault f steps n cause → ⊥
no_fault f steps n cause a (inl none) = subst EndsEmpty none.0 a.ends
no_fault f steps n cause a (inr (inl first)) = right_steps f.clauses steps n cause a.right first
no_fault f steps n cause a (inr (inr full)) = empty_full steps a.ends full.1

-- what follows for a step with its number holds of the fault that is located there
pub located : (n : ℕ) (e : StepFault) (f : CheckFault) (P : Cause → Type 0) (Q : ℕ → Cause → Type 0) → IsLocated n e f → IfCause e P → ((cause : Cause) → P cause → Q n cause) → IfBad f Q
located n (fault.Cause cause) f P Q l h more = subst (λ x. IfBad x Q) (sym l) (more cause h)
located n (fault.Memory m) f P Q l h more = subst (λ x. IfBad x Q) (sym l) tt

-- a formula with an accepted log has no model, in the words of the checker's clause
pub no_model : (f : Formula) (steps : List Step) → IsAccepted f steps → HasNoModel f
no_model f steps a v s = accepted_refutes f steps a v s

-- the last step decides
pub ends_at_last : (steps : List Step) (s : Step) → 0 < length steps → s ≡ get_or steps (length steps - 1) s → s.clause ≡ [] → EndsEmpty steps
ends_at_last [] s h at e = absurd (omega arith)
ends_at_last (step ∷ []) s h at e = ap (λ (x : Step). x.clause) (sym at) ∙ e
ends_at_last (step ∷ next ∷ steps) s h at e =
    let k : length (step ∷ next ∷ steps) - 1 ≡ suc (length (next ∷ steps) - 1) = omega arith in
    ends_at_last (next ∷ steps) s (omega arith) (at ∙ ap (λ n. get_or (step ∷ next ∷ steps) n s) k) e

-- a log whose last step has a clause that isn't empty ends in such a one
pub ends_full_at_last : (steps : List Step) (s : Step) → 0 < length steps → s ≡ get_or steps (length steps - 1) s → s.clause ≢ [] → EndsFull steps
ends_full_at_last [] s h at e = absurd (omega arith)
ends_full_at_last (step ∷ []) s h at e = λ empty. e (ap (λ (x : Step). x.clause) at ∙ empty)
ends_full_at_last (step ∷ next ∷ steps) s h at e =
    let k : length (step ∷ next ∷ steps) - 1 ≡ suc (length (next ∷ steps) - 1) = omega arith in
    ends_full_at_last (next ∷ steps) s (omega arith) (at ∙ ap (λ n. get_or (step ∷ next ∷ steps) n s) k) e

-- a log with a first fault isn't accepted
pub if_bad_only : (f : Formula) (steps : List Step) (e : CheckFault) → IfBad e (λ n cause. FirstFault f.clauses steps n cause) → IfBad e (λ n cause. IsAccepted f steps → ⊥)
if_bad_only f steps (bad_fault.Bad bad) h = λ a. right_steps f.clauses steps bad.step bad.cause a.right h
if_bad_only f steps (bad_fault.Memory m) h = tt

-- a log that ends in a clause that isn't empty isn't accepted
pub full_refuses : (f : Formula) (steps : List Step) → EndsFull steps → IsAccepted f steps → ⊥
full_refuses f steps e a = empty_full steps a.ends e
