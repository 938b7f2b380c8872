-- From a verdict to what is told.
use Rattle.std.proofs.Common.{◌≡◌, inl, inr, ◌↔◌, ◌-◌, ◌^◌, ◌<◌, ℕ, List, [], ◌∷◌, ◌++◌, length, Option, Some, None, refl, sym, subst, append_assoc}
use Rattle.std.specs.Prelude.{IsSome}
use Rattle.std.specs.List.{AllByRecursion}
use Rattle.fs_semantics.specs.FileTree.{Path, Tree}
use Rattle.fs_semantics.specs.Programs.{Program, Outcome}
use Rattle.fs_semantics.specs.Orders.{outcome}
use Rattle.given_hosts.specs.Given.{IsDeterministicFrom, IsIdempotentFrom, SucceedsFrom, IsSecondRunCounterexampleFrom}
use Rattle.orders.specs.Relation.{Relation, Comes}
use Rattle.commute_prune.specs.Keeping.{Keeps}
use Rattle.question_terms.specs.Terms.{budget_of}
use Rattle.question_terms.specs.declared.terms.Terms.{Terms}
use Rattle.cnf.specs.Formulas.{Formula}
use Rattle.cnf.specs.declared.log.Step.{Step}
use Rattle.cnf.specs.declared.log.Log.{Log}
use Rattle.proof_check.specs.Refuted.{Refutation}
use Rattle.order_encode.specs.declared.witness.Witness.{Witness}
use Rattle.order_encode.specs.declared.witness.Witness.TheVariants as witness
use Rattle.determinism.specs.declared.first.Sure.{Sure}
use Rattle.determinism.specs.declared.first.Sure.TheVariants as sure
use Rattle.verdict.specs.declared.verdicts.Asked.{Asked}
use Rattle.verdict.specs.declared.verdicts.Asked.TheVariants as asked
use Rattle.verdict.specs.declared.verdicts.Second.TheVariants as second
use Rattle.verdict.specs.declared.verdicts.Ends.{Ends}
use Rattle.verdict.specs.declared.verdicts.Ends.TheVariants as ends
use Rattle.verdict.specs.declared.verdicts.Verdict.{Verdict}
use Rattle.verdict.specs.declared.verdicts.Verdict.TheVariants as verdict
use Rattle.verdict.specs.Verdicts.{proofs_in}
use Rattle.verdict.specs.Verdicts.{IsByPruning, IfByProof, IfFrom, IfNever}
use Rattle.given_verdict.specs.Limits.{HasFewPathsWith, IsLightWith}
use Rattle.given_verdict.specs.First.{IsDifferenceFrom, IsProofFrom}
use Rattle.given_verdict.specs.Second.{IsSecondProofFrom, IsChangeFrom}
use Rattle.given_verdict.specs.Ends.{IsEndProofFrom}
use Rattle.given_verdict.specs.Verdicts.{IsSpentOnFrom, IsKnownBeforeFrom, IsOrderProofFrom, AreTwoProofsFrom, AreProofsBeforeFrom}
use Rattle.given_verdict.specs.Answers.{IsVerdictFrom}
use Rattle.verdict_report.specs.declared.report.Form.{Form}
use Rattle.verdict_report.specs.declared.report.Report.{Report}
use Rattle.verdict_report.specs.Lines.{succeeds_line, fails_line, lines_of}
use Rattle.verdict_report.specs.Told.{AreThreeProofs, IsText, IsSure, IsDifferent, IsChanged, IsUnanswered, IsTold, IsReportOf, HasOrders, HasTurns, IsTellable}
use Rattle.verdict_report.proofs.TrimmedLaws.{HaveFormulasOf, told_text, none_left, last_left}

-- conflicts that are spent are given
pub given_some : (given : Option ℕ) → (budget_of given ≡ 2 ^ 64 - 1 → ⊥) → (c : ℕ) × (given ≡ Some c)
given_some None limited = absurd (limited refl)
given_some (Some c) limited = (c, refl)

-- an outcome that is a tree is one
some_end : (o : Outcome) (u : Tree) → o ≡ Some u → IsSome o
some_end None u is = cc
some_end (Some t) u is = refl

module _ (given : List Path) (es : List Program) (order : Relation) where
  -- where the budget was spent on a question it isn't the greatest number
  limited_in : (budget : ℕ) (a : Asked) (f : Formula) (steps : List Step) → IsSpentOnFrom given es order budget a f steps → budget ≡ 2 ^ 64 - 1 → ⊥
  limited_in budget asked.Deterministic f steps spent = spent.limited
  limited_in budget asked.Idempotent f steps (inl spent) = spent.1.limited
  limited_in budget asked.Idempotent f steps (inr spent) = spent.spent.limited
  limited_in budget asked.Succeeds f steps spent = spent.1.limited

  -- the proof of the first question, if it took one
  order_proof : (s : Sure) → (IsByPruning s ↔ Keeps es (Comes order) []) → IfByProof s (IsProofFrom given es order) → IsOrderProofFrom given es order (proofs_in s)
  order_proof sure.Pruned alone proved = alone.0 tt
  order_proof (sure.Proved v) alone proved = (proved, refl)

  -- the proof of the first question is so with nothing behind it
  order_proof_alone : (s : Sure) → IsOrderProofFrom given es order (proofs_in s) → IsOrderProofFrom given es order (proofs_in s ++ [])
  order_proof_alone sure.Pruned is = is
  order_proof_alone (sure.Proved v) is = is

  -- a first run that a second one changes has ended in a tree
  succeeds_first : (t : Tree) (turns : List ℕ) → IsSecondRunCounterexampleFrom given es (Comes order) t turns → SucceedsFrom given es (Comes order)
  succeeds_first t turns changed = record {
    tree = t;
    is_tree = record { is_tree = changed.shows.is_tree; stand = changed.stand };
    order = turns;
    allowed = changed.shows.allowed;
    ends = some_end (outcome es turns t) changed.shows.after changed.shows.ends;
  }

  -- that proof and the one of the second question are two
  two_proofs : (s : Sure) (v : Refutation) → IsOrderProofFrom given es order (proofs_in s) → IsSecondProofFrom given es order v.formula → AreTwoProofsFrom given es order (proofs_in s ++ v ∷ [])
  two_proofs s v first again = record { front = proofs_in s; last = v; are = refl; first = first; second = again }

  -- and with that of the third they are three
  three_proofs : (s : Sure) (v u : Refutation) → IsOrderProofFrom given es order (proofs_in s) → IsSecondProofFrom given es order v.formula → IsEndProofFrom given es order u.formula
      → AreThreeProofs given es order (proofs_in s ++ v ∷ u ∷ [])
  three_proofs s v u first again last = record {
    front = proofs_in s ++ v ∷ [];
    last = u;
    are = sym (append_assoc (proofs_in s) (v ∷ []) (u ∷ []));
    first_two = two_proofs s v first again;
    third = last;
  }

  -- ---- what can be told

  -- a difference of orders has two orders of these programs
  tellable_orders : (n : ℕ) → n ≡ length es → (w : Witness) → IsDifferenceFrom given es (Comes order) w → HasOrders n w
  tellable_orders n is (witness.Orders t left right) h = (
    subst (λ m. AllByRecursion (λ i. i < m) left) (sym is) h.0.shows.left_allowed.below,
    subst (λ m. AllByRecursion (λ i. i < m) right) (sym is) h.0.shows.right_allowed.below,
  )
  tellable_orders n is (witness.Twice t turns) h = h
  tellable_orders n is (witness.Ends t turns) h = h

  -- a second run that changes something has an order of these programs
  tellable_turns : (n : ℕ) → n ≡ length es → (w : Witness) → IsChangeFrom given es order w → HasTurns n w
  tellable_turns n is (witness.Orders t left right) h = h
  tellable_turns n is (witness.Twice t turns) h = subst (λ m. AllByRecursion (λ i. i < m) turns) (sym is) h.0.shows.allowed.below
  tellable_turns n is (witness.Ends t turns) h = h

  -- a verdict speaks of these programs
  pub tellable : (n : ℕ) → n ≡ length es → (budget : ℕ) (judged : Verdict) → IsVerdictFrom given es order budget judged → IsTellable n judged
  tellable n is budget (verdict.NotDeterministic k w) said = tellable_orders n is w said.differs
  tellable n is budget (verdict.Judged k s (second.Same v) e) said = tt
  tellable n is budget (verdict.Judged k s (second.Differs w) e) said = tellable_turns n is w said.changed
  tellable n is budget (verdict.Spent k a cnf log proofs) said = tt

module _ (given : List Path) (es : List Program) (order : Relation) where
  -- ---- refutations of the same formulas say the same

  -- of the first question
  same_order_proof : (refuted left : List Refutation) → HaveFormulasOf refuted left → IsOrderProofFrom given es order refuted → IsOrderProofFrom given es order left
  same_order_proof [] [] same is = is
  same_order_proof [] (q ∷ left) same is = absurd same
  same_order_proof (p ∷ refuted) [] same is = absurd same
  same_order_proof (p ∷ refuted) (q ∷ left) same is = (subst (IsProofFrom given es order) (sym same.0) is.0, none_left refuted left same.1 is.1)

  -- of the first two
  same_two_proofs : (refuted left : List Refutation) → HaveFormulasOf refuted left → AreTwoProofsFrom given es order refuted → AreTwoProofsFrom given es order left
  same_two_proofs refuted left same is =
      let parts = last_left is.front is.last left (subst (λ ps. HaveFormulasOf ps left) is.are same) in
      record {
        front = parts.0;
        last = parts.1;
        are = parts.2;
        first = same_order_proof is.front parts.0 parts.3 is.first;
        second = subst (IsSecondProofFrom given es order) (sym parts.4) is.second;
      }

  -- of all three
  same_three_proofs : (refuted left : List Refutation) → HaveFormulasOf refuted left → AreThreeProofs given es order refuted → AreThreeProofs given es order left
  same_three_proofs refuted left same is =
      let parts = last_left is.front is.last left (subst (λ ps. HaveFormulasOf ps left) is.are same) in
      record {
        front = parts.0;
        last = parts.1;
        are = parts.2;
        first_two = same_two_proofs is.front parts.0 parts.3 is.first_two;
        third = subst (IsEndProofFrom given es order) (sym parts.4) is.third;
      }

  -- of those that were asked before
  same_proofs_before : (a : Asked) (refuted left : List Refutation) → HaveFormulasOf refuted left → AreProofsBeforeFrom given es order a refuted → AreProofsBeforeFrom given es order a left
  same_proofs_before asked.Deterministic refuted left same is = none_left refuted left same is
  same_proofs_before asked.Idempotent refuted left same is = same_order_proof refuted left same is
  same_proofs_before asked.Succeeds refuted left same is = same_two_proofs refuted left same is

module _ (f : Form) (terms : Terms) (notes : List ℕ) (names : List (List ℕ)) (es : List Program) (order : Relation) (budget : ℕ) where
  -- ---- the four answers

  -- where two orders differ the report tells so
  tells_different : (k : ℕ) (w : Witness) (report : Report) → IsDifferenceFrom terms.given es (Comes order) w
      → IsReportOf f notes names es budget (verdict.NotDeterministic k w) report → IsDifferent f terms notes names es order k report
  tells_different k (witness.Orders t left right) report shown is =
      let lines = lines_of names es notes budget (verdict.NotDeterministic k (witness.Orders t left right)) in
      let told = told_text f lines [] report.text is.text in
      record {
        status = is.status;
        tree = t;
        left = left;
        right = right;
        counterexample = shown.0;
        exchange = shown.1;
        text = subst (λ ps. IsText f lines ps report.text) (none_left [] told.0 told.1 refl) told.2;
      }
  tells_different k (witness.Twice t turns) report shown is = absurd shown
  tells_different k (witness.Ends t turns) report shown is = absurd shown

  -- where a second run changes something the report tells so
  tells_changed : (k : ℕ) (s : Sure) (w : Witness) (e : Ends) (report : Report) → IsDeterministicFrom terms.given es (Comes order)
      → IsOrderProofFrom terms.given es order (proofs_in s) → IsChangeFrom terms.given es order w → IsReportOf f notes names es budget (verdict.Judged k s (second.Differs w) e) report
      → IsChanged f terms notes names es order k report
  tells_changed k s (witness.Orders t left right) e report same refuted shown is = absurd shown
  tells_changed k s (witness.Twice t turns) e report same refuted shown is =
      let told = told_text f (lines_of names es notes budget (verdict.Judged k s (second.Differs (witness.Twice t turns)) e)) (proofs_in s ++ []) report.text is.text in
      record {
        status = is.status;
        deterministic = same;
        tree = t;
        turns = turns;
        counterexample = shown.0;
        succeeds = succeeds_first terms.given es order t turns shown.0;
        proofs = told.0;
        refuted = same_order_proof terms.given es order (proofs_in s ++ []) told.0 told.1 (order_proof_alone terms.given es order s refuted);
        text = told.2;
      }
  tells_changed k s (witness.Ends t turns) e report same refuted shown is = absurd shown

  -- where all is well the report tells so, and whether some tree has a run without error
  tells_sure : (k : ℕ) (s : Sure) (v : Refutation) (e : Ends) (report : Report) → IsDeterministicFrom terms.given es (Comes order)
      → IsOrderProofFrom terms.given es order (proofs_in s) → IsIdempotentFrom terms.given es (Comes order) → IsSecondProofFrom terms.given es order v.formula
      → IfFrom (verdict.Judged k s (second.Same v) e) (λ w. SucceedsFrom terms.given es (Comes order))
      → IfNever (verdict.Judged k s (second.Same v) e) (λ g. SucceedsFrom terms.given es (Comes order) → ⊥)
      → IfNever (verdict.Judged k s (second.Same v) e) (IsEndProofFrom terms.given es order)
      → IsReportOf f notes names es budget (verdict.Judged k s (second.Same v) e) report → IsSure f terms notes es order k report
  tells_sure k s v (ends.From w) report same refuted again proof succeeds fails never is =
      let told = told_text f (lines_of names es notes budget (verdict.Judged k s (second.Same v) (ends.From w))) (proofs_in s ++ v ∷ []) report.text is.text in
      record {
        status = is.status;
        deterministic = same;
        idempotent = again;
        last = succeeds_line;
        proofs = told.0;
        ending = inl (refl, succeeds, same_two_proofs terms.given es order (proofs_in s ++ v ∷ []) told.0 told.1 (two_proofs terms.given es order s v refuted proof));
        text = told.2;
      }
  tells_sure k s v (ends.Never u) report same refuted again proof succeeds fails never is =
      let told = told_text f (lines_of names es notes budget (verdict.Judged k s (second.Same v) (ends.Never u))) (proofs_in s ++ v ∷ u ∷ []) report.text is.text in
      record {
        status = is.status;
        deterministic = same;
        idempotent = again;
        last = fails_line;
        proofs = told.0;
        ending = inr (refl, fails, same_three_proofs terms.given es order (proofs_in s ++ v ∷ u ∷ []) told.0 told.1 (three_proofs terms.given es order s v u refuted proof never));
        text = told.2;
      }

  -- where the budget was spent the report tells on what
  tells_spent : (k : ℕ) (a : Asked) (cnf : Formula) (log : Log) (proofs : List Refutation) (report : Report) → budget ≡ budget_of terms.conflicts
      → IsSpentOnFrom terms.given es order (budget_of terms.conflicts) a cnf log.steps → IsKnownBeforeFrom terms.given es order a → AreProofsBeforeFrom terms.given es order a proofs
      → IsReportOf f notes names es budget (verdict.Spent k a cnf log proofs) report → IsUnanswered f terms notes es order k report
  tells_spent k a cnf log proofs report same spent known refuted is =
      let told : IsReportOf f notes names es (budget_of terms.conflicts) (verdict.Spent k a cnf log proofs) report = subst (λ b. IsReportOf f notes names es b (verdict.Spent k a cnf log proofs) report) same is in
      let text = told_text f (lines_of names es notes (budget_of terms.conflicts) (verdict.Spent k a cnf log proofs)) proofs report.text told.text in
      let some = given_some terms.conflicts (limited_in terms.given es order (budget_of terms.conflicts) a cnf log.steps spent) in
      record {
        status = told.status;
        conflicts = some.0;
        limited = some.1;
        asked = a;
        formula = cnf;
        steps = log.steps;
        spent = spent;
        known = known;
        proofs = text.0;
        refuted = same_proofs_before terms.given es order a proofs text.0 text.1 refuted;
        text = text.2;
      }

  -- ---- the headline

  -- whatever the verdict is, what the report tells holds
  pub told_is : (judged : Verdict) (report : Report) → budget ≡ budget_of terms.conflicts → HasFewPathsWith terms.limits terms.given es → IsLightWith terms.limits es
      → IsVerdictFrom terms.given es order (budget_of terms.conflicts) judged → IsReportOf f notes names es budget judged report → IsTold f terms notes names es order report
  told_is (verdict.NotDeterministic k w) report same few light said is =
      record { paths = few; weight = light; pruned = k; count = said.pruned; answer = inr (inl (tells_different k w report said.differs is)) }
  told_is (verdict.Judged k s (second.Same v) e) report same few light said is = record {
    paths = few;
    weight = light;
    pruned = k;
    count = said.pruned;
    answer = inl (tells_sure k s v e report said.deterministic (order_proof terms.given es order s said.alone said.proved) said.idempotent said.same said.succeeds said.fails said.never is);
  }
  told_is (verdict.Judged k s (second.Differs w) e) report same few light said is = record {
    paths = few;
    weight = light;
    pruned = k;
    count = said.pruned;
    answer = inr (inr (inl (tells_changed k s w e report said.deterministic (order_proof terms.given es order s said.alone said.proved) said.changed is)));
  }
  told_is (verdict.Spent k a cnf log proofs) report same few light said is = record {
    paths = few;
    weight = light;
    pruned = k;
    count = said.pruned;
    answer = inr (inr (inr (tells_spent k a cnf log proofs report same said.spent said.known said.refuted is)));
  }
