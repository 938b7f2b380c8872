-- From the answer to what is told of it.
use Rattle.std.proofs.Common.{◌≡◌, inl, inr, ℕ, ◌<◌, ◌^◌, ◌-◌, List, [], length, refl, subst}
use Rattle.fs_semantics.specs.Programs.{Program}
use Rattle.fs_semantics.specs.FileTree.{Path}
use Rattle.given_hosts.specs.Given.{IsDeterministicFrom}
use Rattle.orders.specs.Relation.{Relation, Comes}
use Rattle.cnf.specs.Formulas.{Formula}
use Rattle.cnf.specs.declared.log.Log.{Log}
use Rattle.cnf.specs.declared.log.Step.{Step}
use Rattle.order_encode.specs.declared.witness.Witness.{Witness}
use Rattle.order_encode.specs.declared.witness.Witness.TheVariants as witness
use Rattle.question_terms.specs.Terms.{budget_of}
use Rattle.question_terms.specs.declared.terms.Terms.{Terms}
use Rattle.given_verdict.specs.Limits.{HasFewPathsWith, IsLightWith}
use Rattle.given_verdict.specs.First.{IsDifferenceFrom, IsSpentFrom}
use Rattle.given_verdict.specs.Settled.{IsUnsettledFrom}
use Rattle.determinism.specs.declared.first.First.{First}
use Rattle.determinism.specs.declared.first.First.TheVariants as first
use Rattle.verdict.specs.declared.verdicts.Asked.TheVariants as asked
use Rattle.verdict.specs.declared.verdicts.Ends.TheVariants as ends
use Rattle.verdict_report.specs.declared.report.Form.TheVariants as form
use Rattle.verdict_report.specs.declared.report.Report.{Report}
use Rattle.verdict_report.specs.Lines.{spent_text}
use Rattle.verdict_report.specs.Told.{IsDifferent, IsUnanswered}
use Rattle.wanted_entry.specs.declared.wanted.Wanted.{Wanted}
use Rattle.ensured_entry.specs.declared.ensured.Late.{Late}
use Rattle.ensured_entry.specs.declared.ensured.Late.TheVariants as late
use Rattle.ensured_entry.specs.declared.ensured.Ensured.{Ensured}
use Rattle.ensured_entry.specs.declared.ensured.Ensured.TheVariants as ensured
use Rattle.given_entry.specs.Sizes.{HasFewPathsProbed}
use Rattle.given_entry.specs.Questions.{IsMissedFrom}
use Rattle.given_entry.specs.Answers.{IsSpentOnFrom, IsKnownBeforeFrom, IsEnsuredFrom}
use Rattle.entry_report.specs.Lines.{missed_of, spent_late_text}
use Rattle.entry_report.specs.Told.{TellsMissed, TellsSpent, IsEntryTold}
use Rattle.entry_report.specs.Steps.{IsTellableFirst, IsReportOf}
use Rattle.ensured_entry.proofs.RunLaws.{below}
use Rattle.verdict_report.proofs.VerdictLaws.{given_some}

-- ---- what the lines need

-- an answer about one graph that isn't known to be deterministic speaks of its programs
pub tellable_first : (given : List Path) (n : ℕ) (es : List Program) (order : Relation) (budget : ℕ) → n ≡ length es → (f : First) → IsUnsettledFrom given es order budget f → IsTellableFirst n f
tellable_first given n es order budget same (first.Sure k s) is = is
tellable_first given n es order budget same (first.Differs k (witness.Orders t left right)) is =
    (below n (length es) left same is.1.0.shows.left_allowed.below, below n (length es) right same is.1.0.shows.right_allowed.below)
tellable_first given n es order budget same (first.Differs k (witness.Twice t turns)) is = is.1
tellable_first given n es order budget same (first.Differs k (witness.Ends t turns)) is = is.1
tellable_first given n es order budget same (first.Spent k cnf log) is = tt

-- ---- what is told

-- where the budget was spent on a question it isn't the greatest number
limited_in : (given : List Path) (es : List Program) (order : Relation) (w : Wanted) (budget : ℕ) (a : Late) (f : Formula) (steps : List Step) → IsSpentOnFrom given es order w budget a f steps → budget ≡ 2 ^ 64 - 1 → ⊥
limited_in given es order w budget late.Ensures f steps spent = spent.1.limited
limited_in given es order w budget late.Succeeds f steps spent = spent.1.limited

-- where the budget was spent on the question of order, a report with this status and this text tells so
pub spent_on_order : (terms : Terms) (budget : ℕ) → budget ≡ budget_of terms.conflicts → (notes : List ℕ) (es : List Program) (order : Relation) (k : ℕ) (cnf : Formula) (log : Log) → IsSpentFrom terms.given es order budget cnf log.steps
    → (report : Report) → report.status ≡ 3 → report.text ≡ spent_text (length es) notes k asked.Deterministic budget → IsUnanswered form.Lines terms notes es order k report
spent_on_order terms budget same notes es order k cnf log spent report status text =
    let used : IsSpentFrom terms.given es order (budget_of terms.conflicts) cnf log.steps = subst (λ b. IsSpentFrom terms.given es order b cnf log.steps) same spent in
    let some = given_some terms.conflicts used.limited in
    record {
      status = status;
      conflicts = some.0;
      limited = some.1;
      asked = asked.Deterministic;
      formula = cnf;
      steps = log.steps;
      spent = used;
      known = tt;
      proofs = [];
      refuted = refl;
      text = subst (λ b. report.text ≡ spent_text (length es) notes k asked.Deterministic b) same text;
    }

module _ (terms : Terms) (notes : List ℕ) (w : Wanted) (names : List (List ℕ)) (es : List Program) (order : Relation) (budget : ℕ) (same : budget ≡ budget_of terms.conflicts) where
  -- where two orders differ the report tells so
  tells_different : (k : ℕ) (x : Witness) (report : Report) → IsDifferenceFrom terms.given es (Comes order) x → IsReportOf notes names es budget (ensured.First (first.Differs k x)) report → IsDifferent form.Lines terms notes names es order k report
  tells_different k (witness.Orders t left right) report shown is =
      record { status = is.status; tree = t; left = left; right = right; counterexample = shown.0; exchange = shown.1; text = is.text }
  tells_different k (witness.Twice t turns) report shown is = absurd shown
  tells_different k (witness.Ends t turns) report shown is = absurd shown

  -- where the budget was spent on the question of order the report tells so
  tells_unanswered : (k : ℕ) (cnf : Formula) (log : Log) (report : Report) → IsSpentFrom terms.given es order budget cnf log.steps → IsReportOf notes names es budget (ensured.First (first.Spent k cnf log)) report → IsUnanswered form.Lines terms notes es order k report
  tells_unanswered k cnf log report spent is = spent_on_order terms budget same notes es order k cnf log spent report is.status is.text

  -- where a run ends without the entry the report tells so
  tells_missed : (k : ℕ) (x : Witness) (report : Report) → IsDeterministicFrom terms.given es (Comes order) → IsMissedFrom terms.given es order w x → report.status ≡ 9 → report.text ≡ missed_of names es notes k x → TellsMissed terms notes w names es order k report
  tells_missed k (witness.Orders t left right) report sure shown status text = absurd shown
  tells_missed k (witness.Twice t turns) report sure shown status text = absurd shown
  tells_missed k (witness.Ends t turns) report sure shown status text = record { status = status; deterministic = sure; tree = t; turns = turns; without = shown; text = text }

  -- where the budget was spent on a later question the report tells so
  tells_spent : (k : ℕ) (a : Late) (cnf : Formula) (log : Log) (report : Report) → IsDeterministicFrom terms.given es (Comes order) → IsSpentOnFrom terms.given es order w budget a cnf log.steps → IsKnownBeforeFrom terms.given es order w a
      → report.status ≡ 3 → report.text ≡ spent_late_text (length es) notes k a budget → TellsSpent terms notes w es order k report
  tells_spent k a cnf log report sure spent known status text =
      let used : IsSpentOnFrom terms.given es order w (budget_of terms.conflicts) a cnf log.steps = subst (λ b. IsSpentOnFrom terms.given es order w b a cnf log.steps) same spent in
      let some = given_some terms.conflicts (limited_in terms.given es order w (budget_of terms.conflicts) a cnf log.steps used) in
      record {
        status = status;
        deterministic = sure;
        conflicts = some.0;
        limited = some.1;
        asked = a;
        formula = cnf;
        steps = log.steps;
        spent = used;
        known = known;
        text = subst (λ b. report.text ≡ spent_late_text (length es) notes k a b) same text;
      }

  module _ (report : Report) (paths : HasFewPathsWith terms.limits terms.given es) (probed : HasFewPathsProbed terms.limits terms.given es w) (weight : IsLightWith terms.limits es) where
    -- whatever the answer is, what the report tells holds
    pub told_is : (e : Ensured) → IsEnsuredFrom terms.given es order w budget e → IsReportOf notes names es budget e report → IsEntryTold terms notes w names es order report
    told_is (ensured.First (first.Sure k s)) said is = absurd said
    told_is (ensured.First (first.Differs k x)) said is = record { paths = paths; probed = probed; weight = weight; pruned = k; count = said.0; answer = inr (inl (tells_different k x report said.1 is)) }
    told_is (ensured.First (first.Spent k cnf log)) said is = record { paths = paths; probed = probed; weight = weight; pruned = k; count = said.0; answer = inr (inr (inr (inl (tells_unanswered k cnf log report said.1 is)))) }
    told_is (ensured.Holds s v (ends.From x)) said is = record {
      paths = paths;
      probed = probed;
      weight = weight;
      pruned = s.pruned;
      count = said.0.pruned;
      answer = inl (record { status = is.status; deterministic = said.0.deterministic; ensures = said.1; last = _; ending = inl (refl, said.3.0); text = is.text });
    }
    told_is (ensured.Holds s v (ends.Never u)) said is = record {
      paths = paths;
      probed = probed;
      weight = weight;
      pruned = s.pruned;
      count = said.0.pruned;
      answer = inl (record { status = is.status; deterministic = said.0.deterministic; ensures = said.1; last = _; ending = inr (refl, said.3.0); text = is.text });
    }
    told_is (ensured.Fails s x) said is =
        record { paths = paths; probed = probed; weight = weight; pruned = s.pruned; count = said.0.pruned; answer = inr (inr (inl (tells_missed s.pruned x report said.0.deterministic said.1 is.status is.text))) }
    told_is (ensured.Spent s a cnf log) said is = record {
      paths = paths;
      probed = probed;
      weight = weight;
      pruned = s.pruned;
      count = said.0.pruned;
      answer = inr (inr (inr (inr (tells_spent s.pruned a cnf log report said.0.deterministic said.2 said.1 is.status is.text))));
    }
