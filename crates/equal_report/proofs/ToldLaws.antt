-- From the answer to what is told of it.
use Rattle.std.proofs.Common.{◌≡◌, ◌⊎◌, inl, inr, ℕ, List, ◌++◌, length, refl, subst, sym, ap, ◌∙◌}
use Rattle.fs_semantics.specs.FileTree.{Path, Tree}
use Rattle.fs_semantics.specs.Programs.{Program}
use Rattle.fs_semantics.specs.Orders.{IsLinearExtension, outcome}
use Rattle.orders.specs.Relation.{Relation, Comes}
use Rattle.cnf.specs.declared.log.Log.{Log}
use Rattle.cnf.specs.Formulas.{Formula}
use Rattle.order_encode.specs.declared.witness.Witness.TheVariants as witness
use Rattle.order_encode.specs.Witnesses.{IsFirstExtension}
use Rattle.order_encode.proofs.WitnessLaws.{Long, first_same}
use Rattle.determinism.specs.declared.first.First.{First}
use Rattle.determinism.specs.declared.first.First.TheVariants as first
use Rattle.verdict.specs.declared.verdicts.Asked.TheVariants as asked
use Rattle.verdict_report.specs.declared.report.Report.{Report}
use Rattle.question_terms.specs.Terms.{budget_of}
use Rattle.question_terms.specs.declared.terms.Terms.{Terms}
use Rattle.verdict.specs.declared.verdicts.Settled.{Settled}
use Rattle.given_verdict.specs.Settled.{IsSettledFrom, IsUnsettledFrom}
use Rattle.verdict_report.specs.Lines.{spent_text}
use Rattle.entry_report.specs.Lines.{first_status, first_lines}
use Rattle.entry_report.proofs.ToldLaws.{tellable_first, spent_on_order}
use Rattle.equal_graphs.specs.Equal.{FirstsPart, EndApart}
use Rattle.given_equal.specs.Sizes.{AreWithinWith}
use Rattle.given_equal.specs.Answers.{IsSpentOnFrom, IsComparedFrom}
use Rattle.equal_graphs.specs.declared.compared.Compared.{Compared}
use Rattle.equal_graphs.specs.declared.compared.Compared.TheVariants as compared
use Rattle.equal_report.specs.Lines.{settled_lines, spent_equal_text}
use Rattle.equal_report.specs.Steps.{IsTellable, IsReportOf}
use Rattle.equal_report.specs.Told.{IsSettledWith, TellsDifference, TellsUnanswered, TellsSpent, Tells, differs, unanswered, equal, unequal, spent, IsComparedTold}
use Rattle.verdict_report.proofs.VerdictLaws.{given_some}

-- ---- what the lines need

-- an answer about two graphs speaks of the programs of the one that it is about
pub tellable : (given : List Path) (n m : ℕ) (es : List Program) (order : Relation) (fs : List Program) (other : Relation) (budget : ℕ) → n ≡ length es → m ≡ length fs
    → (c : Compared) → IsComparedFrom given es order fs other budget c → IsTellable n m c
tellable given n m es order fs other budget left right (compared.Left f) is = tellable_first given n es order budget left f is
tellable given n m es order fs other budget left right (compared.Right l f) is = tellable_first given m fs other budget right f is.1
tellable given n m es order fs other budget left right (compared.Equal l r v) is = tt
tellable given n m es order fs other budget left right (compared.Differ l r t) is = tt
tellable given n m es order fs other budget left right (compared.Spent l r cnf log) is = tt

-- ---- what is told

-- the first extension is an allowed order
allowed : (es : List Program) (order : Relation) (o : List ℕ) → length es ≡ order.count → IsFirstExtension order o → IsLinearExtension (length es) (Comes order) o
allowed es order o long is = subst (λ n. IsLinearExtension n (Comes order) o) (sym long) is.allowed

-- the first extensions are those that are told
apart : Long → (es : List Program) (order : Relation) (fs : List Program) (other : Relation) (t : Tree) → length es ≡ order.count → length fs ≡ other.count → (o p : List ℕ) → IsFirstExtension order o → IsFirstExtension other p
    → FirstsPart es order fs other t → EndApart es (Comes order) fs (Comes other) t o p
apart long es order fs other t left right o p first second part = record {
  is_tree = part.is_tree;
  left_allowed = allowed es order o left first;
  right_allowed = allowed fs other p right second;
  differ = λ e. part.differ (ap (λ x. outcome es x t) (first_same long order part.left o part.left_first first) ∙ e ∙ sym (ap (λ x. outcome fs x t) (first_same long other part.right p part.right_first second)));
}

-- a graph that is deterministic is told so, with what pruning leaves aside
settled_with : (given : List Path) (es : List Program) (order : Relation) (s : Settled) → IsSettledFrom given es order s → IsSettledWith given es order s.pruned
settled_with given es order s is = record { deterministic = is.deterministic; count = is.pruned }

module _ (terms : Terms) (budget : ℕ) (same : budget ≡ budget_of terms.conflicts) where
  -- where the budget was spent on the order of one graph the report tells so
  tells_unanswered : (notes : List ℕ) (es : List Program) (order : Relation) (k : ℕ) (cnf : Formula) (log : Log) → IsUnsettledFrom terms.given es order budget (first.Spent k cnf log) → (report : Report) → report.status ≡ 3
      → report.text ≡ spent_text (length es) notes k asked.Deterministic budget → TellsUnanswered terms notes es order report
  tells_unanswered notes es order k cnf log is report status text = record { pruned = k; count = is.0; unanswered = spent_on_order terms budget same notes es order k cnf log is.1 report status text }

  -- what is told of one graph that isn't known to be deterministic
  unsettled : (notes : List ℕ) (names : List (List ℕ)) (es : List Program) (order : Relation) (f : First) → IsUnsettledFrom terms.given es order budget f → (report : Report) → report.status ≡ first_status f
      → report.text ≡ first_lines names es notes budget f → TellsDifference terms notes names es order report ⊎ TellsUnanswered terms notes es order report
  unsettled notes names es order (first.Sure k s) is report status text = absurd is
  unsettled notes names es order (first.Differs k (witness.Orders t left right)) is report status text = inl (record {
    pruned = k;
    count = is.0;
    different = record { status = status; tree = t; left = left; right = right; counterexample = is.1.0; exchange = is.1.1; text = text };
  })
  unsettled notes names es order (first.Differs k (witness.Twice t turns)) is report status text = absurd is.1
  unsettled notes names es order (first.Differs k (witness.Ends t turns)) is report status text = absurd is.1
  unsettled notes names es order (first.Spent k cnf log) is report status text = inr (tells_unanswered notes es order k cnf log is report status text)

  module _ (long : Long) (notes other_notes : List ℕ) (names : List (List ℕ)) (es : List Program) (order : Relation) (others : List (List ℕ)) (fs : List Program) (other : Relation) (left_long : length es ≡ order.count) (right_long : length fs ≡ other.count)
      (report : Report) where
    -- where the budget was spent on whether the two do the same the report tells so
    tells_spent : (l r : Settled) (cnf : Formula) (log : Log) → IsSettledFrom terms.given es order l → IsSettledFrom terms.given fs other r → IsSpentOnFrom terms.given es order fs other budget cnf log.steps → report.status ≡ 3
        → report.text ≡ spent_equal_text notes other_notes (length es) l.pruned (length fs) r.pruned budget → TellsSpent terms notes other_notes es order fs other report
    tells_spent l r cnf log one second spent_on status text =
        let used : IsSpentOnFrom terms.given es order fs other (budget_of terms.conflicts) cnf log.steps = subst (λ b. IsSpentOnFrom terms.given es order fs other b cnf log.steps) same spent_on in
        let some = given_some terms.conflicts used.1.limited in
        record {
          status = status;
          left = l.pruned;
          left_settled = settled_with terms.given es order l one;
          right = r.pruned;
          right_settled = settled_with terms.given fs other r second;
          conflicts = some.0;
          limited = some.1;
          formula = cnf;
          steps = log.steps;
          spent = used;
          text = subst (λ b. report.text ≡ spent_equal_text notes other_notes (length es) l.pruned (length fs) r.pruned b) same text;
        }

    -- what is told of the left graph is one of what may be told
    tells_left : TellsDifference terms notes names es order report ⊎ TellsUnanswered terms notes es order report → Tells terms notes other_notes names es order others fs other report
    tells_left (inl d) = differs (inl d)
    tells_left (inr u) = unanswered (inl u)

    -- and so is what is told of the right one, behind the lines of the left
    tells_right : (l : Settled) (rest : List ℕ) → IsSettledFrom terms.given es order l → report.text ≡ settled_lines (length es) notes l.pruned ++ rest
        → TellsDifference terms other_notes others fs other (record { status = report.status; text = rest }) ⊎ TellsUnanswered terms other_notes fs other (record { status = report.status; text = rest })
        → Tells terms notes other_notes names es order others fs other report
    tells_right l rest one text (inl d) = differs (inr (record { pruned = l.pruned; settled = settled_with terms.given es order l one; rest = rest; behind = d; text = text }))
    tells_right l rest one text (inr u) = unanswered (inr (record { pruned = l.pruned; settled = settled_with terms.given es order l one; rest = rest; behind = u; text = text }))

    -- whatever the answer is, the report is one of what may be told
    tells : (c : Compared) → IsComparedFrom terms.given es order fs other budget c → IsReportOf notes other_notes names es order others fs other budget c report → Tells terms notes other_notes names es order others fs other report
    tells (compared.Left f) said is = tells_left (unsettled notes names es order f said report is.status is.text)
    tells (compared.Right l f) said is =
        tells_right l (first_lines others fs other_notes budget f) said.0 is.text (unsettled other_notes others fs other f said.1 (record { status = report.status; text = first_lines others fs other_notes budget f }) is.status refl)
    tells (compared.Equal l r v) said is = equal (record {
      status = is.status;
      left = l.pruned;
      left_settled = settled_with terms.given es order l said.0;
      right = r.pruned;
      right_settled = settled_with terms.given fs other r said.1;
      equal = said.2;
      text = is.text;
    })
    tells (compared.Differ l r t) said is = unequal (record {
      status = is.status;
      left = l.pruned;
      left_settled = settled_with terms.given es order l said.0;
      right = r.pruned;
      right_settled = settled_with terms.given fs other r said.1;
      tree = t;
      turns = is.first;
      other_turns = is.second;
      stand = said.2.stand;
      apart = apart long es order fs other t left_long right_long is.first is.second is.is_first is.is_second said.2.shows;
      text = is.text;
    })
    tells (compared.Spent l r cnf log) said is = spent (tells_spent l r cnf log said.0 said.1 said.2 is.status is.text)

    -- and of graphs within the limits, what it tells holds
    pub told_is : AreWithinWith terms.limits terms.given es fs → (c : Compared) → IsComparedFrom terms.given es order fs other budget c → IsReportOf notes other_notes names es order others fs other budget c report
        → IsComparedTold terms notes other_notes names es order others fs other report
    told_is within c said is = record { within = within; answer = tells c said is }
