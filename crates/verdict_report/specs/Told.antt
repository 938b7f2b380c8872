-- What is told of programs and the order between them, and what holds where it is told. It is told of the file trees in which the
-- given folders stand: those are the trees in which a first run begins.
use Rattle.std.specs.Prelude.{◌≡◌, ◌<◌, ◌⊎◌, ℕ, List, [], ◌∷◌, ◌++◌, length, Some}
use Rattle.std.specs.List.{AllByRecursion}
use Rattle.fs_semantics.specs.FileTree.{Path, Tree}
use Rattle.fs_semantics.specs.Programs.{Program}
use Rattle.fs_semantics.specs.Orders.{IsExchange}
use Rattle.given_hosts.specs.Given.{IsDeterministicFrom, IsIdempotentFrom, SucceedsFrom, IsCounterexampleFrom, IsSecondRunCounterexampleFrom}
use Rattle.orders.specs.Relation.{Relation, Comes}
use Rattle.question_terms.specs.Terms.{budget_of}
use Rattle.question_terms.specs.declared.terms.Terms.{Terms}
use Rattle.cnf.specs.Formulas.{Formula}
use Rattle.cnf.specs.Proofs.{IsAccepted}
use Rattle.cnf.specs.declared.log.Step.{Step}
use Rattle.proof_check.specs.Refuted.{Refutation}
use Rattle.trimmed_proofs.specs.Trimmed.{IsTrimmed, IsTrimmedOf}
use Rattle.order_encode.specs.declared.witness.Witness.{Witness}
use Rattle.order_encode.specs.declared.witness.Witness.TheVariants as witness
use Rattle.determinism.specs.First.{IsPrunedCount}
use Rattle.verdict.specs.declared.verdicts.Asked.{Asked}
use Rattle.verdict.specs.declared.verdicts.Second.{Second}
use Rattle.verdict.specs.declared.verdicts.Second.TheVariants as second
use Rattle.verdict.specs.declared.verdicts.Verdict.{Verdict}
use Rattle.verdict.specs.declared.verdicts.Verdict.TheVariants as verdict
use Rattle.given_verdict.specs.Limits.{HasFewPathsWith, IsLightWith}
use Rattle.given_verdict.specs.Ends.{IsEndProofFrom}
use Rattle.given_verdict.specs.Verdicts.{IsSpentOnFrom, IsKnownBeforeFrom, IsOrderProofFrom, AreTwoProofsFrom, AreProofsBeforeFrom}
use Rattle.verdict_report.specs.declared.report.Form.{Form}
use Rattle.verdict_report.specs.declared.report.Form.TheVariants as form
use Rattle.verdict_report.specs.declared.report.Report.{Report}
use Rattle.verdict_report.specs.Lines.{sure_text, succeeds_line, fails_line, difference_text, change_text, spent_text, proofs_text, status_of, lines_of, proofs_of}

-- ---- how it is told

-- a log that proves, by resolution, that its formula has no model
abbrev pub IsProved : Refutation → Type 0
IsProved p = IsAccepted p.formula p.steps

-- The text is these lines; or it is that of these proofs, each of which is one, and has only steps that its empty clause rests on.
abbrev pub IsText : Form → List ℕ → List Refutation → List ℕ → Type 0
IsText form.Lines lines proofs text = text ≡ lines
IsText form.Proofs lines proofs text = (text ≡ proofs_text proofs) × AllByRecursion IsProved proofs × AllByRecursion IsTrimmed proofs

-- ---- what is told, and what holds where it is told

-- what was refuted to answer all three questions
pub record AreThreeProofs (given : List Path) (es : List Program) (order : Relation) (proofs : List Refutation) : Type 0 where
  pub front : List Refutation
  pub last : Refutation
  pub are : proofs ≡ front ++ last ∷ []
  pub first_two : AreTwoProofsFrom given es order front
  pub third : IsEndProofFrom given es order last.formula

-- the last line: some such tree has a run without error, or none has
abbrev pub IsEnding : List Path → List Program → Relation → List ℕ → List Refutation → Type 0
IsEnding given es order last proofs =
    ((last ≡ succeeds_line) × SucceedsFrom given es (Comes order) × AreTwoProofsFrom given es order proofs)
    ⊎ ((last ≡ fails_line) × (SucceedsFrom given es (Comes order) → ⊥) × AreThreeProofs given es order proofs)

-- Status 0. From every file tree in which the given folders stand all allowed orders end in one same tree or all in error, and a
-- second run, in whatever allowed order, changes nothing.
pub record IsSure (f : Form) (terms : Terms) (notes : List ℕ) (es : List Program) (order : Relation) (k : ℕ)
    (report : Report) : Type 0 where
  pub status : report.status ≡ 0
  pub deterministic : IsDeterministicFrom terms.given es (Comes order)
  pub idempotent : IsIdempotentFrom terms.given es (Comes order)
  pub last : List ℕ
  pub proofs : List Refutation
  pub ending : IsEnding terms.given es order last proofs
  pub text : IsText f (sure_text (length es) notes k last) proofs report.text

-- Status 1. From the tree, in which the given folders stand, the two allowed orders have the outcomes that are told, which differ;
-- and the second is the first with two free neighbours exchanged.
pub record IsDifferent (f : Form) (terms : Terms) (notes : List ℕ) (names : List (List ℕ)) (es : List Program)
    (order : Relation) (k : ℕ) (report : Report) : Type 0 where
  pub status : report.status ≡ 1
  pub tree : Tree
  pub left : List ℕ
  pub right : List ℕ
  pub counterexample : IsCounterexampleFrom terms.given es (Comes order) tree left right
  pub exchange : IsExchange (Comes order) left right
  pub text : IsText f (difference_text names es notes k tree left right) [] report.text

-- Status 2. From every file tree in which the given folders stand all allowed orders end alike; but from the tree that is told, which
-- is such a one, this allowed order ends in a tree which a second run in it doesn't leave as it is. The outcomes of both runs are told.
pub record IsChanged (f : Form) (terms : Terms) (notes : List ℕ) (names : List (List ℕ)) (es : List Program)
    (order : Relation) (k : ℕ) (report : Report) : Type 0 where
  pub status : report.status ≡ 2
  pub deterministic : IsDeterministicFrom terms.given es (Comes order)
  pub tree : Tree
  pub turns : List ℕ
  pub counterexample : IsSecondRunCounterexampleFrom terms.given es (Comes order) tree turns
  pub succeeds : SucceedsFrom terms.given es (Comes order)
  pub proofs : List Refutation
  pub refuted : IsOrderProofFrom terms.given es order proofs
  pub text : IsText f (change_text names es notes k tree turns) proofs report.text

-- Status 3. A number of conflicts is given, and a working log of just as many steps over a formula that states the question shows
-- that they are spent. The lines ahead are true.
pub record IsUnanswered (f : Form) (terms : Terms) (notes : List ℕ) (es : List Program) (order : Relation) (k : ℕ)
    (report : Report) : Type 0 where
  pub status : report.status ≡ 3
  pub conflicts : ℕ
  pub limited : terms.conflicts ≡ Some conflicts
  pub asked : Asked
  pub formula : Formula
  pub steps : List Step
  pub spent : IsSpentOnFrom terms.given es order (budget_of terms.conflicts) asked formula steps
  pub known : IsKnownBeforeFrom terms.given es order asked
  pub proofs : List Refutation
  pub refuted : AreProofsBeforeFrom terms.given es order asked proofs
  pub text : IsText f (spent_text (length es) notes k asked (budget_of terms.conflicts)) proofs report.text

-- The headline. What is told of programs and the order between them, which are within the limits: how many pruning leaves aside,
-- and one of the four. These notes stand behind the number of resources.
pub record IsTold (f : Form) (terms : Terms) (notes : List ℕ) (names : List (List ℕ)) (es : List Program)
    (order : Relation) (report : Report) : Type 0 where
  pub paths : HasFewPathsWith terms.limits terms.given es
  pub weight : IsLightWith terms.limits es
  pub pruned : ℕ
  pub count : IsPrunedCount es (Comes order) pruned
  pub answer : IsSure f terms notes es order pruned report
      ⊎ (IsDifferent f terms notes names es order pruned report
      ⊎ (IsChanged f terms notes names es order pruned report ⊎ IsUnanswered f terms notes es order pruned report))

-- ---- steps

-- the refutations on the left, each with only the steps that are used, are those on the right
abbrev pub AreTrimmedOf : List Refutation → List Refutation → Type 0
AreTrimmedOf [] [] = Unit {0}
AreTrimmedOf [] (q ∷ left) = ⊥
AreTrimmedOf (p ∷ refuted) [] = ⊥
AreTrimmedOf (p ∷ refuted) (q ∷ left) = IsTrimmedOf p q × AreTrimmedOf refuted left

-- the text is these lines; or it is that of these refutations, each with only the steps that are used
abbrev pub IsTextOf : Form → List ℕ → List Refutation → List ℕ → Type 0
IsTextOf form.Lines lines refuted text = text ≡ lines
IsTextOf form.Proofs lines refuted text = (left : List Refutation) × AreTrimmedOf refuted left × IsText form.Proofs lines left text

-- the report has the status of the verdict, and its lines or its proofs
pub record IsReportOf (f : Form) (notes : List ℕ) (names : List (List ℕ)) (es : List Program) (budget : ℕ)
    (judged : Verdict) (report : Report) : Type 0 where
  pub status : report.status ≡ status_of judged
  pub text : IsTextOf f (lines_of names es notes budget judged) (proofs_of judged) report.text

-- the witness has two orders of numbers below n
abbrev pub HasOrders : ℕ → Witness → Type 0
HasOrders n (witness.Orders t left right) = AllByRecursion (λ i. i < n) left × AllByRecursion (λ i. i < n) right
HasOrders n (witness.Twice t order) = ⊥
HasOrders n (witness.Ends t order) = ⊥

-- the witness is of a second run, in an order of numbers below n
abbrev pub HasTurns : ℕ → Witness → Type 0
HasTurns n (witness.Orders t left right) = ⊥
HasTurns n (witness.Twice t order) = AllByRecursion (λ i. i < n) order
HasTurns n (witness.Ends t order) = ⊥

-- the witness, if a second run changes something, is of its kind, and speaks of n programs
abbrev pub IsTellableAgain : ℕ → Second → Type 0
IsTellableAgain n (second.Same v) = Unit {0}
IsTellableAgain n (second.Differs w) = HasTurns n w

-- the same of a verdict
abbrev pub IsTellable : ℕ → Verdict → Type 0
IsTellable n (verdict.NotDeterministic k w) = HasOrders n w
IsTellable n (verdict.Judged k s again e) = IsTellableAgain n again
IsTellable n (verdict.Spent k a cnf log proofs) = Unit {0}
