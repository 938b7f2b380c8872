-- The kept graph's question, and what is said of each answer.
use Rattle.std.proofs.Common.{◌≡◌, ◌≢◌, ◌⊎◌, inl, inr, ℕ, ◌+◌, Bool, List, [], map, length, sym, ap, subst, ◌∙◌, arith}
use Rattle.std.specs.Prelude.{◌↔◌}
use Rattle.std.proofs.lemmas.List.{length-map}
use Rattle.fs_semantics.specs.FileTree.{Tree}
use Rattle.fs_semantics.specs.Programs.{Program}
use Rattle.fs_semantics.specs.Orders.{Told, up_from, IsDeterministic, IsCounterexample}
use Rattle.finite_domain.specs.Layouts.{IsLayout}
use Rattle.path_domain.specs.declared.listed.Domain.{Domain}
use Rattle.path_domain.specs.Laid.{layout_of}
use Rattle.fs_lang.specs.declared.program.Program.{Program as CodeProgram}
use Rattle.fs_lang.specs.Meaning.{program_of}
use Rattle.orders.specs.Relation.{Relation, comes, Comes}
use Rattle.commute_prune.specs.Pruning.{Prunes}
use Rattle.sure_folders.specs.Pruning.{Move, chosen, between}
use Rattle.commute_prune.specs.Keeping.{Keeps}
use Rattle.cnf.specs.Formulas.{Formula}
use Rattle.cnf.specs.declared.log.Log.{Log}
use Rattle.proof_check.specs.Refuted.{Refutation, HasNoModel}
use Rattle.order_encode.specs.Witnesses.{HaveDifferentOutcomes}
use Rattle.kept_graph.specs.declared.kept.Kept.{Kept}
use Rattle.kept_graph.specs.Kept.{IsKept}
use Rattle.determinism.specs.Questions.{States, StatesKept, IsKeptDeterministic}
use Rattle.determinism.specs.First.{IsPrunedCount, IsDifference}
use Rattle.order_encode.specs.declared.witness.Witness.{Witness}
use Rattle.order_encode.specs.declared.witness.Witness.TheVariants as witness
use Rattle.answering.specs.Answers.{UsesUp}
use Rattle.determinism.specs.Answers.{IsJudged}
use Rattle.determinism.proofs.CommuteLaws.{no_order}
use Rattle.determinism.specs.declared.first.First.TheVariants as first
use Rattle.determinism.specs.declared.first.Sure.TheVariants as sure

-- pruning has one end
abbrev OnePruning : Type 0
OnePruning = (es : List Program) (before : ℕ → ℕ → Bool) (moves others : List Move) (ks kept left : List ℕ)
    → Prunes es (Told before) moves ks kept → Prunes es (Told before) others ks left → (moves ≡ others) × (kept ≡ left)

module _ {es : List Program} {order : Relation} {k : Kept} (is : IsKept es order k) where
  -- pruning keeps what the kept graph has
  keeps : Keeps es (Told (comes order)) k.pruned.kept
  keeps = (is.pruned.moves, is.pruned.prunes)

  -- what the kept graph lacks of all programs is how many are pruned
  pub pruned : (ps : List CodeProgram) (n : ℕ) → es ≡ map program_of ps → length ps ≡ order.count → n + k.order.count ≡ order.count → IsPrunedCount es (Told (comes order)) n
  pruned ps n e m h =
      let count = is.count in
      let long : length es ≡ order.count = ap length e ∙ length-map ps program_of ∙ m in
      (k.pruned.kept, keeps, omega arith)

  -- where something is kept, pruning doesn't end with nothing
  not_alone : OnePruning → k.pruned.kept ≢ [] → Keeps es (Told (comes order)) [] → ⊥
  not_alone one some none = some (one es (comes order) is.pruned.moves none.0 (up_from 0 (length es)) k.pruned.kept [] is.pruned.prunes none.1).1

  -- the formula states the question of the kept graph where that is deterministic, else of the whole one
  abbrev Stated : Formula → Type 0
  Stated f = (IsKeptDeterministic es (Told (comes order)) k.pruned.kept × StatesKept es (Told (comes order)) k.pruned.kept f) ⊎ ((IsKeptDeterministic es (Told (comes order)) k.pruned.kept → ⊥) × States es (Told (comes order)) f)

  -- where all programs are deterministic, any formula without a model states it, whether the kept graph is deterministic or not
  pub stated_by_any : (IsKeptDeterministic es (Told (comes order)) k.pruned.kept ⊎ (IsKeptDeterministic es (Told (comes order)) k.pruned.kept → ⊥)) → IsDeterministic es (Told (comes order)) → (f : Formula) → HasNoModel f → Stated f
  stated_by_any (inl kept) det f none = inl (kept, (no_order (chosen es k.pruned.kept) (between (Told (comes order)) k.pruned.kept) f kept none).1)
  stated_by_any (inr other) det f none = inr (other, (no_order es (Told (comes order)) f det none).1)

  -- the formula states the question of the kept graph, or, where that isn't deterministic, of the whole one
  abbrev Asked : Formula → Type 0
  Asked f = StatesKept es (Told (comes order)) k.pruned.kept f ⊎ ((IsKeptDeterministic es (Told (comes order)) k.pruned.kept → ⊥) × States es (Told (comes order)) f)

  -- a formula that was refuted makes an answer, where it states the question and the programs are deterministic
  pub judged_proved : {budget n : ℕ} {v : Refutation} → OnePruning → k.pruned.kept ≢ [] → IsPrunedCount es (Told (comes order)) n → IsDeterministic es (Told (comes order)) → Stated v.formula → HasNoModel v.formula
      → IsJudged es order budget (first.Sure n (sure.Proved v))
  judged_proved one some count det stated none = record {
    pruned = count;
    alone = ((λ h. absurd h), (λ h. absurd (not_alone one some h)));
    deterministic = det;
    proved = record { kept = k.pruned.kept; keeps = keeps; some = some; states = stated; no_model = none };
    differs = tt;
    spent = tt;
  }

  -- a witness of a difference makes an answer
  pub judged_differs : {budget n : ℕ} {w : Witness} → OnePruning → k.pruned.kept ≢ [] → IsPrunedCount es (Told (comes order)) n → IsDifference es (Told (comes order)) w → IsJudged es order budget (first.Differs n w)
  judged_differs one some count found = record {
    pruned = count;
    alone = ((λ h. absurd h), (λ h. absurd (not_alone one some h)));
    deterministic = tt;
    proved = tt;
    differs = found;
    spent = tt;
  }

  -- a budget that was spent makes an answer, where the formula was to be asked
  pub judged_spent : {budget n : ℕ} {f : Formula} {log : Log} → OnePruning → k.pruned.kept ≢ [] → IsPrunedCount es (Told (comes order)) n → Asked f → UsesUp budget f log.steps → IsJudged es order budget (first.Spent n f log)
  judged_spent one some count asked uses = record {
    pruned = count;
    alone = ((λ h. absurd h), (λ h. absurd (not_alone one some h)));
    deterministic = tt;
    proved = tt;
    differs = tt;
    spent = record { kept = k.pruned.kept; keeps = keeps; some = some; states = asked; working = uses.working; all = uses.all; limited = uses.limited };
  }

  module _ (same : (t : Tree) (o p : List ℕ) → IsCounterexample (map program_of k.programs) (Comes k.order) t o p ↔ IsCounterexample (chosen es k.pruned.kept) (between (Comes order) k.pruned.kept) t o p) where
    -- where the kept graph has different outcomes over a domain, what is kept of all programs has
    differ_too : (d : Domain) → HaveDifferentOutcomes (map program_of k.programs) (Comes k.order) d → HaveDifferentOutcomes (chosen es k.pruned.kept) (between (Comes order) k.pruned.kept) d
    differ_too d h = record { tree = h.tree; left = h.left; right = h.right; over = h.over; counterexample = (same h.tree h.left h.right).0 h.counterexample }

    -- and where what is kept of all programs has, the kept graph has
    differ_back : (d : Domain) → HaveDifferentOutcomes (chosen es k.pruned.kept) (between (Comes order) k.pruned.kept) d → HaveDifferentOutcomes (map program_of k.programs) (Comes k.order) d
    differ_back d h = record { tree = h.tree; left = h.left; right = h.right; over = h.over; counterexample = (same h.tree h.left h.right).1 h.counterexample }

    -- a formula that states the question of the kept graph's programs states that of what is kept of all programs
    pub states_kept : (f : Formula) → States (map program_of k.programs) (Comes k.order) f → StatesKept es (Told (comes order)) k.pruned.kept f
    states_kept f states d lay =
        let told = states d (subst (λ xs. IsLayout xs (layout_of d)) (sym is.programs) lay) in
        ((λ h. differ_too d (told.0 h)), (λ h. told.1 (differ_back d h)))

    -- a counterexample of the kept graph refutes that it is deterministic
    pub not_deterministic : (t : Tree) (o p : List ℕ) → IsCounterexample (map program_of k.programs) (Comes k.order) t o p → IsKeptDeterministic es (Told (comes order)) k.pruned.kept → ⊥
    not_deterministic t o p c det = let d = (same t o p).0 c in d.differ (det t d.is_tree o p d.left_allowed d.right_allowed)

-- the orders as they are lent
pub lent_difference : (es : List Program) (before : ℕ → ℕ → Type 0) (w : Witness) (t : Tree) (o p lent other : List ℕ) → IsDifference es before w → w ≡ witness.Orders t o p → lent ≡ o → other ≡ p → IsDifference es before (witness.Orders t lent other)
lent_difference es before w t o p lent other h is e f = subst (λ x. IsDifference es before (witness.Orders t x other)) (sym e) (subst (λ x. IsDifference es before (witness.Orders t o x)) (sym f) (subst (IsDifference es before) is h))
