-- What is said of one graph with the guard in front, said of the graph: how many are pruned, why it is deterministic, and how its first
-- extension ends.
use Rattle.std.proofs.Common.{◌≡◌, ◌≢◌, ◌↔◌, ℕ, ◌-◌, ◌≤◌, List, [], ◌∷◌, length, None, sym, ap, subst, ◌∙◌}
use Rattle.fs_semantics.specs.FileTree.{Path, Tree}
use Rattle.fs_semantics.specs.Programs.{Program}
use Rattle.fs_semantics.specs.Orders.{Told, IsLinearExtension, outcome, IsDeterministic}
use Rattle.given_hosts.specs.Given.{Stand, IsGivenTree, IsDeterministicFrom}
use Rattle.given_hosts.specs.Guard.{guarded, guard_before, GoesFirst}
use Rattle.given_hosts.proofs.GuardLaws.{goes_first, ends_where_stand, fails_elsewhere}
use Rattle.given_hosts.proofs.GraphLaws.{order_behind, deterministic}
use Rattle.orders.specs.Relation.{Relation, comes}
use Rattle.commute_prune.specs.Keeping.{Keeps}
use Rattle.order_encode.specs.Witnesses.{IsFirstExtension}
use Rattle.determinism.specs.First.{IsPrunedCount, IsProof, IsSpent, IsDifference, IfDiffers}
use Rattle.determinism.specs.Answers.{HasTwoOrders}
use Rattle.determinism.specs.declared.first.First.{First}
use Rattle.determinism.specs.declared.first.First.TheVariants as first
use Rattle.determinism.specs.declared.first.Sure.{Sure}
use Rattle.determinism.specs.declared.first.Sure.TheVariants as sure
use Rattle.verdict.specs.declared.verdicts.Settled.{Settled}
use Rattle.verdict.specs.Verdicts.{IsByPruning, IfByProof}
use Rattle.verdict.specs.Settled.{IsSettled, IsUnsettled}
use Rattle.given_verdict.specs.First.{IsProofFrom, IsAnswerWithout}
use Rattle.given_verdict.specs.Settled.{IsSettledFrom, IsUnsettledFrom, without}
use Rattle.given_verdict.proofs.AskedLaws.{proof_of_guarded, spent_of_guarded}
use Rattle.given_verdict.proofs.FirstLaws.{counted, alone_back, two_orders, shown}

module _ (given : List Path) (es : List Program) (order : Relation) (long : length es ≡ order.count) (more : Relation) (before : comes more ≡ guard_before order.count (comes order)) where
  -- the guard goes first in the order with the guard
  pub goes : GoesFirst (length es) (comes order) (comes more)
  goes = subst (GoesFirst (length es) (comes order)) (sym before) (subst (λ n. GoesFirst n (comes order) (guard_before order.count (comes order))) (sym long) (goes_first order.count (comes order)))

  -- where the graph with the guard is deterministic, the graph is so from the given trees
  pub sure_from : IsDeterministic (guarded given es) (Told (comes more)) → IsDeterministicFrom given es (Told (comes order))
  sure_from h = (deterministic given es (comes order) (comes more) goes).0 h

  -- a formula that proves it with the guard proves it from the given trees
  pub proved_from : given ≢ [] → (s : Sure) → IfByProof s (IsProof (guarded given es) (Told (comes more))) → IfByProof s (IsProofFrom given es order)
  proved_from some sure.Pruned h = tt
  proved_from some (sure.Proved v) h = proof_of_guarded given es order some v.formula (subst (λ t. IsProof (guarded given es) (Told t) v.formula) before h)

  module _ (some : given ≢ []) (kept_by : (kept : List ℕ) → Keeps (guarded given es) (Told (guard_before order.count (comes order))) kept → Keeps es (Told (comes order)) kept)
      (one : (kept left : List ℕ) → Keeps es (Told (comes order)) kept → Keeps es (Told (comes order)) left → kept ≡ left)
      (few : (kept : List ℕ) → Keeps es (Told (comes order)) kept → length kept ≤ length es) where
    -- one program less is pruned of the graph than of the graph with the guard
    pub pruned_from : (n : ℕ) → IsPrunedCount (guarded given es) (Told (comes more)) n → IsPrunedCount es (Told (comes order)) (n - 1)
    pruned_from n c = counted given es order long some kept_by one few n (subst (λ t. IsPrunedCount (guarded given es) (Told t) n) before c)

    -- where pruning alone answers just when it keeps nothing with the guard, it does just when it keeps nothing without it
    pub alone_from : (n : ℕ) (s : Sure) → IsPrunedCount (guarded given es) (Told (comes more)) n → IsByPruning s ↔ Keeps (guarded given es) (Told (comes more)) [] → IsByPruning s ↔ Keeps es (Told (comes order)) []
    alone_from n s c h = (
      (λ k. kept_by [] (subst (λ t. Keeps (guarded given es) (Told t) []) before (h.0 k))),
      (λ k. h.1 (subst (λ t. Keeps (guarded given es) (Told t) []) (sym before)
          (alone_back given es order long some kept_by one few n (subst (λ t. IsPrunedCount (guarded given es) (Told t) n) before c) k))),
    )

  module _ (count : length (guarded given es) ≡ more.count) where
    -- the first extension with the guard is the guard, and then an allowed order of the programs
    pub behind : (o : List ℕ) → IsFirstExtension more o → (p : List ℕ) × (o ≡ length es ∷ p) × IsLinearExtension (length es) (Told (comes order)) p
    behind o is = order_behind given es (comes order) (comes more) goes o (subst (λ n. IsLinearExtension n (Told (comes more)) o) (sym count) is.allowed)

    -- where a given folder doesn't stand, the first extension with the guard ends in Error
    pub fails_from : (t : Tree) → (Stand given t → ⊥) → (o : List ℕ) → IsFirstExtension more o → outcome (guarded given es) o t ≡ None
    fails_from t n o is = let l = behind o is in ap (λ q. outcome (guarded given es) q t) l.1 ∙ fails_elsewhere given es l.0 t n

    -- where they all stand, it ends as the first extension without the guard does
    pub ends_from : IsDeterministicFrom given es (Told (comes order)) → (t : Tree) → IsGivenTree given t → (o q : List ℕ) → IsFirstExtension more o → IsFirstExtension order q → outcome (guarded given es) o t ≡ outcome es q t
    ends_from sure t g o q is is_first =
        let l = behind o is in
        ap (λ r. outcome (guarded given es) r t) l.1 ∙ ends_where_stand given es l.0 t l.2.below g.stand
        ∙ sure t g l.0 q l.2 (subst (λ n. IsLinearExtension n (Told (comes order)) q) (sym long) is_first.allowed)

-- ---- all that is known of a graph and the one with the guard in front

pub record Side (given : List Path) (es : List Program) (order more : Relation) : Type 0 where
  pub long : length es ≡ order.count
  pub before : comes more ≡ guard_before order.count (comes order)
  pub count : length (guarded given es) ≡ more.count
  pub kept_by : (kept : List ℕ) → Keeps (guarded given es) (Told (guard_before order.count (comes order))) kept → Keeps es (Told (comes order)) kept
  pub one : (kept left : List ℕ) → Keeps es (Told (comes order)) kept → Keeps es (Told (comes order)) left → kept ≡ left
  pub few : (kept : List ℕ) → Keeps es (Told (comes order)) kept → length kept ≤ length es
  pub first : List ℕ
  pub whole : List ℕ
  pub is_first : IsFirstExtension order first
  pub is_whole : IsFirstExtension more whole

module _ (given : List Path) (some : given ≢ []) (es : List Program) (order more : Relation) (side : Side given es order more) where
  -- a graph that is deterministic with the guard is so from the trees in which the folders stand
  pub settled_from : (s : Settled) → IsSettled (guarded given es) more s → IsSettledFrom given es order (without s)
  settled_from s h = record {
    pruned = pruned_from given es order side.long more side.before some side.kept_by side.one side.few s.pruned h.pruned;
    deterministic = sure_from given es order side.long more side.before h.deterministic;
    alone = alone_from given es order side.long more side.before some side.kept_by side.one side.few s.pruned s.sure h.pruned h.alone;
    proved = proved_from given es order side.long more side.before some s.sure h.proved;
  }

  -- and one that isn't known to be so with the guard isn't from these
  pub unsettled_from : (budget : ℕ) (f a : First) → IsUnsettled (guarded given es) more budget f → IsAnswerWithout f a → IsUnsettledFrom given es order budget a
  unsettled_from budget (first.Sure n s) a h is = absurd h
  unsettled_from budget (first.Differs n w) a h is = subst (IsUnsettledFrom given es order budget) (sym is.2) (
    pruned_from given es order side.long more side.before some side.kept_by side.one side.few n h.0,
    shown given es order side.long some side.kept_by side.one side.few w is.0 (subst (λ t. IsDifference (guarded given es) (Told t) w) side.before h.1) is.1,
  )
  unsettled_from budget (first.Spent n f log) a h is = subst (IsUnsettledFrom given es order budget) (sym is) (
    pruned_from given es order side.long more side.before some side.kept_by side.one side.few n h.0,
    spent_of_guarded given es order some budget f log.steps (subst (λ t. IsSpent (guarded given es) (Told t) budget f log.steps) side.before h.1),
  )

-- an answer of a graph that isn't known to be deterministic has two orders, if it shows any
pub unsettled_orders : (es : List Program) (order : Relation) (budget : ℕ) (f : First) → IsUnsettled es order budget f → IfDiffers f HasTwoOrders
unsettled_orders es order budget (first.Sure n s) h = tt
unsettled_orders es order budget (first.Differs n w) h = two_orders es (Told (comes order)) (first.Differs n w) h.1
unsettled_orders es order budget (first.Spent n f log) h = tt
