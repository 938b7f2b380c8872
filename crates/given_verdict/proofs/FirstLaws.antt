-- What is answered of the graph with the guard, said of the graph.
use Rattle.std.proofs.Common.{◌≡◌, ◌≢◌, ◌↔◌, ℕ, suc, ◌+◌, ◌-◌, ◌≤◌, inl, inr, List, [], ◌∷◌, length, drop, refl, sym, ap, subst, ◌∙◌, arith}
use Rattle.fs_semantics.specs.FileTree.{Path}
use Rattle.fs_semantics.specs.Programs.{Program}
use Rattle.fs_semantics.specs.Orders.{Told, IsExchange, IsDeterministic, IsCounterexample}
use Rattle.given_hosts.specs.Given.{IsDeterministicFrom, IsCounterexampleFrom}
use Rattle.given_hosts.specs.Guard.{guarded, guard_before, GoesFirst}
use Rattle.given_hosts.proofs.GuardLaws.{goes_first}
use Rattle.given_hosts.proofs.GraphLaws.{longer, order_behind, deterministic, counterexample, exchange}
use Rattle.orders.specs.Relation.{Relation, comes}
use Rattle.commute_prune.specs.Keeping.{Keeps}
use Rattle.cnf.specs.Formulas.{Formula}
use Rattle.cnf.specs.declared.log.Step.{Step}
use Rattle.order_encode.specs.declared.witness.Witness.{Witness}
use Rattle.order_encode.specs.declared.witness.Witness.TheVariants as witness
use Rattle.determinism.specs.First.{IsPrunedCount, IsProof, IsSpent, IsDifference, pruned_in, IsAlone, IfSure, IfProved, IfDiffers, IfSpent}
use Rattle.determinism.specs.Answers.{IsJudged, HasTwoOrders}
use Rattle.determinism.specs.declared.first.First.{First}
use Rattle.determinism.specs.declared.first.First.TheVariants as first
use Rattle.determinism.specs.declared.first.Sure.{Sure}
use Rattle.determinism.specs.declared.first.Sure.TheVariants as sure
use Rattle.given_verdict.proofs.AskedLaws.{proof_of_guarded, spent_of_guarded}
use Rattle.given_verdict.specs.First.{IsDifferenceFrom, IsProofFrom, IsSpentFrom, IsJudgedFrom, IsUnguarded, IsAnswerWithout}

-- a witness of a difference has two orders
pub two_orders : (es : List Program) (before : ℕ → ℕ → Type 0) (a : First) → IfDiffers a (IsDifference es before) → IfDiffers a HasTwoOrders
two_orders es before (first.Sure p s) h = tt
two_orders es before (first.Differs p (witness.Orders tree left right)) h = tt
two_orders es before (first.Differs p (witness.Twice tree order)) h = absurd h
two_orders es before (first.Differs p (witness.Ends tree order)) h = absurd h
two_orders es before (first.Spent p cnf log) h = tt

-- a witness without the guard, with one program less that was pruned, makes the answer without it
pub differs_are : (p q : ℕ) (w v : Witness) → q ≡ p - 1 → IsUnguarded w v → IsAnswerWithout (first.Differs p w) (first.Differs q v)
differs_are p q w v e u = (v, u, ap (λ n. first.Differs n v) e)

-- whether pruning alone answers isn't a matter of how many programs it pruned
alone_same : (p q : ℕ) (s : Sure) → IsAlone (first.Sure p s) → IsAlone (first.Sure q s)
alone_same p q sure.Pruned h = tt
alone_same p q (sure.Proved v) h = absurd h

-- nor is what follows from what holds of the formula that was refuted
proved_same : (p q : ℕ) (s : Sure) (P Q : Formula → Type 0) → ((f : Formula) → P f → Q f) → IfProved (first.Sure p s) P → IfProved (first.Sure q s) Q
proved_same p q sure.Pruned P Q to h = tt
proved_same p q (sure.Proved v) P Q to h = to v.formula h

module _ (given : List Path) (es : List Program) (order : Relation) (long : length es ≡ order.count) (some : given ≢ [])
    (kept_by : (kept : List ℕ) → Keeps (guarded given es) (Told (guard_before order.count (comes order))) kept → Keeps es (Told (comes order)) kept)
    (one : (kept left : List ℕ) → Keeps es (Told (comes order)) kept → Keeps es (Told (comes order)) left → kept ≡ left)
    (few : (kept : List ℕ) → Keeps es (Told (comes order)) kept → length kept ≤ length es) where
  -- the guard goes first in the order with the guard
  goes : GoesFirst (length es) (comes order) (guard_before order.count (comes order))
  goes = subst (λ n. GoesFirst n (comes order) (guard_before order.count (comes order))) (sym long) (goes_first order.count (comes order))

  -- one program less is pruned of the graph than of the graph with the guard
  pub counted : (m : ℕ) → IsPrunedCount (guarded given es) (Told (guard_before order.count (comes order))) m → IsPrunedCount es (Told (comes order)) (m - 1)
  counted m c =
      let k = kept_by c.0 c.1 in
      (c.0, k, omega (arith, c.2, longer given es, few c.0 k))

  -- where pruning keeps nothing of the graph it keeps nothing of the graph with the guard
  pub alone_back : (m : ℕ) → IsPrunedCount (guarded given es) (Told (guard_before order.count (comes order))) m → Keeps es (Told (comes order)) [] → Keeps (guarded given es) (Told (guard_before order.count (comes order))) []
  alone_back m c k =
      let none : c.0 ≡ [] = one c.0 [] (kept_by c.0 c.1) k in
      subst (Keeps (guarded given es) (Told (guard_before order.count (comes order)))) none c.1

  -- two orders with the guard in front that end differently do so without it, from a tree in which the given folders stand
  different : (tree : _) (left right : List ℕ) → IsCounterexample (guarded given es) (Told (guard_before order.count (comes order))) tree left right → IsExchange (Told (guard_before order.count (comes order))) left right
      → IsDifferenceFrom given es (Told (comes order)) (witness.Orders tree (drop 1 left) (drop 1 right))
  different tree left right c x =
      let l = order_behind given es (comes order) (guard_before order.count (comes order)) goes left c.left_allowed in
      let r = order_behind given es (comes order) (guard_before order.count (comes order)) goes right c.right_allowed in
      let a : drop 1 left ≡ l.0 = ap (drop 1) l.1 in
      let b : drop 1 right ≡ r.0 = ap (drop 1) r.1 in
      let both = subst (λ q. IsCounterexample (guarded given es) (Told (guard_before order.count (comes order))) tree (length es ∷ l.0) q) r.1
      (subst (λ q. IsCounterexample (guarded given es) (Told (guard_before order.count (comes order))) tree q right) l.1 c) in
      let turned = subst (λ q. IsExchange (Told (guard_before order.count (comes order))) (length es ∷ l.0) q) r.1 (subst (λ q. IsExchange (Told (guard_before order.count (comes order))) q right) l.1 x) in
      subst (λ q. IsDifferenceFrom given es (Told (comes order)) (witness.Orders tree (drop 1 left) q)) (sym b)
      (subst (λ q. IsDifferenceFrom given es (Told (comes order)) (witness.Orders tree q r.0)) (sym a) (
        (counterexample given es (comes order) (guard_before order.count (comes order)) goes tree l.0 r.0).0 both,
        (exchange (length es) (comes order) (guard_before order.count (comes order)) goes l.0 r.0 l.2).0 turned,
      ))

  -- so a witness of a difference with the guard shows one without it
  pub shown : (w v : Witness) → IsDifference (guarded given es) (Told (guard_before order.count (comes order))) w → IsUnguarded w v → IsDifferenceFrom given es (Told (comes order)) v
  shown (witness.Orders tree left right) v h u = subst (IsDifferenceFrom given es (Told (comes order))) (sym u) (different tree left right h.0 h.1)
  shown (witness.Twice tree o) v h u = absurd h
  shown (witness.Ends tree o) v h u = absurd h

  -- all that is said of the answer about the graph with the guard
  abbrev Judged : ℕ → First → Type 0
  Judged budget a =
      IsPrunedCount (guarded given es) (Told (guard_before order.count (comes order))) (pruned_in a)
      × (IsAlone a ↔ Keeps (guarded given es) (Told (guard_before order.count (comes order))) [])
      × IfSure a (IsDeterministic (guarded given es) (Told (guard_before order.count (comes order))))
      × IfProved a (IsProof (guarded given es) (Told (guard_before order.count (comes order))))
      × IfDiffers a (IsDifference (guarded given es) (Told (guard_before order.count (comes order))))
      × IfSpent a (IsSpent (guarded given es) (Told (guard_before order.count (comes order))) budget)

  -- where that is said of an answer, all is said of the answer without the guard
  said : (budget : ℕ) (a b : First) → Judged budget a → IsAnswerWithout a b → IsJudgedFrom given es order budget b
  said budget (first.Sure p s) b h w = subst (IsJudgedFrom given es order budget) (sym w) (record {
    pruned = counted p h.0;
    alone = ((λ k. kept_by [] (h.1.0 (alone_same (p - 1) p s k))), (λ k. alone_same p (p - 1) s (h.1.1 (alone_back p h.0 k))));
    deterministic = (deterministic given es (comes order) (guard_before order.count (comes order)) goes).0 h.2;
    proved = proved_same p (p - 1) s (IsProof (guarded given es) (Told (guard_before order.count (comes order)))) (IsProofFrom given es order) (λ f k. proof_of_guarded given es order some f k) h.3;
    differs = tt;
    spent = tt;
  })
  said budget (first.Differs p d) b h w = subst (IsJudgedFrom given es order budget) (sym w.2) (record {
    pruned = counted p h.0;
    alone = ((λ k. absurd k), (λ k. h.1.1 (alone_back p h.0 k)));
    deterministic = tt;
    proved = tt;
    differs = shown d w.0 h.4 w.1;
    spent = tt;
  })
  said budget (first.Spent p cnf log) b h w = subst (IsJudgedFrom given es order budget) (sym w) (record {
    pruned = counted p h.0;
    alone = ((λ k. absurd k), (λ k. h.1.1 (alone_back p h.0 k)));
    deterministic = tt;
    proved = tt;
    differs = tt;
    spent = spent_of_guarded given es order some budget cnf log.steps h.5;
  })

  -- and so it is for any programs and any order that are those with the guard
  pub judged_from : (budget : ℕ) (fs : List Program) (more : Relation) (a b : First) → fs ≡ guarded given es → comes more ≡ guard_before order.count (comes order)
      → IsJudged fs more budget a → IsAnswerWithout a b → IsJudgedFrom given es order budget b
  judged_from budget fs more a b e o j w =
      said budget a b (subst (λ t. IsPrunedCount (guarded given es) (Told t) (pruned_in a)
      × (IsAlone a ↔ Keeps (guarded given es) (Told t) [])
      × IfSure a (IsDeterministic (guarded given es) (Told t))
      × IfProved a (IsProof (guarded given es) (Told t))
      × IfDiffers a (IsDifference (guarded given es) (Told t))
      × IfSpent a (IsSpent (guarded given es) (Told t) budget)) o
      (subst (λ gs. IsPrunedCount gs (Told (comes more)) (pruned_in a)
      × (IsAlone a ↔ Keeps gs (Told (comes more)) [])
      × IfSure a (IsDeterministic gs (Told (comes more)))
      × IfProved a (IsProof gs (Told (comes more)))
      × IfDiffers a (IsDifference gs (Told (comes more)))
      × IfSpent a (IsSpent gs (Told (comes more)) budget)) e (j.pruned, j.alone, j.deterministic, j.proved, j.differs, j.spent))) w
