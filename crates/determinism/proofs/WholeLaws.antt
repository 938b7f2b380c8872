-- The question of the whole graph, asked of what is kept.
use Rattle.std.proofs.Common.{◌≡◌, ℕ, ◌+◌, ◌<◌, List, map, length, sym, ap, subst, subst₂, ◌∙◌}
use Rattle.std.specs.List.{AllByRecursion}
use Rattle.fs_semantics.specs.FileTree.{Tree}
use Rattle.fs_semantics.specs.Programs.{Program}
use Rattle.fs_semantics.specs.Orders.{IsLinearExtension, IsExchange, IsCounterexample}
use Rattle.fs_lang.specs.Meaning.{program_of}
use Rattle.orders.specs.Relation.{Relation, Comes}
use Rattle.commute_prune.specs.declared.settling.Pruned.{Pruned}
use Rattle.kept_graph.specs.declared.contracted.Contracted.{Contracted}
use Rattle.kept_graph.specs.Contracted.{IsContracted, expanded}
use Rattle.kept_graph.proofs.ContractedLaws.{long}
use Rattle.order_encode.specs.declared.witness.Witness.{Witness}
use Rattle.order_encode.specs.declared.witness.Witness.TheVariants as witness
use Rattle.determinism.specs.First.{IsDifference}

module _ (es : List Program) (order : Relation) (p : Pruned) (c : Contracted) (is : IsContracted es order p c) where
  -- the contracted graph has two programs more than are kept
  size : length (map program_of c.programs) ≡ length p.kept + 2
  size = ap length is.programs ∙ long es p

  -- the difference that two orders show
  shown : (w : Witness) (t : Tree) (o q : List ℕ) → IsDifference (map program_of c.programs) (Comes c.order) w → w ≡ witness.Orders t o q
      → IsCounterexample (map program_of c.programs) (Comes c.order) t o q × IsExchange (Comes c.order) o q
  shown w t o q h e = subst (IsDifference (map program_of c.programs) (Comes c.order)) e h

  -- the first order of a difference has numbers of its programs alone
  pub left_below : (w : Witness) (t : Tree) (o q lent : List ℕ) → IsDifference (map program_of c.programs) (Comes c.order) w → w ≡ witness.Orders t o q → lent ≡ o
      → AllByRecursion (λ i. i < length p.kept + 2) lent
  left_below w t o q lent h e f = subst₂ (λ n l. AllByRecursion (λ i. i < n) l) size (sym f) (shown w t o q h e).0.left_allowed.below

  -- and so has the second
  pub right_below : (w : Witness) (t : Tree) (o q lent : List ℕ) → IsDifference (map program_of c.programs) (Comes c.order) w → w ≡ witness.Orders t o q → lent ≡ q
      → AllByRecursion (λ i. i < length p.kept + 2) lent
  right_below w t o q lent h e f = subst₂ (λ n l. AllByRecursion (λ i. i < n) l) size (sym f) (shown w t o q h e).0.right_allowed.below

  module _ (counterexample : (t : Tree) (o q : List ℕ) → IsCounterexample (map program_of c.programs) (Comes c.order) t o q → IsCounterexample es (Comes order) t (expanded p o) (expanded p q))
      (exchange : (o q : List ℕ) → IsLinearExtension c.order.count (Comes c.order) o → IsExchange (Comes c.order) o q → IsExchange (Comes order) (expanded p o) (expanded p q)) where
    -- what two orders of the contracted graph show, those show that they stand for
    pub expanded_difference : (w : Witness) (t : Tree) (o q first second : List ℕ) → IsDifference (map program_of c.programs) (Comes c.order) w → w ≡ witness.Orders t o q
        → first ≡ expanded p o → second ≡ expanded p q → IsDifference es (Comes order) (witness.Orders t first second)
    expanded_difference w t o q first second h e f g =
        let found = shown w t o q h e in
        let allowed = subst (λ n. IsLinearExtension n (Comes c.order) o) (size ∙ sym is.count) found.0.left_allowed in
        subst₂ (λ x y. IsDifference es (Comes order) (witness.Orders t x y)) (sym f) (sym g) (counterexample t o q found.0, exchange o q allowed found.1)
