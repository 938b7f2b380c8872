-- A node is put among others, behind the last that comes before it.
use Rattle.std.proofs.Common.{◌≡◌, ℕ, ◌+◌, List, [], ◌∷◌, Bool, true, false, cond, ◌||◌, map, refl, sym, ap, ◌∙◌, arith}
use Rattle.std.specs.Prelude.{filter}
use Rattle.std.specs.List.{AllByRecursion, list_any}
use Rattle.fs_semantics.specs.Orders.{times}
use Rattle.catalog_semantics.specs.Catalogs.{Catalog}
use Rattle.graph_semantics.specs.Graphs.{Node, rank, Before}
use Rattle.graph_semantics.specs.Allowed.{IsNode, NoneAhead, Tells}
use Rattle.graph_semantics.proofs.Basics.{no_way}

-- what comes before what comes before a node comes before it
pub before_on : (c : Catalog) (a b d : Node) → Before c a b → Before c b d → Before c a d
before_on c a b d (Before.edge h) k = Before.and_on b h k
before_on c a b d (Before.and_on n h more) k = Before.and_on n h (before_on c n b d more k)

-- what follows for each holds of all
pub all_map : {X : Type 0} (P Q : X → Type 0) (xs : List X) → ((x : X) → P x → Q x) → AllByRecursion P xs → AllByRecursion Q xs
all_map P Q [] f h = tt
all_map P Q (x ∷ xs) f h = (f x h.0, all_map P Q xs f h.1)

module _ (test : Node → Node → Bool) where
  -- the node, put behind the last of these that comes before it
  pub insert : Node → List Node → List Node
  insert q [] = q ∷ []
  insert q (x ∷ nodes) = cond (list_any (λ y. test y q) (x ∷ nodes)) (x ∷ insert q nodes) (q ∷ x ∷ nodes)

  -- what holds of all and of the node holds of all with it
  pub all_insert : (P : Node → Type 0) (q : Node) (nodes : List Node) → P q → AllByRecursion P nodes → AllByRecursion P (insert q nodes)
  unfolding insert
  all_insert P q [] h k = (h, tt)
  all_insert P q (x ∷ nodes) h k = step (list_any (λ y. test y q) (x ∷ nodes)) (all_insert P q nodes h k.1) where
    step : (t : Bool) → AllByRecursion P (insert q nodes) → AllByRecursion P (cond t (x ∷ insert q nodes) (q ∷ x ∷ nodes))
    step true rest = (k.0, rest)
    step false rest = (h, k)

  -- the nodes stand as often with it as if it stood in front
  pub times_insert : (k : ℕ) (q : Node) (nodes : List Node) → times k (map rank (insert q nodes)) ≡ times k (map rank (q ∷ nodes))
  unfolding insert
  times_insert k q [] = refl
  times_insert k q (x ∷ nodes) = step (list_any (λ y. test y q) (x ∷ nodes)) (times_insert k q nodes) where
    step : (t : Bool) → times k (map rank (insert q nodes)) ≡ times k (map rank (q ∷ nodes))
        → times k (map rank (cond t (x ∷ insert q nodes) (q ∷ x ∷ nodes))) ≡ times k (map rank (q ∷ x ∷ nodes))
    step true rest = omega (arith, rest)
    step false rest = refl

  -- a node that isn't kept changes nothing of what is
  pub filter_insert : (p : Node → Bool) (q : Node) (nodes : List Node) → p q ≡ false → filter p (insert q nodes) ≡ filter p nodes
  unfolding insert
  filter_insert p q [] h = ap (λ t. cond t (q ∷ []) []) h
  filter_insert p q (x ∷ nodes) h = step (list_any (λ y. test y q) (x ∷ nodes)) (filter_insert p q nodes h) where
    step : (t : Bool) → filter p (insert q nodes) ≡ filter p nodes → filter p (cond t (x ∷ insert q nodes) (q ∷ x ∷ nodes)) ≡ filter p (x ∷ nodes)
    step true rest = ap (λ ns. cond (p x) (x ∷ ns) ns) rest
    step false rest = ap (λ t. cond t (q ∷ filter p (x ∷ nodes)) (filter p (x ∷ nodes))) h

  module _ (c : Catalog) (tells : Tells c test) (never : (n : Node) → Before c n n → ⊥) where
    -- one of these comes before the node
    found : (q : Node) (Q : Node → Type 0) (nodes : List Node) → AllByRecursion Q nodes → list_any (λ y. test y q) nodes ≡ true → (y : Node) × Q y × (test y q ≡ true)
    found q Q [] h k = absurd (no_way k)
    found q Q (x ∷ nodes) h k = step (test x q) refl k (found q Q nodes h.1) where
      step : (t : Bool) → test x q ≡ t → (t || list_any (λ y. test y q) nodes) ≡ true → (list_any (λ y. test y q) nodes ≡ true → (y : Node) × Q y × (test y q ≡ true)) → (y : Node) × Q y × (test y q ≡ true)
      step true is e f = (x, h.0, is)
      step false is e f = f e

    -- none of these comes before the node
    none_found : (q : Node) (nodes : List Node) → IsNode c q → AllByRecursion (IsNode c) nodes → list_any (λ y. test y q) nodes ≡ false → AllByRecursion (λ a. Before c a q → ⊥) nodes
    none_found q [] n h k = tt
    none_found q (x ∷ nodes) n h k = step (test x q) refl k (none_found q nodes n h.1) where
      step : (t : Bool) → test x q ≡ t → (t || list_any (λ y. test y q) nodes) ≡ false → (list_any (λ y. test y q) nodes ≡ false → AllByRecursion (λ a. Before c a q → ⊥) nodes)
          → (Before c x q → ⊥) × AllByRecursion (λ a. Before c a q → ⊥) nodes
      step true is e f = absurd (no_way (sym e))
      step false is e f = (λ b. no_way (sym is ∙ (tells x q h.0 n).1 b), f e)

    -- what holds of all and what else does hold together
    both : (P Q : Node → Type 0) (nodes : List Node) → AllByRecursion P nodes → AllByRecursion Q nodes → AllByRecursion (λ y. P y × Q y) nodes
    both P Q [] h k = tt
    both P Q (x ∷ nodes) h k = ((h.0, k.0), both P Q nodes h.1 k.1)

    -- a node behind one of these doesn't come before the first of them, which none of the others comes before
    not_first : (q x : Node) (nodes : List Node) → IsNode c q → IsNode c x → AllByRecursion (IsNode c) nodes → AllByRecursion (λ a. Before c a x → ⊥) nodes → list_any (λ y. test y q) (x ∷ nodes) ≡ true
        → Before c q x → ⊥
    not_first q x nodes n m h k some b = step (test x q) refl some where
      step : (t : Bool) → test x q ≡ t → (t || list_any (λ y. test y q) nodes) ≡ true → ⊥
      step true is e = never x (before_on c x q x ((tells x q m n).0 is) b)
      step false is e =
          let y = found q (λ z. IsNode c z × (Before c z x → ⊥)) nodes (both (IsNode c) (λ z. Before c z x → ⊥) nodes h k) e in
          y.1.1 (before_on c y.0 q x ((tells y.0 q y.1.0 n).0 y.2) b)

    -- none stands ahead of what comes before it, with the node put among them
    pub none_ahead : (q : Node) (nodes : List Node) → IsNode c q → AllByRecursion (IsNode c) nodes → NoneAhead c nodes → NoneAhead c (insert q nodes)
    unfolding insert
    none_ahead q [] n h k = (tt, tt)
    none_ahead q (x ∷ nodes) n h k = step (list_any (λ y. test y q) (x ∷ nodes)) refl (none_ahead q nodes n h.1 k.1) where
      step : (t : Bool) → list_any (λ y. test y q) (x ∷ nodes) ≡ t → NoneAhead c (insert q nodes) → NoneAhead c (cond t (x ∷ insert q nodes) (q ∷ x ∷ nodes))
      step true is rest = (all_insert (λ a. Before c a x → ⊥) q nodes (not_first q x nodes n h.0 h.1 k.0 is) k.0, rest)
      step false is rest = (none_found q (x ∷ nodes) n h is, k)

    -- ---- one after the other

    -- these nodes, put among others one after the other
    pub inserted : List Node → List Node → List Node
    inserted [] nodes = nodes
    inserted (q ∷ qs) nodes = insert q (inserted qs nodes)

    -- what holds of both holds of all
    pub all_inserted : (P : Node → Type 0) (qs nodes : List Node) → AllByRecursion P qs → AllByRecursion P nodes → AllByRecursion P (inserted qs nodes)
    unfolding inserted
    all_inserted P [] nodes h k = k
    all_inserted P (q ∷ qs) nodes h k = all_insert P q (inserted qs nodes) h.0 (all_inserted P qs nodes h.1 k)

    -- none stands ahead of what comes before it, with all put among them
    pub none_ahead_inserted : (qs nodes : List Node) → AllByRecursion (IsNode c) qs → AllByRecursion (IsNode c) nodes → NoneAhead c nodes → NoneAhead c (inserted qs nodes)
    unfolding inserted
    none_ahead_inserted [] nodes h k a = a
    none_ahead_inserted (q ∷ qs) nodes h k a = none_ahead q (inserted qs nodes) h.0 (all_inserted (IsNode c) qs nodes h.1 k) (none_ahead_inserted qs nodes h.1 k a)

    -- the nodes stand as often as in both
    pub times_inserted : (k : ℕ) (qs nodes : List Node) → times k (map rank (inserted qs nodes)) ≡ times k (map rank qs) + times k (map rank nodes)
    unfolding inserted
    times_inserted k [] nodes = omega arith
    times_inserted k (q ∷ qs) nodes = let one = times_insert k q (inserted qs nodes) in let rest = times_inserted k qs nodes in omega arith

    -- nodes that aren't kept change nothing of what is
    pub filter_inserted : (p : Node → Bool) (qs nodes : List Node) → AllByRecursion (λ q. p q ≡ false) qs → filter p (inserted qs nodes) ≡ filter p nodes
    unfolding inserted
    filter_inserted p [] nodes h = refl
    filter_inserted p (q ∷ qs) nodes h = filter_insert p q (inserted qs nodes) h.0 ∙ filter_inserted p qs nodes h.1
