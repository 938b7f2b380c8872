-- The allowed orders of the plain resources are what the orders of all nodes leave of them.
use Rattle.std.proofs.Common.{◌≡◌, ℕ, zero, suc, ◌+◌, ◌*◌, ◌<◌, ◌≤◌, List, [], ◌∷◌, length, get_or, Bool, true, false, cond, ◌&&◌, ◌⊎◌, inl, inr, Option, Some, None, map, refl, sym, ap, subst, ◌∙◌, arith, eqb-true, eq-eqb, ltb-true, ltb-false}
use Rattle.std.specs.Prelude.{slice_index, not, nat_lt, ◌==◌}
use Rattle.std.specs.List.{AllByRecursion, Contains}
use Rattle.std.proofs.lemmas.List.Elements.{Contains-get_or}
use Rattle.fs_semantics.specs.Orders.{times, IsLinearExtension}
use Rattle.fs_semantics.specs.Orders as orders
use Rattle.catalog_semantics.specs.declared.catalog.Resource.{Resource}
use Rattle.catalog_semantics.specs.Catalogs.{Catalog, is_plain_sort}
use Rattle.graph_semantics.specs.Relations.{real_at}
use Rattle.graph_semantics.specs.Automatic.{IsPlainAt}
use Rattle.graph_semantics.specs.Graphs.{Node, Start, End, rank, IsContainerAt, Before, IsGraphOf, plain_from, plain_places}
use Rattle.graph_semantics.specs.Allowed.{IsNode, NoneAhead, is_plain, is_plain_node, plain_part, plain_nodes, IsLeft, Tells}
use Rattle.graph_semantics.proofs.RealPlaces.{within, plain_at, plain_in}
use Rattle.graph_semantics.proofs.Inserting.{inserted, all_inserted, none_ahead_inserted, times_inserted, filter_inserted}
use Rattle.graph_semantics.proofs.Basics.{no_way}
use Rattle.std.proofs.lemmas.Option.{same_Some}
use Rattle.std.proofs.lemmas.Bool.{not-true}

-- ---- the places of plain resources stand once

-- no place is below the one from which places are counted
at_least : (n : ℕ) (resources : List Resource) (i : ℕ) → i < length (plain_from n resources) → n ≤ slice_index (plain_from n resources) i
at_least n [] i h = omega (arith, h)
at_least n (r ∷ resources) i h = step (is_plain_sort r.sort && not r.is_virtual) i h (at_least (n + 1) resources) where
  step : (t : Bool) (i : ℕ) → i < length (cond t (n ∷ plain_from (n + 1) resources) (plain_from (n + 1) resources))
      → ((j : ℕ) → j < length (plain_from (n + 1) resources) → n + 1 ≤ slice_index (plain_from (n + 1) resources) j)
      → n ≤ slice_index (cond t (n ∷ plain_from (n + 1) resources) (plain_from (n + 1) resources)) i
  step true zero k f = omega arith
  step true (suc i) k f = let up = f i (omega (arith, k)) in omega arith
  step false i k f = let up = f i k in omega arith

-- the places of the plain resources ascend
increasing : (n : ℕ) (resources : List Resource) (i j : ℕ) → i < j → j < length (plain_from n resources) → slice_index (plain_from n resources) i < slice_index (plain_from n resources) j
increasing n [] i j h k = omega (arith, k)
increasing n (r ∷ resources) i j h k = step (is_plain_sort r.sort && not r.is_virtual) i j h k (increasing (n + 1) resources) where
  step : (t : Bool) (i j : ℕ) → i < j → j < length (cond t (n ∷ plain_from (n + 1) resources) (plain_from (n + 1) resources))
      → ((i j : ℕ) → i < j → j < length (plain_from (n + 1) resources) → slice_index (plain_from (n + 1) resources) i < slice_index (plain_from (n + 1) resources) j)
      → slice_index (cond t (n ∷ plain_from (n + 1) resources) (plain_from (n + 1) resources)) i < slice_index (cond t (n ∷ plain_from (n + 1) resources) (plain_from (n + 1) resources)) j
  step true i zero h k f = omega (arith, h)
  step true zero (suc j) h k f = let up = at_least (n + 1) resources j (omega (arith, k)) in omega arith
  step true (suc i) (suc j) h k f = f i j (omega (arith, h)) (omega (arith, k))
  step false i j h k f = f i j h k

-- a place stands among them once
one_index : (c : Catalog) (i j : ℕ) → i < length (plain_places c) → j < length (plain_places c) → slice_index (plain_places c) i ≡ slice_index (plain_places c) j → i ≡ j
one_index c i j h k same = step (nat_lt i j) (nat_lt j i) refl refl where
  step : (s t : Bool) → nat_lt i j ≡ s → nat_lt j i ≡ t → i ≡ j
  step true t is at = let less = increasing 0 c.resources i j (ltb-true i j is) k in absurd (never _ _ less same) where
    never : (a b : ℕ) → a < b → a ≡ b → ⊥
    never a b p q = omega arith
  step false true is at = let less = increasing 0 c.resources j i (ltb-true j i at) h in absurd (never _ _ less (sym same)) where
    never : (a b : ℕ) → a < b → a ≡ b → ⊥
    never a b p q = omega arith
  step false false is at = let p = ltb-false i j is in let q = ltb-false j i at in omega arith

-- what stands in a list is at its place there
pub Contains-index : (xs : List ℕ) (x : ℕ) (h : Contains xs x) → slice_index xs h.0 ≡ x
Contains-index xs x h = index_at xs x h.0 h.1 h.2 where
  index_at : (xs : List ℕ) (x k : ℕ) → k < length xs → get_or xs k x ≡ x → slice_index xs k ≡ x
  index_at [] x k h e = omega (arith, h)
  index_at (y ∷ xs) x zero h e = e
  index_at (y ∷ xs) x (suc k) h e = index_at xs x k (omega (arith, h)) e

-- ---- the plain nodes in an order

-- a real plain resource stands at each of the places
below_plain : (c : Catalog) (i : ℕ) → i < length (plain_places c) → (r : Resource) × IsPlainAt c (slice_index (plain_places c) i) r
below_plain c i h = plain_at c (slice_index (plain_places c) i) (Contains-get_or (plain_places c) i 0 h)

module _ (c : Catalog) where
  -- the places of the plain resources
  abbrev plain : List ℕ
  plain = plain_places c

  -- each plain resource is a node
  plain_is_node : (i : ℕ) → i < length plain → IsNode c (Start (slice_index plain i))
  plain_is_node i h = let r = below_plain c i h in IsNode.start (slice_index plain i) r.0 r.1.real refl

  -- so are all in an order
  plain_are_nodes : (o : List ℕ) → AllByRecursion (λ i. i < length plain) o → AllByRecursion (IsNode c) (plain_nodes plain o)
  plain_are_nodes [] h = tt
  plain_are_nodes (i ∷ o) h = (plain_is_node i h.0, plain_are_nodes o h.1)

  -- its node is that of a plain resource
  is_plain_here : (i : ℕ) → i < length plain → is_plain_node c (Start (slice_index plain i)) ≡ true
  is_plain_here i h = let r = below_plain c i h in ap is_plain r.1.real ∙ r.1.plain

  -- of the plain nodes of an order all are plain
  all_plain : (o : List ℕ) → AllByRecursion (λ i. i < length plain) o → plain_part c (plain_nodes plain o) ≡ plain_nodes plain o
  all_plain [] h = refl
  all_plain (i ∷ o) h =
      ap (λ t. cond t (Start (slice_index plain i) ∷ plain_part c (plain_nodes plain o)) (plain_part c (plain_nodes plain o))) (is_plain_here i h.0)
      ∙ ap (λ ns. Start (slice_index plain i) ∷ ns) (all_plain o h.1)

  -- a plain node stands as often as its number in the order
  as_often : (k : ℕ) (o : List ℕ) → k < length plain → AllByRecursion (λ i. i < length plain) o → times (2 * slice_index plain k) (map rank (plain_nodes plain o)) ≡ times k o
  as_often k [] h b = refl
  as_often k (i ∷ o) h b = step (2 * slice_index plain i == 2 * slice_index plain k) (i == k) refl refl (as_often k o h b.1) where
    step : (s t : Bool) → 2 * slice_index plain i == 2 * slice_index plain k ≡ s → i == k ≡ t → times (2 * slice_index plain k) (map rank (plain_nodes plain o)) ≡ times k o
        → cond s 1 0 + times (2 * slice_index plain k) (map rank (plain_nodes plain o)) ≡ cond t 1 0 + times k o
    step true true is at rest = ap (λ n. 1 + n) rest
    step false false is at rest = ap (λ n. 0 + n) rest
    step true false is at rest =
        let twice = eqb-true (2 * slice_index plain i) (2 * slice_index plain k) is in
        let same : slice_index plain i ≡ slice_index plain k = omega arith in
        absurd (no_way (sym at ∙ eq-eqb i k (one_index c i k b.0 h same)))
    step false true is at rest =
        let same = eqb-true i k at in
        absurd (no_way (sym is ∙ eq-eqb (2 * slice_index plain i) (2 * slice_index plain k) (ap (λ n. 2 * slice_index plain n) same)))

  -- other numbers don't stand among them
  not_there : (k : ℕ) (o : List ℕ) → ((i : ℕ) → i < length plain → 2 * slice_index plain i ≡ k → ⊥) → AllByRecursion (λ i. i < length plain) o → times k (map rank (plain_nodes plain o)) ≡ 0
  not_there k [] h b = refl
  not_there k (i ∷ o) h b = step (2 * slice_index plain i == k) refl (not_there k o h b.1) where
    step : (t : Bool) → 2 * slice_index plain i == k ≡ t → times k (map rank (plain_nodes plain o)) ≡ 0 → cond t 1 0 + times k (map rank (plain_nodes plain o)) ≡ 0
    step true is rest = absurd (h i b.0 (eqb-true (2 * slice_index plain i) k is))
    step false is rest = omega arith

  -- ---- the nodes of containers

  -- a class or a defined resource is there
  abbrev is_container : Option Resource → Bool
  is_container None = false
  is_container (Some r) = not (is_plain_sort r.sort)

  -- one stands at the place
  abbrev holds : ℕ → Bool
  holds place = is_container (real_at c place)

  -- both nodes of each container below a place
  abbrev others : ℕ → List Node
  others zero = []
  others (suc n) = cond (holds n) (Start n ∷ End n ∷ others n) (others n)

  -- where one is told to stand, one does
  container_at : (place : ℕ) (o : Option Resource) → real_at c place ≡ o → is_container o ≡ true → IsContainerAt c place
  container_at place None is h = absurd (no_way h)
  container_at place (Some r) is h = record { resource = r; real = is; sort = not-true (is_plain_sort r.sort) h }

  -- they are nodes
  others_are_nodes : (n : ℕ) → AllByRecursion (IsNode c) (others n)
  others_are_nodes zero = tt
  others_are_nodes (suc n) = step (holds n) refl (others_are_nodes n) where
    step : (t : Bool) → holds n ≡ t → AllByRecursion (IsNode c) (others n) → AllByRecursion (IsNode c) (cond t (Start n ∷ End n ∷ others n) (others n))
    step true is rest = let o = container_at n (real_at c n) refl is in (IsNode.start n o.resource o.real refl, (IsNode.end n o refl, rest))
    step false is rest = rest

  -- the node of a container is that of no plain resource
  not_plain_here : (n : ℕ) → holds n ≡ true → is_plain_node c (Start n) ≡ false
  not_plain_here n h = let o = container_at n (real_at c n) refl h in ap is_plain o.real ∙ o.sort

  -- so is none of them
  others_not_plain : (n : ℕ) → AllByRecursion (λ q. is_plain_node c q ≡ false) (others n)
  others_not_plain zero = tt
  others_not_plain (suc n) = step (holds n) refl (others_not_plain n) where
    step : (t : Bool) → holds n ≡ t → AllByRecursion (λ q. is_plain_node c q ≡ false) (others n) → AllByRecursion (λ q. is_plain_node c q ≡ false) (cond t (Start n ∷ End n ∷ others n) (others n))
    step true is rest = (not_plain_here n is, (refl, rest))
    step false is rest = rest

  -- numbers that differ are told apart
  differ : (a b : ℕ) → (a ≡ b → ⊥) → a == b ≡ false
  differ a b h = step (a == b) refl where
    step : (t : Bool) → a == b ≡ t → t ≡ false
    step true is = absurd (h (eqb-true a b is))
    step false is = refl

  -- the nodes of what is no container below the place aren't among them
  none_there : (n p b : ℕ) → b ≤ 1 → (p < n → holds p ≡ true → ⊥) → times (2 * p + b) (map rank (others n)) ≡ 0
  none_there zero p b small h = refl
  none_there (suc n) p b small h = step (holds n) refl (none_there n p b small (λ less. h (omega (arith, less)))) where
    step : (t : Bool) → holds n ≡ t → times (2 * p + b) (map rank (others n)) ≡ 0 → times (2 * p + b) (map rank (cond t (Start n ∷ End n ∷ others n) (others n))) ≡ 0
    step true is rest =
        let apart : p ≡ n → ⊥ = λ e. h (omega (arith, e)) (ap holds e ∙ is) in
        let first : 2 * n == 2 * p + b ≡ false = differ (2 * n) (2 * p + b) (λ e. apart (omega (arith, e, small))) in
        let second : 2 * n + 1 == 2 * p + b ≡ false = differ (2 * n + 1) (2 * p + b) (λ e. apart (omega (arith, e, small))) in
        ap (λ t. cond t 1 0 + (cond (2 * n + 1 == 2 * p + b) 1 0 + times (2 * p + b) (map rank (others n)))) first
        ∙ ap (λ t. 0 + (cond t 1 0 + times (2 * p + b) (map rank (others n)))) second ∙ omega (arith, rest)
    step false is rest = rest

  -- what is below the next number is this one or below it
  here_or_before : (n p : ℕ) → p < suc n → (p ≡ n) ⊎ (p < n)
  here_or_before n p h = step (nat_lt p n) refl where
    step : (t : Bool) → nat_lt p n ≡ t → (p ≡ n) ⊎ (p < n)
    step true is = inr (ltb-true p n is)
    step false is = let up = ltb-false p n is in inl (omega arith)

  -- each of the two nodes of a place stands once among the two
  one_of_two : (n b : ℕ) → b ≤ 1 → cond (2 * n == 2 * n + b) 1 0 + (cond (2 * n + 1 == 2 * n + b) 1 0 + 0) ≡ 1
  one_of_two n zero h =
      ap (λ t. cond t 1 0 + (cond (2 * n + 1 == 2 * n + 0) 1 0 + 0)) (eq-eqb (2 * n) (2 * n + 0) (omega arith))
      ∙ ap (λ t. 1 + (cond t 1 0 + 0)) (differ (2 * n + 1) (2 * n + 0) (λ e. odd n e)) where
        odd : (n : ℕ) → 2 * n + 1 ≡ 2 * n + 0 → ⊥
        odd n e = omega (arith, e)
  one_of_two n (suc zero) h =
      ap (λ t. cond t 1 0 + (cond (2 * n + 1 == 2 * n + suc zero) 1 0 + 0)) (differ (2 * n) (2 * n + suc zero) (λ e. odd n e))
      ∙ ap (λ t. 0 + (cond t 1 0 + 0)) (eq-eqb (2 * n + 1) (2 * n + suc zero) (omega arith)) where
        odd : (n : ℕ) → 2 * n ≡ 2 * n + suc zero → ⊥
        odd n e = omega (arith, e)
  one_of_two n (suc (suc b)) h = absurd (never b h) where
    never : (b : ℕ) → suc (suc b) ≤ 1 → ⊥
    never b h = omega (arith, h)

  -- each node of a container below the place stands among them once
  once_there : (n p b : ℕ) → b ≤ 1 → p < n → holds p ≡ true → times (2 * p + b) (map rank (others n)) ≡ 1
  once_there zero p b small less h = absurd (never p less) where
    never : (p : ℕ) → p < 0 → ⊥
    never p h = omega (arith, h)
  once_there (suc n) p b small less h = step (holds n) refl (here_or_before n p less) (λ before. once_there n p b small before h) where
    apart : (p n b : ℕ) → b ≤ 1 → p < n → (2 * n ≡ 2 * p + b → ⊥) × (2 * n + 1 ≡ 2 * p + b → ⊥)
    apart p n b small before = (λ e. omega (arith, e, small, before), λ e. omega (arith, e, small, before))

    step : (t : Bool) → holds n ≡ t → (p ≡ n) ⊎ (p < n) → (p < n → times (2 * p + b) (map rank (others n)) ≡ 1) → times (2 * p + b) (map rank (cond t (Start n ∷ End n ∷ others n) (others n))) ≡ 1
    step true is (inl e) rest =
        let none : times (2 * n + b) (map rank (others n)) ≡ 0 = none_there n n b small (λ up. absurd (never n up)) in
        subst (λ q. times (2 * q + b) (map rank (Start n ∷ End n ∷ others n)) ≡ 1) (sym e)
        (ap (λ m. cond (2 * n == 2 * n + b) 1 0 + (cond (2 * n + 1 == 2 * n + b) 1 0 + m)) none ∙ one_of_two n b small) where
          never : (n : ℕ) → n < n → ⊥
          never n h = omega (arith, h)
    step true is (inr before) rest =
        let both = apart p n b small before in
        ap (λ t. cond t 1 0 + (cond (2 * n + 1 == 2 * p + b) 1 0 + times (2 * p + b) (map rank (others n)))) (differ (2 * n) (2 * p + b) both.0)
        ∙ ap (λ t. 0 + (cond t 1 0 + times (2 * p + b) (map rank (others n)))) (differ (2 * n + 1) (2 * p + b) both.1) ∙ omega (arith, rest before)
    step false is (inl e) rest = absurd (no_way (sym is ∙ sym (ap holds e) ∙ h))
    step false is (inr before) rest = rest before

  -- ---- an allowed order of the plain resources is left of one of all

  -- how many places there are
  abbrev all_places : ℕ
  all_places = length c.resources

  -- the nodes of all containers
  abbrev rest_of : List Node
  rest_of = others (length c.resources)

  -- no container stands at the place of a plain resource
  plain_holds_none : (p : ℕ) (r : Resource) → real_at c p ≡ Some r → is_plain_sort r.sort ≡ true → holds p ≡ true → ⊥
  plain_holds_none p r real h k = no_way (sym (ap not h) ∙ sym (ap is_container real) ∙ k)

  -- a class or a defined resource is a container
  holds_by : (p : ℕ) (r : Resource) → real_at c p ≡ Some r → is_plain_sort r.sort ≡ false → holds p ≡ true
  holds_by p r real h = ap is_container real ∙ ap not h

  -- a container stands at no place of a plain resource
  no_plain : (p : ℕ) (r : Resource) → real_at c p ≡ Some r → is_plain_sort r.sort ≡ false → (i : ℕ) → i < length plain → slice_index plain i ≡ p → ⊥
  no_plain p r real h i less same =
      let at = below_plain c i less in
      let one = same_Some at.0 r (sym at.1.real ∙ ap (real_at c) same ∙ real) in
      no_way (sym h ∙ sym (ap (λ (x : Resource). is_plain_sort x.sort) one) ∙ at.1.plain)

  -- twice a number is an even one
  even_or_not : (n : ℕ) → 2 * n ≡ 2 * n + 0
  even_or_not n = omega arith

  module _ (before : ℕ → ℕ → Type 0) (o : List ℕ) (linear : IsLinearExtension (length plain) before o) where
    -- the start of each real resource stands once, among the containers' nodes or in the order
    once_start : (p : ℕ) (r : Resource) (t : Bool) → real_at c p ≡ Some r → is_plain_sort r.sort ≡ t → times (2 * p) (map rank rest_of) + times (2 * p) (map rank (plain_nodes plain o)) ≡ 1
    once_start p r true real h =
        let at = plain_in c p r (record { real = real; plain = h }) in
        let index : slice_index plain at.0 ≡ p = Contains-index plain p at in
        let none = none_there all_places p 0 (omega arith) (λ less k. plain_holds_none p r real h k) in
        let one : times (2 * p) (map rank (plain_nodes plain o)) ≡ 1 = subst (λ q. times (2 * q) (map rank (plain_nodes plain o)) ≡ 1) index (as_often at.0 o at.1 linear.below ∙ linear.once at.0 at.1) in
        let zero_more : times (2 * p) (map rank rest_of) ≡ 0 = ap (λ k. times k (map rank rest_of)) (even_or_not p) ∙ none in
        omega arith
    once_start p r false real h =
        let one = once_there all_places p 0 (omega arith) (within c p r real) (holds_by p r real h) in
        let one_more : times (2 * p) (map rank rest_of) ≡ 1 = ap (λ k. times k (map rank rest_of)) (even_or_not p) ∙ one in
        let none = not_there (2 * p) o (λ i less e. no_plain p r real h i less (omega (arith, e))) linear.below in
        omega arith

    -- the end of each container stands once
    once_end : (p : ℕ) → IsContainerAt c p → times (2 * p + 1) (map rank rest_of) + times (2 * p + 1) (map rank (plain_nodes plain o)) ≡ 1
    once_end p at =
        let one = once_there all_places p 1 (omega arith) (within c p at.resource at.real) (holds_by p at.resource at.real at.sort) in
        let none = not_there (2 * p + 1) o (λ i less e. odd (slice_index plain i) p e) linear.below in
        omega arith where
          odd : (a b : ℕ) → 2 * a ≡ 2 * b + 1 → ⊥
          odd a b e = omega (arith, e)

    -- each node stands once
    once_all : (n : Node) → IsNode c n → times (rank n) (map rank rest_of) + times (rank n) (map rank (plain_nodes plain o)) ≡ 1
    once_all n (IsNode.start p r real is) =
        subst (λ m. times (rank m) (map rank rest_of) + times (rank m) (map rank (plain_nodes plain o)) ≡ 1) (sym is) (once_start p r (is_plain_sort r.sort) real refl)
    once_all n (IsNode.end p at is) = subst (λ m. times (rank m) (map rank rest_of) + times (rank m) (map rank (plain_nodes plain o)) ≡ 1) (sym is) (once_end p at)

  -- one plain resource comes before another where its node does in the graph
  abbrev Follows : (ℕ → ℕ → Type 0) → Type 0
  Follows before = (i j : ℕ) → i < length plain → j < length plain
      → (before i j → Before c (Start (slice_index plain i)) (Start (slice_index plain j))) × (Before c (Start (slice_index plain i)) (Start (slice_index plain j)) → before i j)

  -- what nothing in an order of numbers comes before, nothing does in that of the nodes
  free_nodes : (before : ℕ → ℕ → Type 0) → Follows before → (b : ℕ) (o : List ℕ) → b < length plain → AllByRecursion (λ i. i < length plain) o → AllByRecursion (λ a. before a b → ⊥) o
      → AllByRecursion (λ a. Before c a (Start (slice_index plain b)) → ⊥) (plain_nodes plain o)
  free_nodes before paths b [] h k f = tt
  free_nodes before paths b (i ∷ o) h k f = (λ up. f.0 ((paths i b k.0 h).1 up), free_nodes before paths b o h k.1 f.1)

  -- an order of numbers that keeps what comes before what does so as nodes
  kept_nodes : (before : ℕ → ℕ → Type 0) → Follows before → (o : List ℕ) → AllByRecursion (λ i. i < length plain) o → orders.NoneAhead before o → NoneAhead c (plain_nodes plain o)
  kept_nodes before paths [] k h = tt
  kept_nodes before paths (b ∷ o) k h = (free_nodes before paths b o k.0 k.1 h.0, kept_nodes before paths o k.1 h.1)

  -- an allowed order of the plain resources is left of one of all nodes
  pub to_left : (test : Node → Node → Bool) → Tells c test → ((n : Node) → Before c n n → ⊥) → (before : ℕ → ℕ → Type 0) → Follows before → (o : List ℕ)
      → IsLinearExtension (length plain) before o → IsLeft c plain o
  to_left test tells never before paths o linear =
      let first = plain_nodes plain o in
      let whole = inserted test c tells never rest_of first in
      let part = plain_are_nodes o linear.below in
      record {
        below = linear.below;
        nodes = whole;
        allowed = record {
          nodes_of = all_inserted test c tells never (IsNode c) rest_of first (others_are_nodes all_places) part;
          once = λ n is. times_inserted test c tells never (rank n) rest_of first ∙ once_all before o linear n is;
          kept = none_ahead_inserted test c tells never rest_of first (others_are_nodes all_places) part (kept_nodes before paths o linear.below linear.kept);
        };
        part = filter_inserted test c tells never (is_plain_node c) rest_of first (others_not_plain all_places) ∙ all_plain o linear.below;
      }

  -- ---- and what is left of one of all is allowed

  -- what none of some nodes comes before, none of the plain ones does
  free_kept : (b : Node) (nodes : List Node) → AllByRecursion (λ a. Before c a b → ⊥) nodes → AllByRecursion (λ a. Before c a b → ⊥) (plain_part c nodes)
  free_kept b [] h = tt
  free_kept b (n ∷ nodes) h = step (is_plain_node c n) (free_kept b nodes h.1) where
    step : (t : Bool) → AllByRecursion (λ a. Before c a b → ⊥) (plain_part c nodes) → AllByRecursion (λ a. Before c a b → ⊥) (cond t (n ∷ plain_part c nodes) (plain_part c nodes))
    step true rest = (h.0, rest)
    step false rest = rest

  -- an order of nodes that keeps what comes before what does so in its plain part
  part_kept : (nodes : List Node) → NoneAhead c nodes → NoneAhead c (plain_part c nodes)
  part_kept [] h = tt
  part_kept (n ∷ nodes) h = step (is_plain_node c n) (part_kept nodes h.1) where
    step : (t : Bool) → NoneAhead c (plain_part c nodes) → NoneAhead c (cond t (n ∷ plain_part c nodes) (plain_part c nodes))
    step true rest = (free_kept n nodes h.0, rest)
    step false rest = rest

  -- what nothing in an order of nodes comes before, nothing does in that of the numbers
  free_numbers : (before : ℕ → ℕ → Type 0) → Follows before → (b : ℕ) (o : List ℕ) → b < length plain → AllByRecursion (λ i. i < length plain) o
      → AllByRecursion (λ a. Before c a (Start (slice_index plain b)) → ⊥) (plain_nodes plain o) → AllByRecursion (λ a. before a b → ⊥) o
  free_numbers before paths b [] h k f = tt
  free_numbers before paths b (i ∷ o) h k f = (λ up. f.0 ((paths i b k.0 h).0 up), free_numbers before paths b o h k.1 f.1)

  -- an order of nodes that keeps what comes before what does so as numbers
  kept_numbers : (before : ℕ → ℕ → Type 0) → Follows before → (o : List ℕ) → AllByRecursion (λ i. i < length plain) o → NoneAhead c (plain_nodes plain o) → orders.NoneAhead before o
  kept_numbers before paths [] k h = tt
  kept_numbers before paths (b ∷ o) k h = (free_numbers before paths b o k.0 k.1 h.0, kept_numbers before paths o k.1 h.1)

  -- nodes of one rank are both plain, or neither is
  same_rank : (m n : Node) → rank m ≡ rank n → is_plain_node c n ≡ true → is_plain_node c m ≡ true
  same_rank (Start p) (Start q) e h = let same : p ≡ q = omega (arith, e) in ap (λ k. is_plain (real_at c k)) same ∙ h
  same_rank (End p) (Start q) e h = absurd (odd p q e) where
    odd : (p q : ℕ) → 2 * p + 1 ≡ 2 * q → ⊥
    odd p q e = omega (arith, e)
  same_rank m (End q) e h = absurd (no_way h)

  -- a plain node stands as often among the plain ones
  part_once : (n : Node) (nodes : List Node) → is_plain_node c n ≡ true → times (rank n) (map rank (plain_part c nodes)) ≡ times (rank n) (map rank nodes)
  part_once n [] h = refl
  part_once n (m ∷ nodes) h = step (is_plain_node c m) (rank m == rank n) refl refl (part_once n nodes h) where
    step : (s t : Bool) → is_plain_node c m ≡ s → rank m == rank n ≡ t → times (rank n) (map rank (plain_part c nodes)) ≡ times (rank n) (map rank nodes)
        → times (rank n) (map rank (cond s (m ∷ plain_part c nodes) (plain_part c nodes))) ≡ cond t 1 0 + times (rank n) (map rank nodes)
    step true t is at rest = ap (λ u. cond u 1 0 + times (rank n) (map rank (plain_part c nodes))) at ∙ ap (λ k. cond t 1 0 + k) rest
    step false true is at rest = absurd (no_way (sym is ∙ same_rank m n (eqb-true (rank m) (rank n) at) h))
    step false false is at rest = omega (arith, rest)

  -- what an order of all nodes leaves is an allowed order of the plain resources
  pub from_left : (before : ℕ → ℕ → Type 0) → Follows before → (o : List ℕ) → IsLeft c plain o → IsLinearExtension (length plain) before o
  from_left before paths o left = record {
    below = left.below;
    once = λ k less.
        sym (as_often k o less left.below)
        ∙ ap (λ ns. times (2 * slice_index plain k) (map rank ns)) (sym left.part)
        ∙ part_once (Start (slice_index plain k)) left.nodes (is_plain_here k less)
        ∙ left.allowed.once (Start (slice_index plain k)) (plain_is_node k less);
    kept = kept_numbers before paths o left.below (subst (NoneAhead c) left.part (part_kept left.nodes left.allowed.kept));
  }

-- the orders of the plain resources are allowed exactly where they are left of one of all nodes
pub allowed : (c : Catalog) (places : List ℕ) (before : ℕ → ℕ → Type 0) (test : Node → Node → Bool) → IsGraphOf c places before → Tells c test → (o : List ℕ)
    → (IsLinearExtension (length places) before o → IsLeft c places o) × (IsLeft c places o → IsLinearExtension (length places) before o)
allowed c places before test g tells o =
    let paths = subst (λ ps. (i j : ℕ) → i < length ps → j < length ps
    → (before i j → Before c (Start (slice_index ps i)) (Start (slice_index ps j))) × (Before c (Start (slice_index ps i)) (Start (slice_index ps j)) → before i j)) g.places g.paths in
    subst (λ ps. (IsLinearExtension (length ps) before o → IsLeft c ps o) × (IsLeft c ps o → IsLinearExtension (length ps) before o)) (sym g.places)
    (to_left c test tells g.acyclic before paths o, from_left c before paths o)
