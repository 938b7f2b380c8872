-- Orders of nodes between one that comes before all others and one that comes after all others.
use Rattle.std.proofs.Common.{◌≡◌, ◌≢◌, inl, inr, ℕ, zero, suc, Bool, true, false, ◌==◌, ◌+◌, ◌<◌, ◌≤◌, List, [], ◌∷◌, ◌++◌, refl, sym, ap, subst, ◌∙◌, arith, nat_lt, eqb-true, ltb-true, ltb-false}
use Rattle.std.proofs.lemmas.Bool.{eqb-false}
use Rattle.std.specs.Prelude.{IsTrue}
use Rattle.std.specs.List.{AllByRecursion, Contains}
use Rattle.std.proofs.lemmas.List.Elements.{Contains-append_left, Contains-append_right, Contains-append_cases, Contains-get_or}
use Rattle.fs_semantics.specs.Orders.{NoneAhead, times, IsLinearExtension}
use Rattle.fs_semantics.proofs.Counts.{times_append, times_found, times_itself, times_other, all_at, all_from, none_ahead_at, none_ahead_push, none_ahead_without}
use Rattle.orders.specs.Paths.{EndsBelow, Path, edge, and_on}
use Rattle.commute_prune.specs.Pairs.{pairs_of}
use Rattle.commute_prune.proofs.PairLaws.{pairs_from, pairs_in}
use Rattle.kept_graph.specs.Contracted.{Around, star}
use Rattle.kept_graph.proofs.CompletionLaws.{extension_by}
use Rattle.fs_semantics.proofs.Commuting.{none_above}

-- numbers below n, and then n + 1, are below n + 2
widened : (n : ℕ) (o : List ℕ) → AllByRecursion (λ i. i < n) o → AllByRecursion (λ i. i < n + 2) (o ++ (n + 1) ∷ [])
widened n [] all = (omega arith, tt)
widened n (i ∷ o) all = let low : i < n = all.0 in (omega arith, widened n o all.1)

module _ (n : ℕ) (before : ℕ → ℕ → Type 0) where
  -- nothing comes before node n
  pub none_before : (a : ℕ) → Around n before a n → ⊥
  none_before a (inl h) = h.1 refl
  none_before a (inr (inl h)) = let e = h.0 in omega arith
  none_before a (inr (inr h)) = let low = h.1 in omega arith

  -- node n + 1 comes before nothing
  pub none_after : (b : ℕ) → Around n before (n + 1) b → ⊥
  none_after b (inl h) = let e = h.0 in omega arith
  none_after b (inr (inl h)) = h.1 refl
  none_after b (inr (inr h)) = let low = h.0 in omega arith

  -- between the other nodes the order is theirs
  among : (a b : ℕ) → a < n → b < n → Around n before a b → before a b
  among a b h g (inl k) = let e = k.0 in absurd (omega arith)
  among a b h g (inr (inl k)) = let e = k.0 in absurd (omega arith)
  among a b h g (inr (inr k)) = k.2

  -- an order of the nodes between, with the two others at its ends
  abbrev pub wrapped : List ℕ → List ℕ
  wrapped mid = n ∷ (mid ++ (n + 1) ∷ [])

  -- each node stands once in it
  counted : (mid : List ℕ) (k : ℕ) → IsLinearExtension n before mid → k < n + 2 → times k (wrapped mid) ≡ 1
  counted mid k a h = by (nat_lt k n) refl
    where
      apart : times k (mid ++ (n + 1) ∷ []) ≡ times k mid + times k ((n + 1) ∷ [])
      apart = times_append k mid ((n + 1) ∷ [])

      by : (b : Bool) → nat_lt k n ≡ b → times k (wrapped mid) ≡ 1
      by true e =
          let low = ltb-true k n e in
          omega (arith, times_other k n (mid ++ (n + 1) ∷ []) (λ f. omega (arith, f, low)), apart, a.once k low, times_other k (n + 1) [] (λ f. omega (arith, f, low)))
      by false e =
          let high = ltb-false k n e in
          let none = none_above n k mid a.below (omega (arith, high)) in
          elim (k == n) as (λ b. (k == n) ≡ b → times k (wrapped mid) ≡ 1) [
            | true ↦ λ f.
                let same = eqb-true k n f in
                omega (arith, subst (λ m. times k (m ∷ (mid ++ (n + 1) ∷ [])) ≡ 1 + times k (mid ++ (n + 1) ∷ [])) same (times_itself k (mid ++ (n + 1) ∷ [])), apart, none, times_other k (n + 1) [] (λ g. omega (arith, g, same)))
            | false ↦ λ f.
                let other = eqb-false k n f in
                let last : k ≡ n + 1 = omega (arith, high, h, other) in
                omega (arith, times_other k n (mid ++ (n + 1) ∷ []) (λ g. other g), apart, none, subst (λ m. times k (m ∷ []) ≡ 1 + times k []) last (times_itself k []))
          ] refl

  -- an allowed order of the nodes between is allowed with the two others at its ends
  pub wraps : (mid : List ℕ) → IsLinearExtension n before mid → IsLinearExtension (n + 2) (Around n before) (wrapped mid)
  wraps mid a =
      let inner = extension_by n before (Around n before) among mid a in
      record {
        below = (omega arith, widened n mid a.below);
        once = λ k h. counted mid k a h;
        kept = (
          all_from (λ k. Around n before k n → ⊥) (mid ++ (n + 1) ∷ []) (λ k h. none_before k),
          none_ahead_push (Around n before) mid (n + 1) inner.kept (all_from (λ b. Around n before (n + 1) b → ⊥) mid (λ b h. none_after b)),
        );
      }

  -- what stands in an order: the first node, an order of those between, and the last node
  pub record Shape (o : List ℕ) : Type 0 where
    pub mid : List ℕ
    pub is : o ≡ wrapped mid
    pub allowed : IsLinearExtension n before mid

  -- behind the first node
  tail_shape : (o : List ℕ) → IsLinearExtension (n + 2) (Around n before) (n ∷ o) → Shape (n ∷ o)
  tail_shape o a =
      let last : 0 < times (n + 1) o = omega (arith, times_other (n + 1) n o (λ e. omega (arith, e)), a.once (n + 1) (omega arith)) in
      let s = times_found (n + 1) o last in
      by s.0 s.1 s.2
    where
      by : (f g : List ℕ) → o ≡ f ++ (n + 1) ∷ g → Shape (n ∷ o)
      by f [] is =
          let first : times n o ≡ 0 = omega (arith, times_itself n o, a.once n (omega arith)) in
          let kept : NoneAhead (Around n before) (f ++ (n + 1) ∷ []) = subst (NoneAhead (Around n before)) is a.kept.1 in
          let count : (k : ℕ) → times k o ≡ times k f + times k ((n + 1) ∷ []) = λ k. ap (times k) is ∙ times_append k f ((n + 1) ∷ []) in
          let one : times (n + 1) o ≡ 1 = omega (arith, times_other (n + 1) n o (λ e. omega (arith, e)), a.once (n + 1) (omega arith)) in
          let below : AllByRecursion (λ k. k < n) f = all_from (λ k. k < n) f (λ k h.
          let low = all_at (λ j. j < n + 2) o k a.below.1 (omega (arith, h, count k)) in
          let not_first : k ≢ n = λ e. omega (arith, h, count k, first, ap (λ j. times j f) e, ap (λ j. times j o) e) in
          let not_last : k ≢ n + 1 = λ e. omega (arith, h, count (n + 1), one, times_itself (n + 1) [], ap (λ j. times j f) e) in
          omega (arith, low, not_first, not_last)) in
          record {
            mid = f;
            is = ap (λ r. n ∷ r) is;
            allowed = extension_by n (Around n before) before (λ x y h l k. inr (inr (h, l, k))) f (record {
              below = below;
              once = λ k h. omega (arith, count k, a.once k (omega (arith, h)), times_other k n o (λ e. omega (arith, e, h)), times_other k (n + 1) [] (λ e. omega (arith, e, h)));
              kept = subst (NoneAhead (Around n before)) (nothing_behind f) (none_ahead_without (Around n before) f (n + 1) [] kept);
            });
          }
        where
          nothing_behind : (xs : List ℕ) → xs ++ [] ≡ xs
          nothing_behind [] = refl
          nothing_behind (x ∷ xs) = ap (λ r. x ∷ r) (nothing_behind xs)
      by f (y ∷ g) is =
          let kept : NoneAhead (Around n before) (f ++ (n + 1) ∷ y ∷ g) = subst (NoneAhead (Around n before)) is a.kept.1 in
          let one : times (n + 1) o ≡ 1 = omega (arith, times_other (n + 1) n o (λ e. omega (arith, e)), a.once (n + 1) (omega arith)) in
          let count : times (n + 1) o ≡ times (n + 1) f + times (n + 1) ((n + 1) ∷ y ∷ g) = ap (times (n + 1)) is ∙ times_append (n + 1) f ((n + 1) ∷ y ∷ g) in
          let other : y ≢ n + 1 = λ e. omega (arith, one, count, times_itself (n + 1) (y ∷ g), subst (λ j. times j (y ∷ g) ≡ 1 + times j g) e (times_itself y g)) in
          absurd ((none_ahead_at (Around n before) f (n + 1) (y ∷ g) kept).0 (inr (inl (refl, other))))

  -- and each order that is allowed with them is such an order with the two at its ends
  pub shape : (o : List ℕ) → IsLinearExtension (n + 2) (Around n before) o → Shape o
  shape [] a = absurd (omega (arith, a.once n (omega arith)))
  shape (x ∷ o) a = elim (x == n) as (λ b. (x == n) ≡ b → Shape (x ∷ o)) [
    | true ↦ λ e. let same : n ≡ x = sym (eqb-true x n e) in subst (λ k. Shape (k ∷ o)) same (tail_shape o (subst (λ k. IsLinearExtension (n + 2) (Around n before) (k ∷ o)) (sym same) a))
    | false ↦ λ e.
        let other = eqb-false x n e in
        let there : 0 < times n o = omega (arith, times_other n x o (λ f. other (sym f)), a.once n (omega arith)) in
        absurd (all_at (λ k. Around n before k x → ⊥) o n a.kept.0 there (inl (refl, other)))
  ] refl

  -- ---- the edges

  -- the order around is transitive where that between is
  pub around_on : ((a b c : ℕ) → before a b → before b c → before a c) → (a b c : ℕ) → Around n before a b → Around n before b c → Around n before a c
  around_on trans a b c (inl h) (inl k) = absurd (h.1 k.0)
  around_on trans a b c (inl h) (inr (inl k)) = let e = k.0 in inl (h.0, λ f. omega (arith, e, f))
  around_on trans a b c (inl h) (inr (inr k)) = let low = k.1 in inl (h.0, λ f. omega (arith, low, f))
  around_on trans a b c (inr (inl h)) (inl k) = let e = h.0 in let f = k.0 in absurd (omega (arith, e, f))
  around_on trans a b c (inr (inl h)) (inr (inl k)) = absurd (k.1 h.0)
  around_on trans a b c (inr (inl h)) (inr (inr k)) = let e = h.0 in let low = k.0 in absurd (omega (arith, e, low))
  around_on trans a b c (inr (inr h)) (inl k) = let low = h.1 in let e = k.0 in absurd (omega (arith, low, e))
  around_on trans a b c (inr (inr h)) (inr (inl k)) = let low = h.0 in inr (inl (k.0, λ f. omega (arith, low, f)))
  around_on trans a b c (inr (inr h)) (inr (inr k)) = inr (inr (h.0, k.1, trans a b c h.2 k.2))

  -- around, too, no node comes before itself
  pub never_around : ((a : ℕ) → before a a → ⊥) → (a : ℕ) → Around n before a a → ⊥
  never_around never a (inl h) = h.1 h.0
  never_around never a (inr (inl h)) = h.1 h.0
  never_around never a (inr (inr h)) = never a h.2

  -- the edge is one between these nodes, and leads from what comes before to what comes after
  pub record IsAround (e : ℕ × ℕ) : Type 0 where
    pub left : e.0 < n + 2
    pub right : e.1 < n + 2
    pub around : Around n before e.0 e.1

  -- the edges from node n to another one, and from that to node n + 1, lead from what comes before
  two_from : (m : ℕ) (e : ℕ × ℕ) → m < n → Contains ((n, m) ∷ (m, n + 1) ∷ []) e → IsAround e
  two_from m e low (zero, h, at) = subst IsAround at (record { left = omega arith; right = omega arith; around = inl (refl, λ f. omega (arith, f)) })
  two_from m e low (suc zero, h, at) = subst IsAround at (record { left = omega arith; right = omega arith; around = inr (inl (refl, λ f. omega (arith, f))) })
  two_from m e low (suc (suc k), h, at) = absurd (omega (arith, h))

  -- all edges of the star lead from what comes before
  pub star_from : (m : ℕ) (e : ℕ × ℕ) → m ≤ n → Contains (star n m) e → IsAround e
  star_from zero e low (zero, h, at) = subst IsAround at (record { left = omega arith; right = omega arith; around = inl (refl, λ f. omega (arith, f)) })
  star_from zero e low (suc k, h, at) = absurd (omega (arith, h))
  star_from (suc m) e low h = elim (Contains-append_cases (star n m) ((n, m) ∷ (m, n + 1) ∷ []) e h) [
    | inl k ↦ star_from m e (omega arith) k
    | inr k ↦ two_from m e (omega arith) k
  ]

-- the star has the edge from node n to node n + 1
star_ends : (n m : ℕ) → Contains (star n m) (n, n + 1)
star_ends n zero = (0, omega arith, refl)
star_ends n (suc m) = Contains-append_left (star n m) ((n, m) ∷ (m, n + 1) ∷ []) (n, n + 1) (star_ends n m)

-- it has an edge from node n to each node between
star_first : (n m j : ℕ) → j < m → Contains (star n m) (n, j)
star_first n zero j low = absurd (omega (arith, low))
star_first n (suc m) j low = elim (nat_lt j m) as (λ b. nat_lt j m ≡ b → Contains (star n (suc m)) (n, j)) [
  | true ↦ λ e. Contains-append_left (star n m) ((n, m) ∷ (m, n + 1) ∷ []) (n, j) (star_first n m j (ltb-true j m e))
  | false ↦ λ e.
      let same : m ≡ j = omega (arith, low, ltb-false j m e) in
      Contains-append_right (star n m) ((n, m) ∷ (m, n + 1) ∷ []) (n, j) (subst (λ k. Contains {X = ℕ × ℕ} ((n, m) ∷ (m, n + 1) ∷ []) (n, k)) same (0, omega arith, refl))
] refl

-- and one from each node between to node n + 1
star_last : (n m j : ℕ) → j < m → Contains (star n m) (j, n + 1)
star_last n zero j low = absurd (omega (arith, low))
star_last n (suc m) j low = elim (nat_lt j m) as (λ b. nat_lt j m ≡ b → Contains (star n (suc m)) (j, n + 1)) [
  | true ↦ λ e. Contains-append_left (star n m) ((n, m) ∷ (m, n + 1) ∷ []) (j, n + 1) (star_last n m j (ltb-true j m e))
  | false ↦ λ e.
      let same : m ≡ j = omega (arith, low, ltb-false j m e) in
      Contains-append_right (star n m) ((n, m) ∷ (m, n + 1) ∷ []) (j, n + 1) (subst (λ k. Contains {X = ℕ × ℕ} ((n, m) ∷ (m, n + 1) ∷ []) (k, n + 1)) same (1, omega arith, refl))
] refl

-- ---- the order between, by pairs that pass a test

module _ (n : ℕ) (test : ℕ → ℕ → Bool) where
  -- the pairs between, and the star
  abbrev edges : List (ℕ × ℕ)
  edges = pairs_of test n n ++ star n n

  -- each edge leads from what comes before
  around_from : (e : ℕ × ℕ) → Contains edges e → IsAround n (λ a b. IsTrue (test a b)) e
  around_from e h = elim (Contains-append_cases (pairs_of test n n) (star n n) e h) [
    | inl k ↦ let p = pairs_from test n n e k in record { left = omega (arith, p.left); right = omega (arith, p.right); around = inr (inr (p.left, p.right, p.passes)) }
    | inr k ↦ star_from n (λ a b. IsTrue (test a b)) n e (omega arith) k
  ]

  -- the ends of the edges are nodes
  pub edges_bounded : EndsBelow (n + 2) edges
  edges_bounded k d h = let p = around_from _ (Contains-get_or edges k d h) in (p.left, p.right)

  -- a path of edges leads only from what comes before
  pub around_path : ((a b c : ℕ) → IsTrue (test a b) → IsTrue (test b c) → IsTrue (test a c)) → (i j : ℕ) → Path edges i j → Around n (λ a b. IsTrue (test a b)) i j
  around_path trans i j (edge h) = (around_from (i, j) h).around
  around_path trans i j (and_on h more) = around_on n (λ a b. IsTrue (test a b)) trans _ _ _ (around_from _ h).around (around_path trans _ j more)

  -- and what comes before leads on by a path of edges
  pub path_around : (i j : ℕ) → i < n + 2 → j < n + 2 → Around n (λ a b. IsTrue (test a b)) i j → Path edges i j
  path_around i j left right (inl h) = edge (Contains-append_right (pairs_of test n n) (star n n) (i, j) (by (nat_lt j n) refl))
    where
      same : n ≡ i
      same = sym h.0

      by : (b : Bool) → nat_lt j n ≡ b → Contains (star n n) (i, j)
      by true e = subst (λ k. Contains (star n n) (k, j)) same (star_first n n j (ltb-true j n e))
      by false e =
          let last : n + 1 ≡ j = omega (arith, right, h.1, ltb-false j n e) in
          subst (λ k. Contains (star n n) (k, j)) same (subst (λ k. Contains (star n n) (n, k)) last (star_ends n n))
  path_around i j left right (inr (inl h)) = edge (Contains-append_right (pairs_of test n n) (star n n) (i, j) (by (nat_lt i n) refl))
    where
      same : n + 1 ≡ j
      same = sym h.0

      by : (b : Bool) → nat_lt i n ≡ b → Contains (star n n) (i, j)
      by true e = subst (λ k. Contains (star n n) (i, k)) same (star_last n n i (ltb-true i n e))
      by false e =
          let first : n ≡ i = omega (arith, left, h.1, ltb-false i n e) in
          subst (λ k. Contains (star n n) (i, k)) same (subst (λ k. Contains (star n n) (k, n + 1)) first (star_ends n n))
  path_around i j left right (inr (inr h)) = edge (Contains-append_left (pairs_of test n n) (star n n) (i, j) (pairs_in test n n i j h.0 h.1 h.2))
