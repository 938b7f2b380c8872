-- The pairs of plain resources are those of which the one comes before the other.
use Rattle.std.proofs.Common.{◌≡◌, ℕ, zero, suc, ◌*◌, ◌<◌, List, [], length, Bool, true, false, ◌⊎◌, inl, inr, refl, sym, ap, subst, ◌∙◌, arith, ltb-true, ltb-false}
use Rattle.std.specs.Prelude.{slice_index, nat_lt}
use Rattle.std.specs.List.{Contains}
use Rattle.std.proofs.lemmas.List.Elements.{Contains-append_left, Contains-append_right, Contains-append_cases}
use Rattle.orders.specs.Relation.{Relation, Comes, IsStrictOrder}
use Rattle.orders.specs.Paths.{EndsBelow, Path}
use Rattle.orders.specs.Paths as paths
use Rattle.dep_graph.specs.Pairs.{comes_at, pair_if, pairs_in_row, pairs_below}
use Rattle.graph_semantics.proofs.Elements.{either_way, none_in, head_in, in_one}
use Rattle.dep_graph.proofs.NamedLaws.{all_from}
use Rattle.graph_semantics.proofs.Basics.{no_way}

-- the pair is of two of the first n and the first m, and the one comes before the other
pub record IsPair (whole : Relation) (plain : List ℕ) (n m : ℕ) (e : ℕ × ℕ) : Type 0 where
  pub left : e.0 < n
  pub right : e.1 < m
  pub before : comes_at whole plain e.0 e.1 ≡ true

-- a pair that is there is that one, and the test holds
pair_from : (t : Bool) (i j : ℕ) (e : ℕ × ℕ) → Contains (pair_if t i j) e → (t ≡ true) × ((i, j) ≡ e)
pair_from true i j e h = (refl, in_one (i, j) e h)
pair_from false i j e h = absurd (none_in e h)

-- a pair of a row is of this one and one of the first, and the one comes before the other
row_from : (whole : Relation) (plain : List ℕ) (i j : ℕ) (e : ℕ × ℕ) → Contains (pairs_in_row whole plain i j) e → (e.0 ≡ i) × (e.1 < j) × (comes_at whole plain e.0 e.1 ≡ true)
row_from whole plain i zero e h = absurd (none_in e h)
row_from whole plain i (suc j) e h =
    either_way (λ m. let rest = row_from whole plain i j e m in (rest.0, omega (arith, rest.1), rest.2))
    (λ m.
    let at = pair_from (comes_at whole plain i j) i j e m in
    let left : e.0 ≡ i = sym (ap (λ (p : ℕ × ℕ). p.0) at.1) in
    let right : e.1 ≡ j = sym (ap (λ (p : ℕ × ℕ). p.1) at.1) in
    (left, omega (arith, right), ap (λ (p : ℕ × ℕ). comes_at whole plain p.0 p.1) (sym at.1) ∙ at.0))
    (Contains-append_cases (pairs_in_row whole plain i j) (pair_if (comes_at whole plain i j) i j) e h)

-- each pair that is made is one of which the one comes before the other
pub pairs_from : (whole : Relation) (plain : List ℕ) (n : ℕ) (e : ℕ × ℕ) → Contains (pairs_below whole plain n) e → IsPair whole plain n (length plain) e
pairs_from whole plain zero e h = absurd (none_in e h)
pairs_from whole plain (suc i) e h =
    either_way (λ m. let rest = pairs_from whole plain i e m in let less = rest.left in record { left = omega arith; right = rest.right; before = rest.before })
    (λ m. let at = row_from whole plain i (length plain) e m in let same = at.0 in record { left = omega arith; right = at.1; before = at.2 })
    (Contains-append_cases (pairs_below whole plain i) (pairs_in_row whole plain i (length plain)) e h)

-- what is below the next number is below this one, or is it
here_or_later : (j k : ℕ) (t : Bool) → nat_lt j k ≡ t → j < suc k → (j < k) ⊎ (j ≡ k)
here_or_later j k true is h = inl (ltb-true j k is)
here_or_later j k false is h = let up = ltb-false j k is in inr (omega arith)

-- where the test holds, the pair is there
pair_in : (t : Bool) (i j : ℕ) → t ≡ true → Contains (pair_if t i j) (i, j)
pair_in true i j h = head_in (i, j) []
pair_in false i j h = absurd (no_way h)

-- a pair of which the one comes before the other is in the row
row_in : (whole : Relation) (plain : List ℕ) (i k j : ℕ) → j < k → comes_at whole plain i j ≡ true → Contains (pairs_in_row whole plain i k) (i, j)
row_in whole plain i zero j less h = absurd (never less) where
  never : j < 0 → ⊥
  never less = omega (arith, less)
row_in whole plain i (suc k) j less h =
    either_way (λ small. Contains-append_left (pairs_in_row whole plain i k) (pair_if (comes_at whole plain i k) i k) (i, j) (row_in whole plain i k j small h))
    (λ same. Contains-append_right (pairs_in_row whole plain i k) (pair_if (comes_at whole plain i k) i k) (i, j)
    (subst (λ m. Contains (pair_if (comes_at whole plain i m) i m) (i, j)) same (pair_in (comes_at whole plain i j) i j h)))
    (here_or_later j k (nat_lt j k) refl less)

-- and so among all
pub pairs_in : (whole : Relation) (plain : List ℕ) (n i j : ℕ) → i < n → j < length plain → comes_at whole plain i j ≡ true → Contains (pairs_below whole plain n) (i, j)
pairs_in whole plain zero i j less right h = absurd (never less) where
  never : i < 0 → ⊥
  never less = omega (arith, less)
pairs_in whole plain (suc n) i j less right h =
    either_way (λ small. Contains-append_left (pairs_below whole plain n) (pairs_in_row whole plain n (length plain)) (i, j) (pairs_in whole plain n i j small right h))
    (λ same. Contains-append_right (pairs_below whole plain n) (pairs_in_row whole plain n (length plain)) (i, j)
    (subst (λ m. Contains (pairs_in_row whole plain m (length plain)) (i, j)) same (row_in whole plain i (length plain) j right h)))
    (here_or_later i n (nat_lt i n) refl less)

-- both of each pair are below the number of plain resources
pub pairs_bounded : (whole : Relation) (plain : List ℕ) → EndsBelow (length plain) (pairs_below whole plain (length plain))
pairs_bounded whole plain = all_from (λ (e : ℕ × ℕ). (e.0 < length plain) × (e.1 < length plain)) (pairs_below whole plain (length plain))
    (λ e m. let p = pairs_from whole plain (length plain) e m in (p.left, p.right))

-- a path of pairs leads only from what comes before
pub pairs_path : (whole : Relation) (plain : List ℕ) → IsStrictOrder whole → (i j : ℕ) → Path (pairs_below whole plain (length plain)) i j
    → Comes whole (2 * slice_index plain i) (2 * slice_index plain j)
pairs_path whole plain strict i j (paths.Path.edge h) = (pairs_from whole plain (length plain) (i, j) h).before
pairs_path whole plain strict i j (paths.Path.and_on h more) =
    strict.transitive _ _ _ (pairs_from whole plain (length plain) _ h).before (pairs_path whole plain strict _ j more)

-- where one plain resource comes before another, a path of pairs leads to it
pub path_of_pairs : (whole : Relation) (plain : List ℕ) (i j : ℕ) → i < length plain → j < length plain → Comes whole (2 * slice_index plain i) (2 * slice_index plain j)
    → Path (pairs_below whole plain (length plain)) i j
path_of_pairs whole plain i j left right h = paths.Path.edge (pairs_in whole plain (length plain) i j left right h)
