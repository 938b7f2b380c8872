-- The relation that a table of bits stands for.
use Rattle.std.proofs.Common.{◌≡◌, ℕ, Bool, true, false, cond, ◌+◌, ◌*◌, ◌<◌, ◌≤◌, ⊎_elim, List, [], get_or, length, sym, ap, ◌∙◌, arith}
use Rattle.std.specs.Prelude.{map, IsTrue, nat_lt, ◌&&◌}
use Rattle.std.specs.List.{range_with_len}
use Rattle.std.proofs.lemmas.Bool.{cases_lt, lt-ltb}
use Rattle.std.proofs.lemmas.List.{get_or_past}
use Rattle.std.proofs.lemmas.List.FromFn.{get_or-map-range_with_len, length-map-range_with_len}
use Rattle.orders.specs.Relation.{comes, Comes, old_number}
use Rattle.orders.specs.Table.{width_of, cell, relation_of, IsOrderTable}

-- a row of the table
abbrev row : ℕ → List ℕ → ℕ → List Bool
row n words a = map (λ b. cell (width_of n) words a b) (range_with_len 0 n)

-- one node comes before another exactly where the bit is set
pub comes_cell : (n : ℕ) (words : List ℕ) (a b : ℕ) → a < n → b < n → comes (relation_of n words) a b ≡ cell (width_of n) words a b
unfolding comes
comes_cell n words a b ha hb =
    ap (λ r. get_or r b false) (get_or-map-range_with_len (row n words) 0 n a a [] ha (omega arith))
    ∙ get_or-map-range_with_len (λ b. cell (width_of n) words a b) 0 n b b false hb (omega arith)

-- no row past the last tells of a node
comes_past_row : (n : ℕ) (words : List ℕ) (a b : ℕ) → n ≤ a → comes (relation_of n words) a b ≡ false
unfolding comes
comes_past_row n words a b h =
    ap (λ r. get_or r b false) (get_or_past (map (row n words) (range_with_len 0 n)) a [] (rw length-map-range_with_len h))

-- no bit past the end of a row does
comes_past_column : (n : ℕ) (words : List ℕ) (a b : ℕ) → a < n → n ≤ b → comes (relation_of n words) a b ≡ false
unfolding comes
comes_past_column n words a b ha h =
    ap (λ r. get_or r b false) (get_or-map-range_with_len (row n words) 0 n a a [] ha (omega arith))
    ∙ get_or_past (row n words a) b false (rw length-map-range_with_len h)

-- what is false isn't true
not_false : (b : Bool) → b ≡ false → IsTrue b → ⊥
not_false b e h = cc

-- only nodes below the count are related
pub comes_within : (n : ℕ) (words : List ℕ) (a b : ℕ) → Comes (relation_of n words) a b → (a < n) × (b < n)
comes_within n words a b h =
    ⊎_elim
    (λ ha. ⊎_elim (λ hb. (ha, hb)) (λ hb. absurd (not_false _ (comes_past_column n words a b ha hb) h)) (cases_lt b n))
    (λ ha. absurd (not_false _ (comes_past_row n words a b ha) h)) (cases_lt a n)

-- the first a rows have been copied, node r left out
pub record IsCopied (n r a : ℕ) (from words : List ℕ) : Type 0 where
  pub size : length words ≡ n * width_of n
  pub copied : (x y : ℕ) → x < n → y < n → cell (width_of n) words x y ≡ (nat_lt x a && cell (width_of (n + 1)) from (old_number r x) (old_number r y))

-- a node that stayed when one was taken out was a node before
old_within : (n r x : ℕ) → x < n → old_number r x < n + 1
old_within n r x h = within (nat_lt x r)
  where
    within : (b : Bool) → cond b x (x + 1) < n + 1
    within true = omega arith
    within false = omega arith

module _ (n r a : ℕ) (from words : List ℕ) (all : n ≤ a) (h : IsCopied n r a from words) where
  -- without the node that was taken out the relation is as before
  pub rest_is : (x y : ℕ) → x < n → y < n → comes (relation_of n words) x y ≡ comes (relation_of (n + 1) from) (old_number r x) (old_number r y)
  rest_is x y hx hy =
      comes_cell n words x y hx hy ∙ h.copied x y hx hy
      ∙ ap (λ v. v && cell (width_of (n + 1)) from (old_number r x) (old_number r y)) (lt-ltb x a (omega arith))
      ∙ sym (comes_cell (n + 1) from (old_number r x) (old_number r y) (old_within n r x hx) (old_within n r y hy))

  -- and still a strict order
  pub rest_ordered : IsOrderTable (n + 1) from → IsOrderTable n words
  rest_ordered o = record {
    size = h.size;
    strict = record {
      within = comes_within n words;
      never_itself = λ x c. let w = comes_within n words x x c in o.strict.never_itself (old_number r x) (sym (rest_is x x w.0 w.0) ∙ c);
      transitive = λ x y z c d.
          let v = comes_within n words x y c in
          let w = comes_within n words y z d in
          rest_is x z v.0 w.1 ∙ o.strict.transitive (old_number r x) (old_number r y) (old_number r z) (sym (rest_is x y v.0 v.1) ∙ c) (sym (rest_is y z w.0 w.1) ∙ d);
    };
  }
