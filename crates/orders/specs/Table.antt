-- What the words of bits mean: for each node a row of bits, 64 to a word, one for each node.
use Rattle.std.specs.Prelude.{◌≡◌, ℕ, ◌+◌, ◌*◌, ◌/◌, ◌%◌, List, Bool, length, map, nat_eq, slice_index}
use Rattle.std.specs.List.{range_with_len}
use Rattle.std.specs.Int.{bit_at}
use Rattle.orders.specs.Relation.{Relation, IsStrictOrder}

-- words in a row of n bits
abbrev pub width_of : ℕ → ℕ
width_of n = (n + 63) / 64

-- whether bit b of row a is set, where a row has w words
abbrev pub cell : ℕ → List ℕ → ℕ → ℕ → Bool
cell w words a b = nat_eq (bit_at (slice_index words (a * w + b / 64)) (b % 64)) 1

-- the relation of n nodes that the words stand for
abbrev pub relation_of : ℕ → List ℕ → Relation
relation_of n words = record {
  count = n;
  table = map (λ a. map (λ b. cell (width_of n) words a b) (range_with_len 0 n)) (range_with_len 0 n);
}

-- the words are enough, and stand for a strict order
pub record IsOrderTable (n : ℕ) (words : List ℕ) : Type 0 where
  pub size : length words ≡ n * width_of n
  pub strict : IsStrictOrder (relation_of n words)
