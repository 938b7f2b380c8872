-- Lines and columns.
use Rattle.std.specs.Prelude.{◌≡◌, ◌≢◌, ◌⊎◌, ℕ, ◌+◌, ◌==◌, List, [], ◌∷◌, ◌++◌, length, take, if◌then◌else◌}
use Rattle.std.specs.List.{AllByRecursion}

-- how many line feeds the bytes have
abbrev pub line_feeds : List ℕ → ℕ
line_feeds [] = 0
line_feeds (b ∷ text) = (if b == 10 then 1 else 0) + line_feeds text

-- whole lines, each with its line feed: nothing, or bytes of which the last is a line feed
abbrev pub AreLines : List ℕ → Type 0
AreLines text = (text ≡ []) ⊎ ((more : List ℕ) × (text ≡ more ++ 10 ∷ []))

-- The byte behind so many others of the text stands in this line and column: the line is one and the number of line feeds
-- ahead of it, the column one and the number of bytes between the last of these and it.
pub record IsPlace (text : List ℕ) (at line column : ℕ) : Type 0 where
  pub lines : List ℕ
  pub begun : List ℕ
  pub ahead : take at text ≡ lines ++ begun
  pub whole : AreLines lines
  pub within : AllByRecursion (λ b. b ≢ 10) begun
  pub line_is : line ≡ 1 + line_feeds (take at text)
  pub column_is : column ≡ 1 + length begun
