-- Tokens that are set apart from what is behind them.
use Rattle.std.specs.Prelude.{◌≡◌, ◌⊎◌, ℕ, List, [], ◌∷◌}

-- nothing, a space, or the bracket of an index
abbrev pub IsSetApart : List ℕ → Type 0
IsSetApart [] = Unit {0}
IsSetApart (b ∷ rest) = (b ≡ 32) ⊎ (b ≡ 91)
