-- Literals by their indexes, as in MiniSat: variable k, counted from 0, is the literal 2 * k, and its negation is 2 * k + 1.
use Rattle.std.specs.Prelude.{ℕ, ◌+◌, ◌-◌, ◌%◌, ◌==◌, Bool, if◌then◌else◌, List}
use Rattle.std.specs.List.{list_any}

-- the literal of the same variable with the other sign
abbrev pub opposite : ℕ → ℕ
opposite l = if l % 2 == 0 then l + 1 else l - 1

-- whether a literal stands among these
abbrev pub has : List ℕ → ℕ → Bool
has t l = list_any (λ x. l == x) t
