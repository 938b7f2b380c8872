-- Literals, their order, and their truth under a valuation.
use Rattle.std.specs.Prelude.{ℕ, ◌+◌, ◌*◌, ◌≤◌, Bool, not, ◌==◌, if◌then◌else◌}
use Rattle.cnf.specs.declared.lit.Lit.{Lit}

-- the same variable with the other sign
abbrev pub opposite : Lit → Lit
opposite l = record { var = l.var; positive = not l.positive }

-- the place of a literal in the order of literals: by variable, the positive one first
abbrev pub lit_place : Lit → ℕ
lit_place l = 2 * l.var + (if l.positive then 0 else 1)

-- whether two literals are one
abbrev pub same_lit : Lit → Lit → Bool
same_lit l m = lit_place l == lit_place m

-- a valuation gives each variable a truth value; a literal is true where its sign is that value
abbrev pub lit_true : (ℕ → Bool) → Lit → Bool
lit_true v l = if l.positive then v l.var else not (v l.var)

-- the variable is one of the first n, which are counted from 1
abbrev pub HasVariable : ℕ → Lit → Type 0
HasVariable n l = (1 ≤ l.var) × (l.var ≤ n)
