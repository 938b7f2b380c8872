-- Laws of the order of literals.
use Rattle.std.specs.Prelude.{◌≡◌, ℕ, ◌+◌, ◌*◌, Bool, true, false, if◌then◌else◌, refl}
use Rattle.std.proofs.Common.{arith}
use Rattle.cnf.specs.declared.lit.Lit.{Lit}
use Rattle.cnf.specs.Literals.{lit_place}

-- a place tells the variable and the sign
same_places : (x y : ℕ) (a b : Bool) → 2 * x + (if a then 0 else 1) ≡ 2 * y + (if b then 0 else 1) → (x ≡ y) × (a ≡ b)
same_places x y true true h = (omega arith, refl)
same_places x y true false h = absurd (omega arith)
same_places x y false true h = absurd (omega arith)
same_places x y false false h = (omega arith, refl)

-- two literals with one place are one
pub ties_are_same : (l m : Lit) → lit_place l ≡ lit_place m → l ≡ m
ties_are_same l m h = let s = same_places l.var m.var l.positive m.positive h in λ i. record { var = s.0 i; positive = s.1 i }
