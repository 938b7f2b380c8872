-- Nodes of an order, place by place.
use Rattle.std.proofs.Common.{◌≡◌, ℕ, zero, suc, ◌<◌, List, [], ◌∷◌, length, get_or, map, sym, subst, arith}
use Rattle.std.specs.List.{AllByRecursion}

-- the node at a place of an order of nodes below n is below n
pub node_below : (n : ℕ) (order : List ℕ) (i : ℕ) → AllByRecursion (λ k. k < n) order → i < length order → get_or order i 0 < n
node_below n [] i all h = absurd (omega (arith, h))
node_below n (k ∷ order) zero all h = all.0
node_below n (k ∷ order) (suc i) all h = node_below n order i all.1 (omega (arith, h))

-- what is told of a code holds at each place
pub told_at : {X : Type 0} (f : X → ℕ) (n : ℕ) (xs : List X) (i : ℕ) (x : X) → AllByRecursion (λ k. k < n) (map f xs) → x ≡ get_or xs i x → i < length xs → f x < n
told_at f n [] i x all e h = absurd (omega (arith, h))
told_at f n (y ∷ xs) zero x all e h = subst (λ z. f z < n) (sym e) all.0
told_at f n (y ∷ xs) (suc i) x all e h = told_at f n xs i x all.1 e (omega (arith, h))
