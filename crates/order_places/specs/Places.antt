-- Orders place by place.
use Rattle.std.specs.Prelude.{ℕ, zero, suc, ◌==◌, ◌+◌, ◌-◌, ◌<◌, Bool, true, false, not, ◌&&◌, ◌||◌, nat_lt, List, [], ◌∷◌, ◌++◌, length, take, drop}
use Rattle.fs_semantics.specs.Orders.{Told, IsLinearExtension, IsExchange}

-- the order with the nodes at this place and the next exchanged
abbrev pub exchanged : ℕ → List ℕ → List ℕ
exchanged j [] = []
exchanged j (a ∷ []) = a ∷ []
exchanged zero (a ∷ b ∷ order) = b ∷ a ∷ order
exchanged (suc j) (a ∷ b ∷ order) = a ∷ exchanged j (b ∷ order)

-- what comes before the node is taken, as far as it is below n
abbrev pub all_taken : (ℕ → ℕ → Bool) → (ℕ → Bool) → ℕ → ℕ → Bool
all_taken before taken i zero = true
all_taken before taken i (suc n) = all_taken before taken i n && (not (before n i) || taken n)

-- the node may come next: it isn't taken, and all that comes before it is
abbrev pub is_ready : (ℕ → ℕ → Bool) → ℕ → (ℕ → Bool) → ℕ → Bool
is_ready before n taken i = nat_lt i n && (not (taken i) && all_taken before taken i n)

-- these are taken, and node i
abbrev pub with_taken : (ℕ → Bool) → ℕ → ℕ → Bool
with_taken taken i k = taken k || (k == i)

-- when these are taken, each of the order may come next
abbrev pub may_follow : (ℕ → ℕ → Bool) → ℕ → (ℕ → Bool) → List ℕ → Bool
may_follow before n taken [] = true
may_follow before n taken (i ∷ order) = is_ready before n taken i && may_follow before n (with_taken taken i) order

-- from the start each of the order may come next
abbrev pub is_in_order : (ℕ → ℕ → Bool) → ℕ → List ℕ → Bool
is_in_order before n order = may_follow before n (λ k. false) order

-- only numbers below n come before another, and none before itself
pub record IsStrict (n : ℕ) (before : ℕ → ℕ → Bool) : Type 0 where
  pub within : (a b : ℕ) → Told before a b → a < n
  pub never_itself : (a : ℕ) → Told before a a → ⊥

-- two allowed orders of which the second is the first with two free neighbours exchanged
pub record AreNeighbours (n : ℕ) (before : ℕ → ℕ → Bool) (order other : List ℕ) : Type 0 where
  pub first : IsLinearExtension n (Told before) order
  pub second : IsLinearExtension n (Told before) other
  pub exchange : IsExchange (Told before) order other

-- These two at a place and the next, with what the order has ahead of the place and behind both.
abbrev pub around : ℕ → List ℕ → ℕ → ℕ → List ℕ
around j order x y = take j (take (length order - 2) order) ++ x ∷ y ∷ drop j (drop 2 order)
