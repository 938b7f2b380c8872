-- Pairs of a key and an item: which item a key has, and where a key stands.
use Rattle.std.specs.Prelude.{◌≡◌, ℕ, zero, suc, ◌+◌, if◌then◌else◌, List, [], ◌∷◌, Option, Some, None}
use Rattle.std.specs.Str.{bytes_eq}

-- the item of a key
abbrev pub value_at : {X : Type 0} → List ℕ → List (List ℕ × X) → Option X
value_at key [] = None
value_at key (p ∷ pairs) = if bytes_eq p.0 key then Some p.1 else value_at key pairs

-- a key that stands already takes the item and keeps its place, and a new key goes last
abbrev pub with_pair : {X : Type 0} → List ℕ → X → List (List ℕ × X) → List (List ℕ × X)
with_pair key x [] = (key, x) ∷ []
with_pair key x (p ∷ pairs) = if bytes_eq p.0 key then (p.0, x) ∷ pairs else p ∷ with_pair key x pairs

-- some pairs, and then others, one after the other
abbrev pub with_pairs : {X : Type 0} → List (List ℕ × X) → List (List ℕ × X) → List (List ℕ × X)
with_pairs pairs [] = pairs
with_pairs pairs (p ∷ more) = with_pairs (with_pair p.0 p.1 pairs) more

-- no key stands twice
abbrev pub HasDistinctKeys : {X : Type 0} → List (List ℕ × X) → Type 0
HasDistinctKeys [] = Unit {0}
HasDistinctKeys (p ∷ pairs) = (value_at p.0 pairs ≡ None) × HasDistinctKeys pairs

-- ---- places

-- the keys, each with its place, which is counted from n on
abbrev pub places_of : {X : Type 0} → ℕ → List (List ℕ × X) → List (List ℕ × ℕ)
places_of n [] = []
places_of n (p ∷ pairs) = (p.0, n) ∷ places_of (n + 1) pairs

-- the place of a key
abbrev pub place_among : List ℕ → List (List ℕ × ℕ) → Option ℕ
place_among key places = value_at key places

-- the pairs with another item at a place
abbrev pub with_item_at : {X : Type 0} → ℕ → X → List (List ℕ × X) → List (List ℕ × X)
with_item_at place x [] = []
with_item_at zero x (p ∷ pairs) = (p.0, x) ∷ pairs
with_item_at (suc place) x (p ∷ pairs) = p ∷ with_item_at place x pairs
