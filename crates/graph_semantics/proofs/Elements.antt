-- Elements of lists.
use Rattle.std.proofs.Common.{◌≡◌, ℕ, zero, suc, ◌<◌, List, [], ◌∷◌, length, get_or, map, Bool, true, false, cond, ◌||◌, Some, ◌⊎◌, inl, inr, refl, sym, ap, subst, ◌∙◌, arith}
use Rattle.std.specs.Prelude.{slice_get, filter}
use Rattle.std.specs.List.{Contains, flat_map, list_any}
use Rattle.std.proofs.lemmas.List.Elements.{Contains-append_left, Contains-append_right, Contains-append_cases}
use Rattle.std.proofs.lemmas.Bool.{or_right, or_left}

-- what follows from both cases follows
pub either_way : {A B C : Type 0} → (A → C) → (B → C) → A ⊎ B → C
either_way f g (inl a) = f a
either_way f g (inr b) = g b

-- nothing stands in an empty list
pub none_in : {X : Type 0} (y : X) → Contains [] y → ⊥
none_in y h = omega (arith, h.1)

-- the first stands in a list
pub head_in : {X : Type 0} (x : X) (xs : List X) → Contains (x ∷ xs) x
head_in x xs = (0, omega arith, refl)

-- so does what stands among the others
pub tail_in : {X : Type 0} (x y : X) (xs : List X) → Contains xs y → Contains (x ∷ xs) y
tail_in x y xs h = (suc h.0, omega (arith, h.1), h.2)

-- what stands at a place is the first, or one of the others
cases_at : {X : Type 0} (x y : X) (xs : List X) (k : ℕ) → k < length (x ∷ xs) → get_or (x ∷ xs) k y ≡ y → (x ≡ y) ⊎ Contains xs y
cases_at x y xs zero h e = inl e
cases_at x y xs (suc k) h e = inr (k, omega (arith, h), e)

-- what stands in a list is the first, or one of the others
pub in_cases : {X : Type 0} (x y : X) (xs : List X) → Contains (x ∷ xs) y → (x ≡ y) ⊎ Contains xs y
in_cases x y xs h = cases_at x y xs h.0 h.1 h.2

-- what stands in a list of one is that one
pub in_one : {X : Type 0} (x y : X) → Contains (x ∷ []) y → x ≡ y
in_one x y h = either_way (λ e. e) (λ k. absurd (none_in y k)) (in_cases x y [] h)

-- ---- places

-- what stands at a place stands in the list
pub got_in : {X : Type 0} (xs : List X) (k : ℕ) (x : X) → slice_get xs k ≡ Some x → Contains xs x
got_in [] k x h = cc
got_in (y ∷ xs) zero x h = let same : y ≡ x = cc in subst (Contains (y ∷ xs)) same (head_in y xs)
got_in (y ∷ xs) (suc k) x h = tail_in y x xs (got_in xs k x h)

-- and the place is within it
pub got_within : {X : Type 0} (xs : List X) (k : ℕ) (x : X) → slice_get xs k ≡ Some x → k < length xs
got_within [] k x h = cc
got_within (y ∷ xs) zero x h = omega arith
got_within (y ∷ xs) (suc k) x h = let rest = got_within xs k x h in omega (arith, rest)

-- ---- lists of what others give

-- an image comes from one of the list
pub in_map : {X Y : Type 0} (f : X → Y) (xs : List X) (y : Y) → Contains (map f xs) y → (x : X) × Contains xs x × (f x ≡ y)
in_map f [] y h = absurd (none_in y h)
in_map f (x ∷ xs) y h =
    either_way (λ e. (x, head_in x xs, e)) (λ k. let rest = in_map f xs y k in (rest.0, tail_in x rest.0 xs rest.1, rest.2)) (in_cases (f x) y (map f xs) h)

-- and each of the list has its image there
pub map_in : {X Y : Type 0} (f : X → Y) (xs : List X) (x : X) → Contains xs x → Contains (map f xs) (f x)
map_in f [] x h = absurd (none_in x h)
map_in f (z ∷ xs) x h =
    either_way (λ e. subst (λ v. Contains (map f (z ∷ xs)) (f v)) e (head_in (f z) (map f xs))) (λ k. tail_in (f z) (f x) (map f xs) (map_in f xs x k)) (in_cases z x xs h)

-- what stands among the lists of some stands in that of one
pub in_flat_map : {X Y : Type 0} (f : X → List Y) (xs : List X) (y : Y) → Contains (flat_map f xs) y → (x : X) × Contains xs x × Contains (f x) y
in_flat_map f [] y h = absurd (none_in y h)
in_flat_map f (x ∷ xs) y h =
    either_way (λ k. (x, head_in x xs, k)) (λ k. let rest = in_flat_map f xs y k in (rest.0, tail_in x rest.0 xs rest.1, rest.2)) (Contains-append_cases (f x) (flat_map f xs) y h)

-- and what stands in that of one stands among them
pub flat_map_in : {X Y : Type 0} (f : X → List Y) (xs : List X) (x : X) (y : Y) → Contains xs x → Contains (f x) y → Contains (flat_map f xs) y
flat_map_in f [] x y h k = absurd (none_in x h)
flat_map_in f (z ∷ xs) x y h k =
    either_way (λ e. Contains-append_left (f z) (flat_map f xs) y (subst (λ v. Contains (f v) y) (sym e) k))
    (λ rest. Contains-append_right (f z) (flat_map f xs) y (flat_map_in f xs x y rest k)) (in_cases z x xs h)

-- ---- filters

-- what is kept of a list stands in it and passes, where it is so of the others
kept_in : {X : Type 0} (z x : X) (p : X → Bool) (t : Bool) (rest xs : List X) → p z ≡ t → (Contains rest x → Contains xs x × (p x ≡ true)) → Contains (cond t (z ∷ rest) rest) x
    → Contains (z ∷ xs) x × (p x ≡ true)
kept_in z x p true rest xs is f h =
    either_way (λ e. (subst (Contains (z ∷ xs)) e (head_in z xs), subst (λ v. p v ≡ true) e is)) (λ k. (tail_in z x xs (f k).0, (f k).1)) (in_cases z x rest h)
kept_in z x p false rest xs is f h = (tail_in z x xs (f h).0, (f h).1)

-- what is kept stands in the list and passes
pub in_filter : {X : Type 0} (p : X → Bool) (xs : List X) (x : X) → Contains (filter p xs) x → Contains xs x × (p x ≡ true)
in_filter p [] x h = absurd (none_in x h)
in_filter p (z ∷ xs) x h = kept_in z x p (p z) (filter p xs) xs refl (in_filter p xs x) h

-- what passes is kept, where it is the first or one of the others
in_kept : {X : Type 0} (z x : X) (p : X → Bool) (t : Bool) (rest : List X) → p z ≡ t → p x ≡ true → (z ≡ x) ⊎ Contains rest x → Contains (cond t (z ∷ rest) rest) x
in_kept z x p true rest is px (inl e) = subst (Contains (z ∷ rest)) e (head_in z rest)
in_kept z x p false rest is px (inl e) = absurd (false_true (sym is ∙ ap p e ∙ px)) where
  false_true : false ≡ true → ⊥
  false_true h = cc
in_kept z x p true rest is px (inr k) = tail_in z x rest k
in_kept z x p false rest is px (inr k) = k

-- what stands in the list and passes is kept
pub filter_in : {X : Type 0} (p : X → Bool) (xs : List X) (x : X) → Contains xs x → p x ≡ true → Contains (filter p xs) x
filter_in p [] x h px = absurd (none_in x h)
filter_in p (z ∷ xs) x h px = in_kept z x p (p z) (filter p xs) refl px (either_way (λ e. inl e) (λ k. inr (filter_in p xs x k px)) (in_cases z x xs h))

-- ---- tests of some element

-- one passes that is the first or one of the others
any_at : {X : Type 0} (z : X) (p : X → Bool) (t r : Bool) (xs : List X) → p z ≡ t → (r ≡ true → (x : X) × Contains xs x × (p x ≡ true)) → (t || r) ≡ true → (x : X) × Contains (z ∷ xs) x × (p x ≡ true)
any_at z p true r xs is f h = (z, head_in z xs, is)
any_at z p false r xs is f h = let rest = f h in (rest.0, tail_in z rest.0 xs rest.1, rest.2)

-- where one is told to pass, one of the list does
pub any_in : {X : Type 0} (p : X → Bool) (xs : List X) → list_any p xs ≡ true → (x : X) × Contains xs x × (p x ≡ true)
any_in p [] h = absurd (false_true h) where
  false_true : false ≡ true → ⊥
  false_true h = cc
any_in p (z ∷ xs) h = any_at z p (p z) (list_any p xs) xs refl (any_in p xs) h

-- where one of the list passes, it is told
pub in_any : {X : Type 0} (p : X → Bool) (xs : List X) (x : X) → Contains xs x → p x ≡ true → list_any p xs ≡ true
in_any p [] x h px = absurd (none_in x h)
in_any p (z ∷ xs) x h px =
    either_way (λ e. or_left (p z) (list_any p xs) (ap p e ∙ px)) (λ k. or_right (p z) (list_any p xs) (in_any p xs x k px)) (in_cases z x xs h)
