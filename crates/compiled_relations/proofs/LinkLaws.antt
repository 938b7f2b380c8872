-- Pairs that are kept, one after another.
use Rattle.std.proofs.Common.{◌≡◌, ℕ, ◌+◌, ◌<◌, Bool, true, false, ◌||◌, cond, List, [], ◌∷◌, ◌++◌, length, get_or, drop, refl, ap, ap₂, sym, ◌∙◌, append_assoc}
use Rattle.std.proofs.lemmas.List.{drop_more}
use Rattle.compiled_relations.specs.Links.{same_pair, has_pair, stands_between, kept_behind}

-- pairs of places
abbrev Pairs : Type 0
Pairs = List (ℕ × ℕ)

-- a pair is among some and one more if it is among them, or is that
last_pair : (before : Pairs) (p q : ℕ × ℕ) → has_pair (before ++ p ∷ []) q ≡ (has_pair before q || same_pair q p)
last_pair [] p q = none (same_pair q p)
  where
    none : (a : Bool) → (a || false) ≡ a
    none true = refl
    none false = refl
last_pair (f ∷ before) p q = ap (λ t. same_pair q f || t) (last_pair before p q) ∙ sym (assoc (same_pair q f) (has_pair before q) (same_pair q p))
  where
    assoc : (a b c : Bool) → ((a || b) || c) ≡ (a || (b || c))
    assoc true b c = refl
    assoc false b c = refl

-- what is kept depends only on which pairs stand before
pub kept_same : (before other pairs : Pairs) → ((p : ℕ × ℕ) → has_pair before p ≡ has_pair other p) → kept_behind before pairs ≡ kept_behind other pairs
kept_same before other [] h = refl
kept_same before other (p ∷ pairs) h =
    let between : stands_between before p ≡ stands_between other p = ap₂ (λ a b. a || b) (h p) (h (p.1, p.0)) in
    let skipped = kept_same before other pairs h in
    let taken = kept_same (before ++ p ∷ []) (other ++ p ∷ []) pairs (λ q. last_pair before p q ∙ (ap (λ t. t || same_pair q p) (h q) ∙ sym (last_pair other p q))) in
    λ i. cond (between i) (skipped i) (p ∷ taken i)

module _ (kept before pairs w : Pairs) (i : ℕ) (d : ℕ × ℕ) (h : i < length pairs) (so_far : kept ++ kept_behind before (drop i pairs) ≡ w) where
  -- what is kept of the rest is what is kept of the next one and those behind it
  next_is :
      kept ++ cond (stands_between before (get_or pairs i d)) (kept_behind before (drop (i + 1) pairs)) (get_or pairs i d ∷ kept_behind (before ++ get_or pairs i d ∷ []) (drop (i + 1) pairs)) ≡ w
  next_is = sym (ap (λ xs. kept ++ kept_behind before xs) (drop_more pairs i d h)) ∙ so_far

  -- so it is by whether a relation stands between its two
  test_is : (t : Bool) → stands_between before (get_or pairs i d) ≡ t
      → kept ++ cond t (kept_behind before (drop (i + 1) pairs)) (get_or pairs i d ∷ kept_behind (before ++ get_or pairs i d ∷ []) (drop (i + 1) pairs)) ≡ w
  test_is t between =
      sym (ap (λ t. kept ++ cond t (kept_behind before (drop (i + 1) pairs)) (get_or pairs i d ∷ kept_behind (before ++ get_or pairs i d ∷ []) (drop (i + 1) pairs))) between) ∙ next_is

  -- where one does, it is left out
  pub next_skipped : stands_between before (get_or pairs i d) ≡ true → kept ++ kept_behind before (drop (i + 1) pairs) ≡ w
  next_skipped between = test_is true between

  -- and else it is kept, and counts for those behind it
  pub next_kept : (new : Pairs) → stands_between before (get_or pairs i d) ≡ false → ((q : ℕ × ℕ) → has_pair new q ≡ (has_pair before q || same_pair q (get_or pairs i d)))
      → (kept ++ get_or pairs i d ∷ []) ++ kept_behind new (drop (i + 1) pairs) ≡ w
  next_kept new between more =
      ap (λ xs. (kept ++ get_or pairs i d ∷ []) ++ xs) (kept_same new (before ++ get_or pairs i d ∷ []) (drop (i + 1) pairs) (λ q. more q ∙ sym (last_pair before (get_or pairs i d) q)))
      ∙ (append_assoc kept (get_or pairs i d ∷ []) (kept_behind (before ++ get_or pairs i d ∷ []) (drop (i + 1) pairs)) ∙ test_is false between)
