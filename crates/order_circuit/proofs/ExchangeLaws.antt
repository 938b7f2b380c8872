-- An exchange made by holding one node back.
use Rattle.std.proofs.Common.{◌≡◌, ℕ, suc, ◌+◌, ◌-◌, ◌<◌, ◌≤◌, ◌==◌, true, false, cond, List, [], ◌∷◌, refl, sym, ap, ◌∙◌, arith, eqb-true, nat_lt, ltb-true}
use Rattle.std.proofs.lemmas.Bool.{eqb-false, ltb-false, lt-ltb, le-ltb}
use Rattle.order_places.specs.Places.{exchanged}
use Rattle.order_places.proofs.Exchanging.{skip}

-- what is left of the exchange at place j from place k on
abbrev pub exchanged_from : ℕ → ℕ → List ℕ → List ℕ
exchanged_from k j xs = cond (nat_lt j k) xs (exchanged (j - k) xs)

-- one place more: the held one or the next comes, the other is held
pub exchange_step : (k j held next : ℕ) (rest : List ℕ) → exchanged_from k j (held ∷ next ∷ rest) ≡ cond (k == j) next held ∷ exchanged_from (k + 1) j (cond (k == j) held next ∷ rest)
exchange_step k j held next rest = elim (nat_lt j k) as (λ b. nat_lt j k ≡ b → cond b (held ∷ next ∷ rest) (exchanged (j - k) (held ∷ next ∷ rest)) ≡ cond (k == j) next held ∷ exchanged_from (k + 1) j (cond (k == j) held next ∷ rest)) [
  | true ↦ λ e. let low = ltb-true j k e in
      sym ((λ i. cond (other k j (λ s. absurd (omega (arith, low, s))) i) next held ∷ cond (lt-ltb j (k + 1) (omega (arith, low)) i) (cond (other k j (λ s. absurd (omega (arith, low, s))) i) held next ∷ rest) (exchanged (j - (k + 1)) (cond (k == j) held next ∷ rest))))
  | false ↦ λ e. let high = ltb-false j k e in elim (k == j) as (λ b. (k == j) ≡ b → exchanged (j - k) (held ∷ next ∷ rest) ≡ cond b next held ∷ exchanged_from (k + 1) j (cond b held next ∷ rest)) [
    | true ↦ λ s. let same = eqb-true k j s in
        let none_left : j - k ≡ 0 = omega (arith, same) in
        ap (λ m. exchanged m (held ∷ next ∷ rest)) none_left ∙ sym (ap (λ b. next ∷ cond b (held ∷ rest) (exchanged (j - (k + 1)) (held ∷ rest))) (lt-ltb j (k + 1) (omega (arith, same))))
    | false ↦ λ s. let apart = eqb-false k j s in
        let more : k < j = above high apart in
        let one_less : j - k ≡ suc (j - (k + 1)) = omega (arith, more) in
        ap (λ m. exchanged m (held ∷ next ∷ rest)) one_less ∙ skip (j - (k + 1)) held (next ∷ rest) ∙ sym (ap (λ b. held ∷ cond b (next ∷ rest) (exchanged (j - (k + 1)) (next ∷ rest))) (le-ltb j (k + 1) (omega (arith, more))))
  ] refl
] refl
  where
    other : (a b : ℕ) → (a ≡ b → ⊥) → (a == b) ≡ false
    other a b h = elim (a == b) as (λ c. (a == b) ≡ c → c ≡ false) [ true ↦ λ s. absurd (h (eqb-true a b s)) | false ↦ λ s. refl ] refl

    above : k ≤ j → (k ≡ j → ⊥) → k < j
    above h f = elim (nat_lt k j) as (λ c. nat_lt k j ≡ c → k < j) [
      | true ↦ λ l. ltb-true k j l
      | false ↦ λ l. let past = ltb-false k j l in absurd (f (omega (arith, h, past)))
    ] refl

-- from the start on all of the exchange is left
pub exchange_start : (j : ℕ) (xs : List ℕ) → exchanged_from 0 j xs ≡ exchanged j xs
exchange_start j xs = let whole : j - 0 ≡ j = omega arith in ap (λ b. cond b xs (exchanged (j - 0) xs)) (le-ltb j 0 (omega arith)) ∙ ap (λ m. exchanged m xs) whole
