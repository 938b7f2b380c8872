-- Where a long text is cut.
use Rattle.std.proofs.Common.{◌≡◌, ◌⊎◌, inl, inr, ℕ, zero, suc, ◌<◌, ◌≤◌, Bool, true, false, not, cond, ◌&&◌, List, length, refl, sym, ap, subst, ◌∙◌, arith, nat_lt, ltb-true}
use Rattle.std.proofs.lemmas.Bool.{ltb-false, lt-ltb}
use Rattle.std.specs.Prelude.{slice_index}
use Rattle.std.specs.Str.{IsCharBoundary}
use Rattle.explained_text.specs.Words.{goes_on, cut_at}

-- a byte with which no character begins, by its bounds
record GoesOn (b : ℕ) : Type 0 where
  above : 128 ≤ b
  below : b < 192

-- a byte that passes both tests is within these bounds
on_parts : (b : ℕ) (x y : Bool) → nat_lt b 128 ≡ x → nat_lt b 192 ≡ y → (not x && y) ≡ true → GoesOn b
on_parts b true true h k e = cc
on_parts b true false h k e = cc
on_parts b false true h k e = record { above = ltb-false b 128 h; below = ltb-true b 192 k }
on_parts b false false h k e = cc

-- a byte that is told to go on does so
goes : (b : ℕ) → goes_on b ≡ true → GoesOn b
goes b e = on_parts b (nat_lt b 128) (nat_lt b 192) refl refl e

-- a byte past ASCII that doesn't pass both tests is at least 192
off_parts : (b : ℕ) (x y : Bool) → nat_lt b 128 ≡ x → nat_lt b 192 ≡ y → (not x && y) ≡ false → 128 ≤ b → 192 ≤ b
off_parts b true y h k e l = let low = ltb-true b 128 h in absurd (omega (arith, low, l))
off_parts b false true h k e l = cc
off_parts b false false h k e l = ltb-false b 192 k

-- a byte past ASCII that isn't told to go on is at least 192
stops : (b : ℕ) → goes_on b ≡ false → 128 ≤ b → 192 ≤ b
stops b e l = off_parts b (nat_lt b 128) (nat_lt b 192) refl refl e l

-- of two numbers one is less, or the other is at most that one
either : (x y : ℕ) → (x < y) ⊎ (y ≤ x)
either x zero = inr (omega arith)
either zero (suc y) = inl (omega arith)
either (suc x) (suc y) = elim (either x y) [ inl a ↦ inl (omega (arith, a)) | inr a ↦ inr (omega (arith, a)) ]

-- the last place at which a character begins
pub cut_is : (text : List ℕ) (k n : ℕ) → IsCharBoundary text n → n ≤ k → ((i : ℕ) → n < i → i ≤ k → IsCharBoundary text i → ⊥) → k < length text → cut_at text k ≡ n
unfolding cut_at
cut_is text zero n b h none l = omega (arith, h)
cut_is text (suc k) n b h none l = elim (goes_on (slice_index text (suc k))) as (λ c. goes_on (slice_index text (suc k)) ≡ c → cond c (cut_at text k) (suc k) ≡ n) [
  | true ↦ λ e.
      let on = goes (slice_index text (suc k)) e in
      cut_is text k n b (lower on) (λ i x y. none i x (omega (arith, y))) (omega (arith, l))
  | false ↦ λ e. last (stops (slice_index text (suc k)) e)
] refl
  where
    lower : GoesOn (slice_index text (suc k)) → n ≤ k
    lower on = elim (either k n) [
      | inr less ↦ less
      | inl more ↦
          let same : n ≡ suc k = omega (arith, h, more) in
          let byte : 128 ≤ slice_index text n = subst (λ m. 128 ≤ slice_index text m) (sym same) on.above in
          let big = b.1 (omega (arith, same, l)) byte in
          let small : slice_index text n < 192 = subst (λ m. slice_index text m < 192) (sym same) on.below in
          absurd (omega (arith, big, small))
    ]

    last : (128 ≤ slice_index text (suc k) → 192 ≤ slice_index text (suc k)) → suc k ≡ n
    last free = elim (either n (suc k)) [
      | inl less ↦ absurd (none (suc k) less (omega arith) (omega (arith, l), (λ x. free)))
      | inr more ↦ omega (arith, h, more)
    ]
