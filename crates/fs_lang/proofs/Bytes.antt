-- The bytes of a text.
use Rattle.std.proofs.Common.{◌≡◌, ℕ, ◌+◌, ◌/◌, ◌%◌, ◌<◌, true, false, cond, inl, inr, List, [], ◌∷◌, ◌++◌, refl, subst, arith, nat_lt, ltb-true}
use lib.Utf8.{scalar, scalars, encode, encodes, scalar_cases}
use Rattle.std.specs.Str.{IsUtf8}
use Rattle.fs_semantics.specs.FileTree.{IsBytes}
use Rattle.std.proofs.lemmas.Bool.{and_parts}

-- two texts of bytes make a text of bytes
all_append : (xs ys : List ℕ) → IsBytes xs → IsBytes ys → IsBytes (xs ++ ys)
all_append [] ys h k = k
all_append (x ∷ xs) ys h k = (h.0, all_append xs ys h.1 k)

-- a Unicode scalar is below the end of Unicode
below : (c : ℕ) → scalar c ≡ true → c < 1114112
below c h = elim (scalar_cases c h) [ inl low ↦ omega (arith, low) | inr high ↦ high.1 ]

-- the UTF-8 of a code point is of bytes
encode_bytes : (c : ℕ) → c < 1114112 → IsBytes (encode c)
unfolding encode
encode_bytes c h = elim (nat_lt c 128) as (λ v. nat_lt c 128 ≡ v → IsBytes (cond v (c ∷ []) (cond (nat_lt c 2048) ((192 + c / 64) ∷ (128 + c % 64) ∷ []) (cond (nat_lt c 65536) ((224 + c / 4096) ∷ (128 + c / 64 % 64) ∷ (128 + c % 64) ∷ []) ((240 + c / 262144) ∷ (128 + c / 4096 % 64) ∷ (128 + c / 64 % 64) ∷ (128 + c % 64) ∷ []))))) [
  | true ↦ λ e. let low = ltb-true c 128 e in (omega arith, tt)
  | false ↦ λ e. elim (nat_lt c 2048) as (λ v. nat_lt c 2048 ≡ v → IsBytes (cond v ((192 + c / 64) ∷ (128 + c % 64) ∷ []) (cond (nat_lt c 65536) ((224 + c / 4096) ∷ (128 + c / 64 % 64) ∷ (128 + c % 64) ∷ []) ((240 + c / 262144) ∷ (128 + c / 4096 % 64) ∷ (128 + c / 64 % 64) ∷ (128 + c % 64) ∷ [])))) [
    | true ↦ λ d. let low = ltb-true c 2048 d in (omega arith, (omega arith, tt))
    | false ↦ λ d. elim (nat_lt c 65536) as (λ v. nat_lt c 65536 ≡ v → IsBytes (cond v ((224 + c / 4096) ∷ (128 + c / 64 % 64) ∷ (128 + c % 64) ∷ []) ((240 + c / 262144) ∷ (128 + c / 4096 % 64) ∷ (128 + c / 64 % 64) ∷ (128 + c % 64) ∷ []))) [
      | true ↦ λ k. let low = ltb-true c 65536 k in (omega arith, (omega arith, (omega arith, tt)))
      | false ↦ λ k. (omega arith, (omega arith, (omega arith, (omega arith, tt))))
    ] refl
  ] refl
] refl

-- and so is that of several scalars
encodes_bytes : (cs : List ℕ) → scalars cs ≡ true → IsBytes (encodes cs)
encodes_bytes [] h = tt
encodes_bytes (c ∷ cs) h = let two = and_parts (scalar c) (scalars cs) h in all_append (encode c) (encodes cs) (encode_bytes c (below c two.0)) (encodes_bytes cs two.1)

-- a text in UTF-8 is of bytes
pub utf8_bytes : (text : List ℕ) → IsUtf8 text → IsBytes text
utf8_bytes text h = subst IsBytes h.1.1 (encodes_bytes h.0 h.1.0)
