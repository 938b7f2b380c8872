-- A text in single quotes is written with the fewest backslashes.
use Rattle.std.proofs.Common.{◌≡◌, ◌≢◌, inl, inr, ℕ, ◌+◌, ◌≤◌, Bool, true, false, cond, ◌||◌, ◌&&◌, ◌==◌, List, [], ◌∷◌, ◌++◌, length, refl, sym, ap, subst, ◌∙◌, arith}
use Rattle.std.proofs.lemmas.Bool.{or_cases, or_left, or_right, or_parts, and_parts, eqb-true, eqb-false, ne_eqb}
use Rattle.pp_syntax.specs.Tokens.{SqText}
use Rattle.pp_syntax.specs.TokenValues.{sq_value, sq_escaped, SqOf}
use Rattle.pp_print.specs.Words.{escapes, must_escape, escaped}

-- a backslash or a quote
abbrev pub special : ℕ → Bool
special b = (b == 92) || (b == 39)

-- what must be escaped is a backslash or a quote
pub must_special : (b : ℕ) (v : List ℕ) → must_escape b v ≡ true → special b ≡ true
must_special b v h = elim (or_cases (b == 39) ((b == 92) && escapes v) h) [
  | inl e ↦ or_right (b == 92) (b == 39) e
  | inr e ↦ or_left (b == 92) (b == 39) (and_parts (b == 92) (escapes v) e).0
]

-- and no other byte is one
no_special : (b : ℕ) → b ≢ 92 → b ≢ 39 → special b ≡ false
no_special b n m = ap (λ v. v || (b == 39)) (ne_eqb b 92 n) ∙ ne_eqb b 39 m

-- Nothing else is to be escaped.
plain_byte : (b : ℕ) (v : List ℕ) → b ≢ 92 → b ≢ 39 → must_escape b v ≡ false
plain_byte b v n m = ap (λ t. t || ((b == 92) && escapes v)) (ne_eqb b 39 m) ∙ ap (λ t. t && escapes v) (ne_eqb b 92 n)

-- what needn't be escaped is no quote
no_quote : (b : ℕ) (v : List ℕ) → must_escape b v ≡ false → b ≢ 39
no_quote b v h = eqb-false b 39 (or_parts (b == 39) ((b == 92) && escapes v) h).0

-- behind a backslash that needn't be escaped stands nothing to be escaped
no_escapes : (b : ℕ) (v : List ℕ) → b ≡ 92 → must_escape b v ≡ false → escapes v ≡ false
no_escapes b v e h = sym (ap (λ t. must_escape t v) e) ∙ h

-- what stands there begins with neither a backslash nor a quote
escapes_special : (c : ℕ) (v : List ℕ) → escapes (c ∷ v) ≡ false → (c ≢ 92) × (c ≢ 39)
escapes_special c v h =
    let neither = or_parts (c == 92) (c == 39) h in
    (eqb-false c 92 neither.0, eqb-false c 39 neither.1)

-- what a byte and the text behind it are written as
abbrev Reads : List ℕ → List ℕ → Type 0
Reads raw v = (sq_value raw ≡ v) × SqText raw

-- a backslash or a quote is written with a backslash before it
escaped_byte : (b : ℕ) (raw v : List ℕ) → special b ≡ true → Reads raw v → Reads (92 ∷ b ∷ raw) (b ∷ v)
escaped_byte b raw v h r = (ap (λ t. cond t (b ∷ sq_value raw) (92 ∷ b ∷ sq_value raw)) h ∙ ap (λ t. b ∷ t) r.0, inr (refl, r.1))

-- any other byte is written as it is
bare_byte : (b : ℕ) (raw v : List ℕ) → b ≢ 92 → b ≢ 39 → Reads raw v → Reads (b ∷ raw) (b ∷ v)
bare_byte b raw v n m r = (ap (λ t. cond t (sq_escaped raw) (b ∷ sq_value raw)) (ne_eqb b 92 n) ∙ ap (λ t. b ∷ t) r.0, inl (m, n, r.1))

-- a backslash before any other byte is written as it is
bare_backslash : (c : ℕ) (raw v : List ℕ) → c ≢ 92 → c ≢ 39 → Reads raw v → Reads (92 ∷ c ∷ raw) (92 ∷ c ∷ v)
bare_backslash c raw v n m r = (ap (λ t. cond t (c ∷ sq_value raw) (92 ∷ c ∷ sq_value raw)) (no_special c n m) ∙ ap (λ t. 92 ∷ c ∷ t) r.0, inr (refl, r.1))

-- an escaped text is read as the text
pub escaped_reads : (v : List ℕ) → Reads (escaped v) v
escaped_reads [] = (refl, tt)
escaped_reads (b ∷ []) = elim (must_escape b []) as (λ t. must_escape b [] ≡ t → Reads (cond t (92 ∷ b ∷ []) (b ∷ []) ++ []) (b ∷ [])) [
  | true ↦ λ e. escaped_byte b [] [] (must_special b [] e) (refl, tt)
  | false ↦ λ e. bare_byte b [] [] (λ is. absurd_empty b is e) (no_quote b [] e) (refl, tt)
] refl
  where
    absurd_empty : (b : ℕ) → b ≡ 92 → must_escape b [] ≡ false → ⊥
    absurd_empty b is e = let f = no_escapes b [] is e in cc
escaped_reads (b ∷ c ∷ v) = elim (must_escape b (c ∷ v)) as (λ t. must_escape b (c ∷ v) ≡ t → Reads (cond t (92 ∷ b ∷ []) (b ∷ []) ++ escaped (c ∷ v)) (b ∷ c ∷ v)) [
  | true ↦ λ e. escaped_byte b (escaped (c ∷ v)) (c ∷ v) (must_special b (c ∷ v) e) (escaped_reads (c ∷ v))
  | false ↦ λ e. elim (b == 92) as (λ t. (b == 92) ≡ t → Reads (b ∷ escaped (c ∷ v)) (b ∷ c ∷ v)) [
    | false ↦ λ f. bare_byte b (escaped (c ∷ v)) (c ∷ v) (eqb-false b 92 f) (no_quote b (c ∷ v) e) (escaped_reads (c ∷ v))
    | true ↦ λ f.
        let is = eqb-true b 92 f in
        let n = escapes_special c v (no_escapes b (c ∷ v) is e) in
        subst (λ x. Reads (x ∷ escaped (c ∷ v)) (x ∷ c ∷ v)) (sym is)
        (subst (λ t. Reads (92 ∷ (cond t (92 ∷ c ∷ []) (c ∷ []) ++ escaped v)) (92 ∷ c ∷ v)) (sym (plain_byte c v n.0 n.1)) (bare_backslash c (escaped v) v n.0 n.1 (escaped_reads v)))
  ] refl
] refl

-- in quotes it is a text in single quotes with this value
pub quoted_is : (v : List ℕ) → SqOf v (39 ∷ (escaped v ++ 39 ∷ []))
quoted_is v = (escaped v, refl, sym (escaped_reads v).0)

-- ---- the fewest

-- a byte is written as two at most
short_byte : (b : ℕ) (v : List ℕ) → length (escaped (b ∷ v)) ≤ length (escaped v) + 2
short_byte b v = elim (must_escape b v) as (λ t. length (cond t (92 ∷ b ∷ []) (b ∷ []) ++ escaped v) ≤ length (escaped v) + 2) [ true ↦ omega arith | false ↦ omega arith ]

-- one that needn't be escaped is written as one
plain_short : (b : ℕ) (v : List ℕ) → must_escape b v ≡ false → length (escaped (b ∷ v)) ≡ length (escaped v) + 1
plain_short b v h = ap (λ t. length (cond t (92 ∷ b ∷ []) (b ∷ []) ++ escaped v)) h ∙ omega arith

-- no other way to write a text in single quotes is shorter
pub fewest : (raw : List ℕ) → SqText raw → length (escaped (sq_value raw)) ≤ length raw
fewest [] h = omega arith
fewest (b ∷ raw) (inl h) = subst (λ (v : List ℕ). length (escaped v) ≤ length (b ∷ raw)) (sym (ap (λ t. cond t (sq_escaped raw) (b ∷ sq_value raw)) (ne_eqb b 92 h.1)))
    (omega (arith, plain_short b (sq_value raw) (plain_byte b (sq_value raw) h.1 h.0), fewest raw h.2))
fewest (b ∷ []) (inr h) = absurd h.1
fewest (b ∷ c ∷ raw) (inr h) = subst (λ x. length (escaped (cond (x == 92) (sq_escaped (c ∷ raw)) (x ∷ sq_value (c ∷ raw)))) ≤ length (x ∷ c ∷ raw)) (sym h.0) (elim (special c) as (λ t. special c ≡ t → length (escaped (cond t (c ∷ sq_value raw) (92 ∷ c ∷ sq_value raw))) ≤ length (92 ∷ c ∷ raw)) [
  | true ↦ λ e. omega (arith, short_byte c (sq_value raw), fewest raw h.1)
  | false ↦ λ e. two c e (fewest raw h.1)
] refl)
  where
    two : (c : ℕ) → special c ≡ false → length (escaped (sq_value raw)) ≤ length raw → length (escaped (92 ∷ c ∷ sq_value raw)) ≤ length (92 ∷ c ∷ raw)
    two c e less =
        let n = escapes_special c (sq_value raw) e in
        omega (arith, plain_short 92 (c ∷ sq_value raw) e, plain_short c (sq_value raw) (plain_byte c (sq_value raw) n.0 n.1), less)
