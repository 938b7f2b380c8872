-- Texts in single quotes: what is read is spelled, and what is spelled is read.
use Rattle.std.proofs.Common.{◌≡◌, inl, inr, ℕ, true, false, cond, ◌==◌, List, [], ◌∷◌, ◌++◌, Some, refl, ap, ◌∙◌}
use Rattle.std.proofs.lemmas.Bool.{eqb-true, eqb-false, ne_eqb}
use Rattle.pp_syntax.specs.Tokens.{SqText, SqEscaped}
use Rattle.pp_syntax.specs.Scanning.{after_sq, after_sq_escape}
use Rattle.pp_syntax.proofs.Steps.{Takes}

-- what stands behind an opening quote, to the closing one
abbrev pub SqRest : List ℕ → Type 0
SqRest s = (raw : List ℕ) × (s ≡ raw ++ 39 ∷ []) × SqText raw

-- what stands behind a backslash in single quotes, to the closing one
abbrev EscapeRest : List ℕ → Type 0
EscapeRest s = (raw : List ℕ) × (s ≡ raw ++ 39 ∷ []) × SqEscaped raw

-- one more byte in front is taken with what is behind it
behind_byte : (b : ℕ) (text rest : List ℕ) → ((raw : List ℕ) → SqText raw → SqText (b ∷ raw)) → Takes SqRest text rest → Takes SqRest (b ∷ text) rest
behind_byte b text rest more t = record { front = b ∷ t.front; spelled = (b ∷ t.spelled.0, ap (λ u. b ∷ u) t.spelled.1, more t.spelled.0 t.spelled.2); whole = ap (λ u. b ∷ u) t.whole }

-- a backslash in front is taken with the byte that it escapes and what is behind that
behind_backslash : (b : ℕ) (text rest : List ℕ) → b ≡ 92 → Takes EscapeRest text rest → Takes SqRest (b ∷ text) rest
behind_backslash b text rest e t = record { front = b ∷ t.front; spelled = (b ∷ t.spelled.0, ap (λ u. b ∷ u) t.spelled.1, inr (e, t.spelled.2)); whole = ap (λ u. b ∷ u) t.whole }

mutual
  -- what is taken to a closing quote is the rest of a text in single quotes
  pub sq_takes : (text rest : List ℕ) → after_sq text ≡ Some rest → Takes SqRest text rest
  sq_takes [] rest h = cc
  sq_takes (b ∷ text) rest h = elim (b == 39) as (λ v. (b == 39) ≡ v → cond v (Some text) (cond (b == 92) (after_sq_escape text) (after_sq text)) ≡ Some rest → Takes SqRest (b ∷ text) rest) [
    | true ↦ λ e k. let same : text ≡ rest = cc in record { front = 39 ∷ []; spelled = ([], refl, tt); whole = ap (λ c. c ∷ text) (eqb-true b 39 e) ∙ ap (λ t. 39 ∷ t) same }
    | false ↦ λ e k. elim (b == 92) as (λ v. (b == 92) ≡ v → cond v (after_sq_escape text) (after_sq text) ≡ Some rest → Takes SqRest (b ∷ text) rest) [
      | true ↦ λ d l. behind_backslash b text rest (eqb-true b 92 d) (escape_takes text rest l)
      | false ↦ λ d l. behind_byte b text rest (λ raw more. inl (eqb-false b 39 e, eqb-false b 92 d, more)) (sq_takes text rest l)
    ] refl k
  ] refl h

  -- what is taken behind a backslash is such a rest
  escape_takes : (text rest : List ℕ) → after_sq_escape text ≡ Some rest → Takes EscapeRest text rest
  escape_takes [] rest h = cc
  escape_takes (c ∷ text) rest h = let t = sq_takes text rest h in record { front = c ∷ t.front; spelled = (c ∷ t.spelled.0, ap (λ u. c ∷ u) t.spelled.1, t.spelled.2); whole = ap (λ u. c ∷ u) t.whole }

mutual
  -- a text in single quotes is read to its closing quote
  pub sq_reads : (raw rest : List ℕ) → SqText raw → after_sq (raw ++ 39 ∷ rest) ≡ Some rest
  sq_reads [] rest h = refl
  sq_reads (b ∷ raw) rest (inl h) =
      ap (λ v. cond v (Some (raw ++ 39 ∷ rest)) (cond (b == 92) (after_sq_escape (raw ++ 39 ∷ rest)) (after_sq (raw ++ 39 ∷ rest)))) (ne_eqb b 39 h.0)
      ∙ ap (λ v. cond v (after_sq_escape (raw ++ 39 ∷ rest)) (after_sq (raw ++ 39 ∷ rest))) (ne_eqb b 92 h.1)
      ∙ sq_reads raw rest h.2
  sq_reads (b ∷ raw) rest (inr h) = ap (λ c. after_sq (c ∷ raw ++ 39 ∷ rest)) h.0 ∙ escape_reads raw rest h.1

  -- and so is what stands behind a backslash
  escape_reads : (raw rest : List ℕ) → SqEscaped raw → after_sq_escape (raw ++ 39 ∷ rest) ≡ Some rest
  escape_reads [] rest h = absurd h
  escape_reads (c ∷ raw) rest h = sq_reads raw rest h
