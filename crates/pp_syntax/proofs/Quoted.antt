-- Text in double quotes: what is read is spelled, and what is spelled is read, or more.
use Rattle.std.proofs.Common.{◌≡◌, ◌≢◌, ◌⊎◌, inl, inr, ℕ, zero, suc, ◌+◌, ◌≤◌, Bool, true, false, cond, ◌==◌, List, [], ◌∷◌, ◌++◌, length, drop, Some, None, refl, sym, ap, subst, ◌∙◌, arith, append_assoc, length-append}
use Rattle.std.specs.Prelude.{is_some}
use Rattle.std.specs.Option.{option_map}
use Rattle.std.proofs.lemmas.Bool.{and_from, or_cases, or_right, eqb-true, eqb-false, eq-eqb, ne_eqb, both_ways, lt-ltb, le-leb}
use Rattle.std.proofs.Math.Seq.{drop-append_seam}
use Rattle.pp_syntax.specs.declared.lexer.bytes.Style.TheVariants as style
use Rattle.pp_syntax.specs.Bytes.{is_hex}
use Rattle.pp_syntax.specs.Tokens.{Of, Opens, Escape, simple, four, braced, NoEscape, is_simple_escape, is_scalar, hex_value, DqPiece, nothing, plain, dollar, escape, backslash}
use Rattle.pp_syntax.specs.Scanning.{name, after_all, begins_with, front_of, braced_by, braced_len, four_len, unicode_len, escape_len, opens, unit_len, past_unit, text_from}
use Rattle.pp_syntax.proofs.Steps.{all_append, front_is}
use Rattle.pp_syntax.proofs.Names.{name_takes, name_reaches}
use Rattle.pp_syntax.proofs.Escapes.{EscapeFound, escape_found, begins_is}
use Rattle.pp_syntax.proofs.Fronts.{skip}

-- ---- what a `$` opens

-- where the test passes, a `$` makes a variable or opens an expression
opens_is : (text : List ℕ) → opens text ≡ true → Opens text
unfolding opens
opens_is text h = elim (or_cases (begins_with 123 text) (is_some (name style.Var text)) h) [
  | inl e ↦ inl (begins_is 123 text e)
  | inr e ↦ elim (name style.Var text) as (λ r. name style.Var text ≡ r → is_some r ≡ true → Opens text) [
    | None ↦ λ f g. cc
    | Some rest ↦ λ f g. let t = name_takes style.Var text rest f in inr (t.front, rest, t.spelled, t.whole)
  ] refl e
]

-- and where it does, the test passes
opens_test : (text : List ℕ) → Opens text → opens text ≡ true
unfolding opens
opens_test text (inl h) = ap opens h.1
opens_test text (inr h) =
    let g = name_reaches style.Var h.0 h.1 h.2 in
    or_right (begins_with 123 text) (is_some (name style.Var text)) (ap (λ r. is_some r) (ap (name style.Var) h.3 ∙ g.1))

-- where a `$` makes nothing, the test fails
opens_not : (text : List ℕ) → ¬ (Opens text) → opens text ≡ false
opens_not text n = elim (opens text) as (λ v. opens text ≡ v → v ≡ false) [ true ↦ λ e. absurd (n (opens_is text e)) | false ↦ λ e. refl ] refl

-- and where the test fails, it makes nothing
opens_none : (text : List ℕ) → opens text ≡ false → ¬ (Opens text)
opens_none text e h = both_ways (opens text) e (opens_test text h)

-- ---- text

-- a piece of text before what is left
abbrev pub Piece : List ℕ → List ℕ → Type 0
Piece text rest = (front : List ℕ) × DqPiece front rest × (text ≡ front ++ rest)

-- a backslash, what belongs to its escape, and a piece of text are a piece of text
escaped_piece : (text : List ℕ) (n : ℕ) (rest : List ℕ) → EscapeFound text n ⊎ ((n ≡ 0) × NoEscape text) → Piece (drop n text) rest → Piece (92 ∷ text) rest
escaped_piece text n rest (inl f) more =
    let behind : drop n text ≡ f.rest = ap (λ m. drop m text) (sym f.size) ∙ ap (drop (length f.front)) f.whole ∙ drop-append_seam f.front f.rest in
    (92 ∷ (f.front ++ more.0), escape f.front more.0 refl f.is more.1, ap (λ t. 92 ∷ t) (f.whole ∙ ap (λ t. f.front ++ t) (sym behind ∙ more.2) ∙ sym (append_assoc f.front more.0 rest)))
escaped_piece text n rest (inr e) more =
    let same : text ≡ more.0 ++ rest = ap (λ m. drop m text) (sym e.0) ∙ more.2 in
    (92 ∷ more.0, backslash more.0 refl (subst (λ (t : List ℕ). NoEscape t) same e.1) more.1, ap (λ t. 92 ∷ t) same)

-- so are a `$` that makes nothing and a piece of text
dollar_piece : (b : ℕ) (text : List ℕ) (n : ℕ) (rest : List ℕ) (v : Bool) → b ≡ 36 → opens text ≡ v → cond v None (Some 0) ≡ Some n → Piece (drop n text) rest → Piece (b ∷ text) rest
dollar_piece b text n rest true e o h more = cc
dollar_piece b text n rest false e o h more =
    let zero_is : n ≡ 0 = cc in
    let same : text ≡ more.0 ++ rest = ap (λ m. drop m text) (sym zero_is) ∙ more.2 in
    (36 ∷ more.0, dollar more.0 refl (subst (λ (t : List ℕ). ¬ (Opens t)) same (opens_none text o)) more.1, ap (λ c. c ∷ text) e ∙ ap (λ t. 36 ∷ t) same)

-- so are a plain byte and a piece of text
plain_piece : (b : ℕ) (text : List ℕ) (n : ℕ) (rest : List ℕ) → b ≢ 34 → b ≢ 36 → b ≢ 92 → n ≡ 0 → Piece (drop n text) rest → Piece (b ∷ text) rest
plain_piece b text n rest p q r e more = (b ∷ more.0, plain b more.0 refl p q r more.1, ap (λ t. b ∷ t) (ap (λ m. drop m text) (sym e) ∙ more.2))

-- so are a byte with what belongs to its escape and a piece of text
unit_piece : (b : ℕ) (text : List ℕ) (n : ℕ) (rest : List ℕ) → unit_len b text ≡ Some n → Piece (drop n text) rest → Piece (b ∷ text) rest
unfolding unit_len
unit_piece b text n rest h more = elim (b == 34) as (λ v. (b == 34) ≡ v → cond v None (cond (b == 36) (cond (opens text) None (Some 0)) (cond (b == 92) (escape_len text) (Some 0))) ≡ Some n → Piece (b ∷ text) rest) [
  | true ↦ λ e k. cc
  | false ↦ λ e k. elim (b == 36) as (λ v. (b == 36) ≡ v → cond v (cond (opens text) None (Some 0)) (cond (b == 92) (escape_len text) (Some 0)) ≡ Some n → Piece (b ∷ text) rest) [
    | true ↦ λ f l. dollar_piece b text n rest (opens text) (eqb-true b 36 f) refl l more
    | false ↦ λ f l. elim (b == 92) as (λ v. (b == 92) ≡ v → cond v (escape_len text) (Some 0) ≡ Some n → Piece (b ∷ text) rest) [
      | true ↦ λ g m. subst (λ c. Piece (c ∷ text) rest) (sym (eqb-true b 92 g)) (escaped_piece text n rest (escape_found text n m) more)
      | false ↦ λ g m. plain_piece b text n rest (eqb-false b 34 e) (eqb-false b 36 f) (eqb-false b 92 g) (cc) more
    ] refl l
  ] refl k
] refl h

-- what is taken as text in double quotes is a piece of text
pub text_takes : (n : ℕ) (text : List ℕ) → Piece (drop n text) (text_from n text)
text_takes zero [] = ([], nothing refl, refl)
text_takes (suc n) [] = ([], nothing refl, refl)
text_takes (suc n) (b ∷ text) = text_takes n text
text_takes zero (b ∷ text) = elim (unit_len b text) as (λ r. unit_len b text ≡ r → Piece (b ∷ text) (past_unit (λ n. text_from n text) (b ∷ text) r)) [
  | None ↦ λ e. ([], nothing refl, refl)
  | Some n ↦ λ e. unit_piece b text n (text_from n text) e (text_takes n text)
] refl

-- ---- and again

-- an escape in braces is counted whole
braced_reads : (digits r : List ℕ) → 1 ≤ length digits → length digits ≤ 6 → Of is_hex digits → is_scalar (hex_value digits) ≡ true → braced_len (digits ++ 125 ∷ r) ≡ Some (length digits + 1)
unfolding braced_len
braced_reads digits r least most hex scalar =
    let behind : after_all is_hex (digits ++ 125 ∷ r) ≡ 125 ∷ r = all_append is_hex digits (125 ∷ r) hex in
    let front : front_of (digits ++ 125 ∷ r) (125 ∷ r) ≡ digits = front_is (digits ++ 125 ∷ r) digits (125 ∷ r) refl in
    let a = lt-ltb 0 (length digits) least in
    let b = le-leb (length digits) 6 most in
    ap (λ t. braced_by (front_of (digits ++ 125 ∷ r) t) t) behind ∙ ap (λ d. braced_by d (125 ∷ r)) front
    ∙ ap (λ v. cond v (Some (length digits + 1)) None) (and_from _ _ (and_from _ _ (and_from _ _ a b) (eq-eqb 125 125 refl)) scalar)

-- an escape of four digits is counted whole
four_reads : (digits r : List ℕ) → length digits ≡ 4 → Of is_hex digits → is_scalar (hex_value digits) ≡ true → unicode_len (digits ++ r) ≡ Some 5
unfolding four_len
four_reads [] r size hex scalar = absurd (omega arith)
four_reads (a ∷ []) r size hex scalar = absurd (omega arith)
four_reads (a ∷ b ∷ []) r size hex scalar = absurd (omega arith)
four_reads (a ∷ b ∷ c ∷ []) r size hex scalar = absurd (omega arith)
four_reads (a ∷ b ∷ c ∷ d ∷ []) r size hex scalar =
    ap (λ v. cond v (option_map (λ m. m + 2) (braced_len (b ∷ c ∷ d ∷ r))) (four_len (a ∷ b ∷ c ∷ d ∷ r))) (ne_eqb a 123 (λ e. both_ways (is_hex a) (ap is_hex e) hex.0))
    ∙ ap (λ v. cond v (Some 5) None) (and_from _ _ (and_from _ _ (and_from _ _ (and_from _ _ hex.0 hex.1.0) hex.1.1.0) hex.1.1.1.0) scalar)
four_reads (a ∷ b ∷ c ∷ d ∷ e ∷ s) r size hex scalar = absurd (omega arith)

-- an escape is counted whole
escape_reads : (front r : List ℕ) → Escape front → escape_len (front ++ r) ≡ Some (length front)
escape_reads front r (simple c e h) =
    ap (λ t. escape_len (t ++ r)) e
    ∙ ap (λ v. cond v (unicode_len r) (cond (is_simple_escape c) (Some 1) (Some 0))) (ne_eqb c 117 (λ f. both_ways (is_simple_escape c) (ap is_simple_escape f) h))
    ∙ ap (λ v. cond v (Some 1) (Some 0)) h ∙ ap (λ t. Some (length t)) (sym e)
escape_reads front r (four digits e size hex scalar) =
    ap (λ t. escape_len (t ++ r)) e ∙ four_reads digits r size hex scalar ∙ ap Some (omega (arith, size, ap length e))
escape_reads front r (braced digits e least most hex scalar) =
    ap (λ t. escape_len (t ++ r)) e ∙ ap (λ t. option_map (λ m. m + 2) (braced_len t)) (append_assoc digits (125 ∷ []) r)
    ∙ ap (option_map (λ m. m + 2)) (braced_reads digits r least most hex scalar) ∙ ap Some (omega (arith, ap length e, length-append digits (125 ∷ [])))

-- where no escape begins, nothing is counted
no_escape_reads : (text : List ℕ) → NoEscape text → escape_len text ≡ Some 0
no_escape_reads [] h = refl
no_escape_reads (c ∷ text) h =
    ap (λ v. cond v (unicode_len text) (cond (is_simple_escape c) (Some 1) (Some 0))) (ne_eqb c 117 h.1) ∙ ap (λ v. cond v (Some 1) (Some 0)) h.0

-- nothing belongs to a plain byte
plain_unit : (b : ℕ) (text : List ℕ) → b ≢ 34 → b ≢ 36 → b ≢ 92 → unit_len b text ≡ Some 0
unfolding unit_len
plain_unit b text p q r = rw (ne_eqb b 34 p, ne_eqb b 36 q, ne_eqb b 92 r)

-- nothing belongs to a `$` that makes nothing
dollar_unit : (text : List ℕ) → ¬ (Opens text) → unit_len 36 text ≡ Some 0
unfolding unit_len
dollar_unit text n = ap (λ v. cond v None (Some 0)) (opens_not text n)

-- what belongs to a backslash is its escape
backslash_unit : (text : List ℕ) → unit_len 92 text ≡ escape_len text
unfolding unit_len
backslash_unit text = refl

-- text goes past a byte and what belongs to its escape
one_unit : (b n : ℕ) (text : List ℕ) → unit_len b text ≡ Some n → text_from 0 (b ∷ text) ≡ text_from 0 (drop n text)
one_unit b n text h = ap (past_unit (λ n. text_from n text) (b ∷ text)) h ∙ skip n text

-- a piece of text is passed
pub piece_reads : (s r : List ℕ) → DqPiece s r → text_from 0 (s ++ r) ≡ text_from 0 r
piece_reads s r (nothing e) = ap (λ t. text_from 0 (t ++ r)) e
piece_reads s r (plain b more e p q n h) = ap (λ t. text_from 0 (t ++ r)) e ∙ one_unit b 0 (more ++ r) (plain_unit b (more ++ r) p q n) ∙ piece_reads more r h
piece_reads s r (dollar more e n h) = ap (λ t. text_from 0 (t ++ r)) e ∙ one_unit 36 0 (more ++ r) (dollar_unit (more ++ r) n) ∙ piece_reads more r h
piece_reads s r (escape front more e is h) =
    ap (λ t. text_from 0 (t ++ r)) e ∙ ap (λ t. text_from 0 (92 ∷ t)) (append_assoc front more r)
    ∙ one_unit 92 (length front) (front ++ (more ++ r)) (backslash_unit (front ++ (more ++ r)) ∙ escape_reads front (more ++ r) is)
    ∙ ap (text_from 0) (drop-append_seam front (more ++ r)) ∙ piece_reads more r h
piece_reads s r (backslash more e n h) = ap (λ t. text_from 0 (t ++ r)) e ∙ one_unit 92 0 (more ++ r) (backslash_unit (more ++ r) ∙ no_escape_reads (more ++ r) n) ∙ piece_reads more r h
