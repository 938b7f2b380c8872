-- How far an escape in double quotes goes.
use Rattle.std.proofs.Common.{◌≡◌, ◌≢◌, ◌⊎◌, inl, inr, ℕ, ◌+◌, ◌<◌, ◌≤◌, Bool, true, false, cond, ◌==◌, List, [], ◌∷◌, ◌++◌, length, Option, Some, None, refl, sym, ap, subst, ◌∙◌, arith, append_assoc, length-append}
use Rattle.std.specs.Prelude.{IfSome}
use Rattle.std.specs.Option.{option_map}
use Rattle.std.proofs.lemmas.Bool.{and_parts, eqb-true, eqb-false, ltb-true, leb-true}
use Rattle.pp_syntax.specs.Bytes.{is_hex}
use Rattle.pp_syntax.specs.Tokens.{Escape, simple, four, braced, NoEscape, is_simple_escape, is_scalar, hex_value}
use Rattle.pp_syntax.specs.Scanning.{after_all, begins_with, braced_by, braced_len, four_len, unicode_len, escape_len}
use Rattle.pp_syntax.proofs.Steps.{all_takes, front_is}
use Rattle.std.proofs.lemmas.Option.{cond_some}

-- the first n bytes of the text behind a backslash make an escape with it
pub record EscapeFound (text : List ℕ) (n : ℕ) : Type 0 where
  pub front : List ℕ
  pub rest : List ℕ
  pub is : Escape front
  pub whole : text ≡ front ++ rest
  pub size : length front ≡ n

-- a text that is told to begin with a byte does
pub begins_is : (c : ℕ) (text : List ℕ) → begins_with c text ≡ true → (tail : List ℕ) × (text ≡ c ∷ tail)
begins_is c [] h = cc
begins_is c (b ∷ text) h = (text, ap (λ d. d ∷ text) (eqb-true b c h))

-- an escape in braces has one digit to six, a `}` behind them, and they tell a character
braced_parts : (digits rest : List ℕ) (n : ℕ) → braced_by digits rest ≡ Some n → (0 < length digits) × (length digits ≤ 6) × (begins_with 125 rest ≡ true) × (is_scalar (hex_value digits) ≡ true) × (length digits + 1 ≡ n)
braced_parts digits rest n h =
    let all = cond_some _ (length digits + 1) n h in
    let a = and_parts _ _ all.0 in
    let b = and_parts _ _ a.0 in
    let d = and_parts _ _ b.0 in
    (ltb-true 0 (length digits) d.0, leb-true (length digits) 6 d.1, b.1, a.1, all.1)

-- what is counted behind `\u{` makes an escape
braced_found : (text : List ℕ) (n : ℕ) → braced_len text ≡ Some n → EscapeFound (117 ∷ 123 ∷ text) (n + 2)
unfolding braced_len
braced_found text n h =
    let digits = all_takes is_hex text in
    let same = front_is text digits.front (after_all is_hex text) digits.whole in
    let p = braced_parts digits.front (after_all is_hex text) n (subst (λ (d : List ℕ). braced_by d (after_all is_hex text) ≡ Some n) same h) in
    let tail = begins_is 125 (after_all is_hex text) p.2 in
    record {
      front = 117 ∷ 123 ∷ (digits.front ++ 125 ∷ []);
      rest = tail.0;
      is = braced digits.front refl (omega (arith, p.0)) p.1 digits.spelled p.3;
      whole = ap (λ t. 117 ∷ 123 ∷ t) (digits.whole ∙ ap (λ t. digits.front ++ t) tail.1 ∙ sym (append_assoc digits.front (125 ∷ []) tail.0));
      size = omega (arith, length-append digits.front (125 ∷ []), p.4);
    }

-- what is counted behind `\u` without braces makes an escape
four_found : (text : List ℕ) (n : ℕ) → four_len text ≡ Some n → EscapeFound (117 ∷ text) n
unfolding four_len
four_found [] n h = cc
four_found (a ∷ []) n h = cc
four_found (a ∷ b ∷ []) n h = cc
four_found (a ∷ b ∷ c ∷ []) n h = cc
four_found (a ∷ b ∷ c ∷ d ∷ text) n h =
    let all = cond_some _ 5 n h in
    let p = and_parts _ _ all.0 in
    let q = and_parts _ _ p.0 in
    let r = and_parts _ _ q.0 in
    let s = and_parts _ _ r.0 in
    record {
      front = 117 ∷ a ∷ b ∷ c ∷ d ∷ [];
      rest = text;
      is = four (a ∷ b ∷ c ∷ d ∷ []) refl refl (s.0, (s.1, (r.1, (q.1, tt)))) p.1;
      whole = refl;
      size = all.1;
    }

-- an image comes from a value
pub map_some : {A B : Type 0} (f : A → B) (r : Option A) (y : B) → option_map f r ≡ Some y → (x : A) × (r ≡ Some x) × (f x ≡ y)
map_some f None y h = cc
map_some f (Some x) y h = (x, refl, cc)

-- `\u{` is counted as an escape in braces
braced_case : (c : ℕ) (text : List ℕ) (n : ℕ) → c ≡ 123 → option_map (λ m. m + 2) (braced_len text) ≡ Some n → EscapeFound (117 ∷ c ∷ text) n
braced_case c text n e h =
    let a = map_some (λ m. m + 2) (braced_len text) n h in
    subst (λ b. EscapeFound (117 ∷ b ∷ text) n) (sym e) (subst (λ m. EscapeFound (117 ∷ 123 ∷ text) m) a.2 (braced_found text a.0 a.1))

-- what is counted behind `\u` makes an escape
unicode_found : (text : List ℕ) (n : ℕ) → unicode_len text ≡ Some n → EscapeFound (117 ∷ text) n
unicode_found [] n h = cc
unicode_found (c ∷ text) n h = elim (c == 123) as (λ v. (c == 123) ≡ v → cond v (option_map (λ m. m + 2) (braced_len text)) (four_len (c ∷ text)) ≡ Some n → EscapeFound (117 ∷ c ∷ text) n) [
  | true ↦ λ e k. braced_case c text n (eqb-true c 123 e) k
  | false ↦ λ e k. four_found (c ∷ text) n k
] refl h

-- An escape begins the text, or the backslash stands for itself.
abbrev pub AtBackslash : List ℕ → ℕ → Type 0
AtBackslash text n = EscapeFound text n ⊎ ((n ≡ 0) × NoEscape text)

-- one other byte behind a backslash makes an escape with it, or none does
simple_case : (c : ℕ) (text : List ℕ) (n : ℕ) (v : Bool) → c ≢ 117 → is_simple_escape c ≡ v → cond v (Some 1) (Some 0) ≡ Some n → AtBackslash (c ∷ text) n
simple_case c text n true other e h = inl (record { front = c ∷ []; rest = text; is = simple c refl e; whole = refl; size = cc })
simple_case c text n false other e h = inr (cc, (e, other))

-- what is counted behind a backslash makes an escape, or none begins there
pub escape_found : (text : List ℕ) (n : ℕ) → escape_len text ≡ Some n → AtBackslash text n
escape_found [] n h = inr (cc, tt)
escape_found (c ∷ text) n h = elim (c == 117) as (λ v. (c == 117) ≡ v → cond v (unicode_len text) (cond (is_simple_escape c) (Some 1) (Some 0)) ≡ Some n → AtBackslash (c ∷ text) n) [
  | true ↦ λ e k. inl (subst (λ b. EscapeFound (b ∷ text) n) (sym (eqb-true c 117 e)) (unicode_found text n k))
  | false ↦ λ e k. simple_case c text n (is_simple_escape c) (eqb-false c 117 e) refl k
] refl h

-- it isn't more than there is
at_backslash_short : (text : List ℕ) (n : ℕ) → AtBackslash text n → n ≤ length text
at_backslash_short text n (inl f) = omega (arith, f.size, ap length f.whole, length-append f.front f.rest)
at_backslash_short text n (inr e) = omega (arith, e.0)

-- what is counted behind a backslash isn't more than there is
pub escape_short : (text : List ℕ) → IfSome (escape_len text) (λ n. n ≤ length text)
escape_short text = elim (escape_len text) as (λ r. escape_len text ≡ r → IfSome r (λ n. n ≤ length text)) [
  | None ↦ λ e. tt
  | Some n ↦ λ e. at_backslash_short text n (escape_found text n e)
] refl
