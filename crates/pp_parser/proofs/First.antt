-- The first token that passes a test, found from left to right.
use Rattle.std.proofs.Common.{◌≡◌, inl, inr, ◌<◌, Bool, true, false, cond, List, [], ◌∷◌, ◌++◌, length, Option, Some, None, refl, sym, ap, subst, ◌∙◌, arith, append_assoc, length-append}
use Rattle.std.proofs.lemmas.Bool.{both_ways, cases_lt}
use Rattle.pp_syntax.specs.Tokens.{Lexeme}
use Rattle.pp_syntax.specs.LeftOut.{IsFirst, IsNowhere}
use Rattle.pp_parser.specs.Scanning.{first_where}

-- what is known behind these tokens
abbrev pub folded : {S : Type 0} → (S → Lexeme → S) → S → List Lexeme → S
folded step s [] = s
folded step s (t ∷ tokens) = folded step (step s t) tokens

-- behind one more token it is what one step makes of it
pub folded-append : {S : Type 0} (step : S → Lexeme → S) (s : S) (before : List Lexeme) (t : Lexeme) → folded step s (before ++ t ∷ []) ≡ step (folded step s before) t
folded-append step s [] t = refl
folded-append step s (u ∷ before) t = folded-append step (step s u) before t

-- lists that are parted at the same place
same_parts : (b c : List Lexeme) (t u : Lexeme) (x y : List Lexeme) → b ++ t ∷ x ≡ c ++ u ∷ y → length b ≡ length c → (b ≡ c) × (t ≡ u) × (x ≡ y)
same_parts [] [] t u x y e n = (refl, cc, cc)
same_parts [] (d ∷ c) t u x y e n = absurd (omega arith)
same_parts (d ∷ b) [] t u x y e n = absurd (omega arith)
same_parts (d ∷ b) (f ∷ c) t u x y e n =
    let head : d ≡ f = cc in
    let tail : b ++ t ∷ x ≡ c ++ u ∷ y = cc in
    let r = same_parts b c t u x y tail (omega arith) in
    (ap (λ (l : List Lexeme). d ∷ l) r.0 ∙ ap (λ (h : Lexeme). h ∷ c) head, r.1, r.2)

-- None stands before these tokens.
abbrev NoneBefore : (List Lexeme → Lexeme → List Lexeme → Type 0) → List Lexeme → List Lexeme → Type 0
NoneBefore P all before = (b : List Lexeme) (u : Lexeme) (c : List Lexeme) → all ≡ b ++ u ∷ c → length b < length before → P b u c → ⊥

module _ {S : Type 0} (step : S → Lexeme → S) (test : S → Lexeme → List Lexeme → Bool) (s : S) (P : List Lexeme → Lexeme → List Lexeme → Type 0)
    (tells : (before : List Lexeme) (t : Lexeme) (behind : List Lexeme) → test (folded step s before) t behind ≡ true → P before t behind)
    (told_by : (before : List Lexeme) (t : Lexeme) (behind : List Lexeme) → P before t behind → test (folded step s before) t behind ≡ true) where
  -- where one more token fails the test, none stands before that and it
  none_yet : (all before : List Lexeme) (t : Lexeme) (tokens : List Lexeme) → all ≡ before ++ t ∷ tokens → test (folded step s before) t tokens ≡ false → NoneBefore P all before → NoneBefore P all (before ++ t ∷ [])
  none_yet all before t tokens e fails none b u c f short p = elim (cases_lt (length b) (length before)) [
    | inl below ↦ none b u c f below p
    | inr above ↦
        let same = same_parts before b t u tokens c (sym e ∙ f) (omega (arith, length-append before (t ∷ []))) in
        both_ways (test (folded step s b) u c) (ap (λ (l : List Lexeme). test (folded step s l) u c) (sym same.0) ∙ ap (λ (x : Lexeme). test (folded step s before) x c) (sym same.1) ∙ ap (test (folded step s before) t) (sym same.2) ∙ fails) (told_by b u c p)
  ]

  -- what is found
  pub found : (all before tokens : List Lexeme) (x : Lexeme) → all ≡ before ++ tokens → NoneBefore P all before → first_where step test (folded step s before) tokens ≡ Some x → IsFirst P all x
  found all before [] x e none h = cc
  found all before (t ∷ tokens) x e none h = elim (test (folded step s before) t tokens) as (λ v. test (folded step s before) t tokens ≡ v → cond v (Some t) (first_where step test (step (folded step s before) t) tokens) ≡ Some x → IsFirst P all x) [
    | true ↦ λ f k. subst (λ (y : Lexeme). IsFirst P all y) (some_same t x k) (record { front = before; back = tokens; whole = e; here = tells before t tokens f; first = none })
    | false ↦ λ f k. found all (before ++ t ∷ []) tokens x (e ∙ sym (append_assoc before (t ∷ []) tokens)) (none_yet all before t tokens e f none)
        (ap (λ (r : S). first_where step test r tokens) (folded-append step s before t) ∙ k)
  ] refl h
    where
      some_same : (y z : Lexeme) → ◌≡◌ {A = Option Lexeme} (Some y) (Some z) → y ≡ z
      some_same y z k = cc

  -- where none is found in the rest, and none stands before it, there is none
  pub nowhere : (all before tokens : List Lexeme) → all ≡ before ++ tokens → NoneBefore P all before → first_where step test (folded step s before) tokens ≡ None → IsNowhere P all
  nowhere all before [] e none h = λ b u c f p. none b u c f (omega (arith, ap length e, ap length f, length-append before [], length-append b (u ∷ c))) p
  nowhere all before (t ∷ tokens) e none h = elim (test (folded step s before) t tokens) as (λ v. test (folded step s before) t tokens ≡ v → cond v (Some t) (first_where step test (step (folded step s before) t) tokens) ≡ None → IsNowhere P all) [
    | true ↦ λ f k. absurd (some_none k)
    | false ↦ λ f k. nowhere all (before ++ t ∷ []) tokens (e ∙ sym (append_assoc before (t ∷ []) tokens)) (none_yet all before t tokens e f none)
        (ap (λ (r : S). first_where step test r tokens) (folded-append step s before t) ∙ k)
  ] refl h
    where
      some_none : ◌≡◌ {A = Option Lexeme} (Some t) None → ⊥
      some_none k = cc

  -- what is found in the whole list is the first
  pub found_all : (all : List Lexeme) (x : Lexeme) → first_where step test s all ≡ Some x → IsFirst P all x
  found_all all x h = found all [] all x refl (λ b u c e short p. omega arith) h

  -- where nothing is found in the whole list, there is none
  pub nowhere_all : (all : List Lexeme) → first_where step test s all ≡ None → IsNowhere P all
  nowhere_all all h = nowhere all [] all refl (λ b u c e short p. omega arith) h
