-- A text is read in one way.
use Rattle.std.proofs.Common.{◌≡◌, ℕ, true, false, cond, List, [], ◌∷◌, ◌++◌, Option, Some, None, refl, sym, ap, subst, ◌∙◌}
use Rattle.pp_syntax.specs.declared.token.Kind.{Kind}
use Rattle.pp_syntax.specs.declared.lexer.place.Place.{Place}
use Rattle.pp_syntax.specs.Opened.{in_quotes, Ending}
use Rattle.pp_syntax.specs.Tokens.{Lexeme}
use Rattle.pp_syntax.specs.Spelling.{TokenAt, GapAt, behind, behind_gap, Reads, ends, gap, token, stuck}
use Rattle.pp_syntax.specs.Scanning.{Found, code_token, quoted_token, token_at, gap_at, gap_of, found_at, checked}
use Rattle.pp_syntax.proofs.Steps.{front_is}
use Rattle.pp_syntax.proofs.Longest.{token_takes, token_reads, gap_at_takes, gap_at_reads, gap_at_no_token}

-- what stands at the front of a text
data Step : Type 0 where
  End : Step
  Gap : List ℕ → Step
  Token : Kind → List ℕ → Step
  Nothing : Step

-- what stands at the front, by the gap and the token that are found
abbrev step_by : Option (List ℕ) → Found → Step
step_by (Some rest) found = Gap rest
step_by None None = Nothing
step_by None (Some x) = Token x.0 x.1

-- what stands at the front of a text at a place
abbrev step_at : Place → List ℕ → Step
step_at p [] = End
step_at p (b ∷ text) = step_by (gap_at p (b ∷ text)) (token_at p (b ∷ text))

-- at the end there is no gap
gap_at_end : (p : Place) → gap_at p [] ≡ None
unfolding gap_of
gap_at_end p = elim (in_quotes p.opened) as (λ v. cond v None (gap_of []) ≡ None) [ true ↦ refl | false ↦ refl ]

-- at the end there is no token
token_at_end : (p : Place) → token_at p [] ≡ None
unfolding token_at code_token quoted_token
token_at_end p = elim (in_quotes p.opened) as (λ v. checked p [] (found_at v []) ≡ None) [ true ↦ refl | false ↦ refl ]

-- where a gap is found, it stands there
gap_step : (p : Place) (text rest : List ℕ) → gap_at p text ≡ Some rest → step_at p text ≡ Gap rest
gap_step p [] rest h = let none = gap_at_end p in cc
gap_step p (b ∷ text) rest h = ap (λ g. step_by g (token_at p (b ∷ text))) h

-- where no gap is found and a token is, it stands there
token_step : (p : Place) (text : List ℕ) (x : Kind × List ℕ) → gap_at p text ≡ None → token_at p text ≡ Some x → step_at p text ≡ Token x.0 x.1
token_step p [] x g h = let none = token_at_end p in cc
token_step p (b ∷ text) x g h = ap (λ u. step_by u (token_at p (b ∷ text))) g ∙ ap (step_by None) h

-- where nothing is left, the text ends
end_step : (p : Place) (text : List ℕ) → text ≡ [] → step_at p text ≡ End
end_step p text e = ap (step_at p) e

-- where a gap stands, it is told
at_gap : (p : Place) (text s rest : List ℕ) → text ≡ s ++ rest → GapAt p s rest → step_at p text ≡ Gap rest
at_gap p text s rest e h = gap_step p text rest (ap (gap_at p) e ∙ gap_at_reads p s rest h)

-- where a token is found, no gap is
no_gap_with : (p : Place) (text : List ℕ) (x : Kind × List ℕ) → token_at p text ≡ Some x → gap_at p text ≡ None
no_gap_with p text x h = elim (gap_at p text) as (λ g. gap_at p text ≡ g → g ≡ None) [
  | None ↦ λ e. refl
  | Some rest ↦ λ e.
      let t = gap_at_takes p text rest e in
      let none : token_at p text ≡ None = ap (token_at p) t.whole ∙ gap_at_no_token p t.front rest t.spelled in
      absurd (none_some x (sym none ∙ h))
] refl
  where
    none_some : (x : Kind × List ℕ) → ◌≡◌ {A = Found} None (Some x) → ⊥
    none_some x e = cc

-- where a token stands, it is told
at_token : (p : Place) (text : List ℕ) (k : Kind) (s rest : List ℕ) → text ≡ s ++ rest → TokenAt p k s rest → step_at p text ≡ Token k rest
at_token p text k s rest e h =
    let found : token_at p text ≡ Some (k, rest) = ap (token_at p) e ∙ token_reads p k s rest h in
    token_step p text (k, rest) (no_gap_with p text (k, rest) found) found

-- where no token stands, none is found
no_token : (p : Place) (text : List ℕ) → ((k : Kind) (s rest : List ℕ) → text ≡ s ++ rest → ¬ (TokenAt p k s rest)) → token_at p text ≡ None
no_token p text n = elim (token_at p text) as (λ f. token_at p text ≡ f → f ≡ None) [
  | None ↦ λ e. refl
  | Some x ↦ λ e. let t = token_takes p text x.0 x.1 e in absurd (n x.0 t.front x.1 t.whole t.spelled)
] refl

-- what is before the same rest of a text is the same
same_front : (text s rest t : List ℕ) → text ≡ s ++ rest → text ≡ t ++ rest → s ≡ t
same_front text s rest t e f = sym (front_is text s rest e) ∙ front_is text t rest f

-- the same tokens and the same ending
abbrev Same : List Lexeme → List Lexeme → Ending → Ending → Type 0
Same ts us e f = (ts ≡ us) × (e ≡ f)

-- the same token before the same tokens is the same
more_same : (k : Kind) (s : List ℕ) (at : ℕ) (ts us more others : List Lexeme) (e f : Ending) → ts ≡ record { kind = k; text = s; at = at } ∷ more → us ≡ record { kind = k; text = s; at = at } ∷ others → Same more others e f → Same ts us e f
more_same k s at ts us more others e f x y h = (x ∙ ap (λ (l : List Lexeme). record { kind = k; text = s; at = at } ∷ l) h.0 ∙ sym y, h.1)

-- a text is read in one way from a place: the same tokens, the same ending
pub one_reading : (p : Place) (text : List ℕ) (ts us : List Lexeme) (e f : Ending) → Reads p text ts e → Reads p text us f → Same ts us e f
one_reading p text ts us e f (ends a b c) (ends d g h) = (b ∙ sym g, c ∙ sym h)
one_reading p text ts us e f (gap s rest a b c) (gap s' rest' a' b' c') =
    let same : Gap rest ≡ Gap rest' = sym (at_gap p text s rest a b) ∙ at_gap p text s' rest' a' b' in
    let same_rest : rest' ≡ rest = cc in
    let fronts : s' ≡ s = same_front text s' rest s (a' ∙ ap (λ r. s' ++ r) same_rest) a in
    one_reading (behind_gap p s) rest ts us e f c (subst (λ (r : List ℕ). Reads (behind_gap p s) r us f) same_rest (subst (λ (t : List ℕ). Reads (behind_gap p t) rest' us f) fronts c'))
one_reading p text ts us e f (token k s rest more a b c d) (token k' s' rest' more' a' b' c' d') =
    let same : Token k rest ≡ Token k' rest' = sym (at_token p text k s rest a b) ∙ at_token p text k' s' rest' a' b' in
    let same_rest : rest' ≡ rest = cc in
    let same_kind : k' ≡ k = cc in
    let fronts : s' ≡ s = same_front text s' rest s (a' ∙ ap (λ r. s' ++ r) same_rest) a in
    let other : us ≡ record { kind = k; text = s; at = p.at } ∷ more' = c' ∙ ap (λ j. record { kind = j; text = s'; at = p.at } ∷ more') same_kind ∙ ap (λ t. record { kind = k; text = t; at = p.at } ∷ more') fronts in
    more_same k s p.at ts us more more' e f c other
    (one_reading (behind p k s) rest more more' e f d (subst (λ (r : List ℕ). Reads (behind p k s) r more' f) same_rest (subst (λ (t : List ℕ). Reads (behind p k t) rest' more' f) fronts (subst (λ j. Reads (behind p j s') rest' more' f) same_kind d'))))
one_reading p text ts us e f (stuck a b c d g) (stuck a' b' c' d' g') = (d ∙ sym d', g ∙ sym g')
one_reading p text ts us e f (ends a b c) (gap s' rest' a' b' c') = let x = end_step p text a in let y = at_gap p text s' rest' a' b' in cc
one_reading p text ts us e f (ends a b c) (token k' s' rest' more' a' b' c' d') = let x = end_step p text a in let y = at_token p text k' s' rest' a' b' in cc
one_reading p text ts us e f (ends a b c) (stuck a' b' c' d' g') = absurd (a' a)
one_reading p text ts us e f (gap s rest a b c) (ends a' b' c') = let x = end_step p text a' in let y = at_gap p text s rest a b in cc
one_reading p text ts us e f (gap s rest a b c) (token k' s' rest' more' a' b' c' d') = let x = at_gap p text s rest a b in let y = at_token p text k' s' rest' a' b' in cc
one_reading p text ts us e f (gap s rest a b c) (stuck a' b' c' d' g') = absurd (b' s rest a b)
one_reading p text ts us e f (token k s rest more a b c d) (ends a' b' c') = let x = end_step p text a' in let y = at_token p text k s rest a b in cc
one_reading p text ts us e f (token k s rest more a b c d) (gap s' rest' a' b' c') = let x = at_gap p text s' rest' a' b' in let y = at_token p text k s rest a b in cc
one_reading p text ts us e f (token k s rest more a b c d) (stuck a' b' c' d' g') = absurd (c' k s rest a b)
one_reading p text ts us e f (stuck a b c d g) (ends a' b' c') = absurd (a a')
one_reading p text ts us e f (stuck a b c d g) (gap s' rest' a' b' c') = absurd (b s' rest' a' b')
one_reading p text ts us e f (stuck a b c d g) (token k' s' rest' more' a' b' c' d') = absurd (c k' s' rest' a' b')
