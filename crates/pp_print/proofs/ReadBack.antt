-- The text of words that may stand one behind the other is read as tokens with these words.
use Rattle.std.proofs.Common.{◌≡◌, inl, inr, ℕ, Bool, true, false, cond, ◌||◌, List, [], ◌∷◌, ◌++◌, refl, sym, ap, subst, ◌∙◌}
use Rattle.std.specs.Prelude.{codes}
use Rattle.std.specs.Str.{bytes_eq}
use Rattle.std.proofs.lemmas.Bool.{both_ways}
use Rattle.pp_syntax.specs.declared.token.Kind.{Kind}
use Rattle.pp_syntax.specs.declared.token.Kind.TheVariants as kind
use Rattle.pp_syntax.specs.declared.lexer.opening.Opening.{Opening}
use Rattle.pp_syntax.specs.declared.lexer.opening.Opening.TheVariants as opening
use Rattle.pp_syntax.specs.declared.lexer.place.Place.{Place}
use Rattle.pp_syntax.specs.Bytes.{is_name}
use Rattle.pp_syntax.specs.Opened.{in_quotes, closed_brace, outer_of, Whole, ending}
use Rattle.pp_syntax.specs.Opened as place
use Rattle.pp_syntax.specs.Tokens.{Lexeme, Spelling, is_among}
use Rattle.pp_syntax.specs.Statements.{functions}
use Rattle.pp_syntax.specs.Spelling.{NoNameFirst, NumberStands, kind_at, TokenAt, opened_behind, ends_tight, behind, behind_gap, Reads, Spells, start}
use Rattle.pp_syntax.specs.Spelling as spelling
use Rattle.pp_syntax.specs.SetApart.{IsSetApart}
use Rattle.pp_print.specs.declared.words.Word.{Word}
use Rattle.pp_print.specs.Words.{words_in, clings, holds, text_from, text_of}
use Rattle.pp_print.proofs.Walks.{Mark, InText, InHole, InBrace, Last, Held, Closed, Called, Star, Heading, Other, outside, in_text, in_hole, in_brace, is_held, is_closed, is_heading, SignStands, May, outer, opened_by, last_of, Walks, called_closed}

-- ---- what is open, without its places

-- what is open, without its place
abbrev mark_of : Opening → Mark
mark_of (opening.Quote at) = InText
mark_of (opening.Hole at) = InHole
mark_of opening.Brace = InBrace

-- so of all that is open
abbrev marks : List Opening → List Mark
marks [] = []
marks (o ∷ os) = mark_of o ∷ marks os

-- outside of quotes by the marks is outside by what is open
not_quoted : (os : List Opening) → outside (marks os) ≡ true → in_quotes os ≡ false
not_quoted [] h = refl
not_quoted (opening.Quote at ∷ os) h = cc
not_quoted (opening.Hole at ∷ os) h = refl
not_quoted (opening.Brace ∷ os) h = refl

-- within quotes by the marks is within
quoted : (os : List Opening) → in_text (marks os) ≡ true → in_quotes os ≡ true
quoted [] h = cc
quoted (opening.Quote at ∷ os) h = refl
quoted (opening.Hole at ∷ os) h = cc
quoted (opening.Brace ∷ os) h = cc

-- directly within a `${` by the marks is within one, and so outside of quotes
holed : (os : List Opening) → in_hole (marks os) ≡ true → (place.in_hole os ≡ true) × (in_quotes os ≡ false)
holed [] h = cc
holed (opening.Quote at ∷ os) h = cc
holed (opening.Hole at ∷ os) h = (refl, refl)
holed (opening.Brace ∷ os) h = cc

-- directly within a brace by the marks, a `}` closes the brace
braced : (os : List Opening) → in_brace (marks os) ≡ true → (place.in_hole os ≡ false) × (marks (closed_brace os) ≡ outer (marks os))
braced [] h = cc
braced (opening.Quote at ∷ os) h = cc
braced (opening.Hole at ∷ os) h = cc
braced (opening.Brace ∷ os) h = (refl, refl)

-- without the innermost, the marks are those of the outer ones
outer_marks : (os : List Opening) → marks (outer_of os) ≡ outer (marks os)
outer_marks [] = refl
outer_marks (o ∷ os) = refl

-- where no mark is, nothing is open
no_marks : (os : List Opening) → marks os ≡ [] → os ≡ []
no_marks [] h = refl
no_marks (o ∷ os) h = cc

-- ---- what is behind a word

-- a sign that may stand opens and closes by the marks what it does in a text
sign_opened : (os : List Opening) (s : List ℕ) (at : ℕ) (l : Last) → SignStands (marks os) l s → marks (opened_behind kind.Sign s at os) ≡ opened_by kind.Sign s (marks os)
sign_opened os s at l h = elim (bytes_eq s (codes "{")) as (λ v. marks (cond v (opening.Brace ∷ os) (cond (bytes_eq s (codes "}")) (closed_brace os) os)) ≡ cond v (InBrace ∷ marks os) (cond (bytes_eq s (codes "}")) (outer (marks os)) (marks os))) [
  | true ↦ refl
  | false ↦ elim (bytes_eq s (codes "}")) as (λ v. bytes_eq s (codes "}") ≡ v → marks (cond v (closed_brace os) os) ≡ cond v (outer (marks os)) (marks os)) [ true ↦ λ e. (braced os (h.brace e)).1 | false ↦ λ e. refl ] refl
]

-- so does each word that may stand
opened_same : (os : List Opening) (k : Kind) (s : List ℕ) (at : ℕ) (l : Last) → May (marks os) l k s → marks (opened_behind k s at os) ≡ opened_by k s (marks os)
opened_same os kind.Sign s at l h = sign_opened os s at l h.1
opened_same os kind.DqClose s at l h = outer_marks os
opened_same os kind.HoleEnd s at l h = outer_marks os
opened_same os kind.DqOpen s at l h = refl
opened_same os kind.Hole s at l h = refl
opened_same os kind.Word s at l h = refl
opened_same os kind.Ref s at l h = refl
opened_same os kind.Var s at l h = refl
opened_same os kind.Int s at l h = refl
opened_same os kind.Float s at l h = refl
opened_same os kind.Sq s at l h = refl
opened_same os kind.DqText s at l h = refl
opened_same os kind.DqVar s at l h = refl
opened_same os kind.Tight s at l h = refl
opened_same os kind.Loose s at l h = refl
opened_same os kind.Keyword s at l h = refl
opened_same os kind.LeftOut s at l h = refl

-- a `[` is tight behind `)` and `]` alone, of all signs
sign_closed : (a b : Bool) → a ≡ is_closed (cond a Closed (cond b Star Other))
sign_closed true b = refl
sign_closed false true = refl
sign_closed false false = refl

-- it isn't tight behind `class` and `define`
heading_closed : (a : Bool) → false ≡ is_closed (cond a Heading Other)
heading_closed true = refl
heading_closed false = refl

-- a `[` is tight behind just the words behind which the walk says so
tight_same : (l : Last) (k : Kind) (s : List ℕ) → ends_tight k s ≡ is_closed (last_of l k s)
tight_same l kind.Word s = called_closed (is_heading l) (is_among functions s)
tight_same l kind.Keyword s = heading_closed (is_among (codes "class" ∷ codes "define" ∷ []) s)
tight_same l kind.Sign s = sign_closed (is_among (codes ")" ∷ codes "]" ∷ []) s) (bytes_eq s (codes "*"))
tight_same l kind.DqClose s = refl
tight_same l kind.HoleEnd s = refl
tight_same l kind.DqOpen s = refl
tight_same l kind.Hole s = refl
tight_same l kind.Ref s = refl
tight_same l kind.Var s = refl
tight_same l kind.Int s = refl
tight_same l kind.Float s = refl
tight_same l kind.Sq s = refl
tight_same l kind.DqText s = refl
tight_same l kind.DqVar s = refl
tight_same l kind.Tight s = refl
tight_same l kind.Loose s = refl
tight_same l kind.LeftOut s = refl

-- no word holds back the space behind it
called_held : (a b : Bool) → false ≡ is_held (cond a Closed (cond b Closed Called))
called_held true b = refl
called_held false true = refl
called_held false false = refl

-- nor does a sign
sign_held : (a b : Bool) → false ≡ is_held (cond a Closed (cond b Star Other))
sign_held true b = refl
sign_held false true = refl
sign_held false false = refl

-- nor do `class` and `define`
heading_held : (a : Bool) → false ≡ is_held (cond a Heading Other)
heading_held true = refl
heading_held false = refl

-- the space behind a word is held back where the walk says so
held_same : (l : Last) (k : Kind) (s : List ℕ) → holds k ≡ is_held (last_of l k s)
held_same l kind.Word s = called_held (is_heading l) (is_among functions s)
held_same l kind.Keyword s = heading_held (is_among (codes "class" ∷ codes "define" ∷ []) s)
held_same l kind.Sign s = sign_held (is_among (codes ")" ∷ codes "]" ∷ []) s) (bytes_eq s (codes "*"))
held_same l kind.DqClose s = refl
held_same l kind.HoleEnd s = refl
held_same l kind.DqOpen s = refl
held_same l kind.Hole s = refl
held_same l kind.Ref s = refl
held_same l kind.Var s = refl
held_same l kind.Int s = refl
held_same l kind.Float s = refl
held_same l kind.Sq s = refl
held_same l kind.DqText s = refl
held_same l kind.DqVar s = refl
held_same l kind.Tight s = refl
held_same l kind.Loose s = refl
held_same l kind.LeftOut s = refl

-- behind what holds it back a `[` isn't tight
held_loose : (l : Last) → is_held l ≡ true → is_closed l ≡ false
held_loose Held h = refl
held_loose Closed h = cc
held_loose Called h = cc
held_loose Star h = cc
held_loose Heading h = cc
held_loose Other h = cc

-- ---- what stands before the text behind a word

-- what a word stands behind is set apart from it
apart_by : (st : List Mark) (l : Last) (k : Kind) (s rest : List ℕ) → May st l k s → IsSetApart (cond (clings k) [] (32 ∷ []) ++ (s ++ rest))
apart_by st l kind.Tight s rest h = subst (λ (t : List ℕ). IsSetApart (t ++ rest)) (sym h.2) (inr refl)
apart_by st l kind.Word s rest h = inl refl
apart_by st l kind.Keyword s rest h = inl refl
apart_by st l kind.Sign s rest h = inl refl
apart_by st l kind.DqClose s rest h = inl refl
apart_by st l kind.HoleEnd s rest h = inl refl
apart_by st l kind.DqOpen s rest h = inl refl
apart_by st l kind.Hole s rest h = inl refl
apart_by st l kind.Ref s rest h = inl refl
apart_by st l kind.Var s rest h = inl refl
apart_by st l kind.Int s rest h = inl refl
apart_by st l kind.Float s rest h = inl refl
apart_by st l kind.Sq s rest h = inl refl
apart_by st l kind.DqText s rest h = inl refl
apart_by st l kind.DqVar s rest h = inl refl
apart_by st l kind.Loose s rest h = inl refl
apart_by st l kind.LeftOut s rest h = inl refl

-- so it is from the text of all words that may follow
set_apart : (st st2 : List Mark) (l l2 : Last) (ws : List Word) → Walks st l ws st2 l2 → IsSetApart (text_from false ws)
set_apart st st2 l l2 [] h = tt
set_apart st st2 l l2 (w ∷ ws) h = apart_by st l w.kind w.text (text_from (holds w.kind) ws) h.0

-- what is set apart begins with no letter, digit or `_`
no_name_first : (rest : List ℕ) → IsSetApart rest → NoNameFirst rest
no_name_first [] h = tt
no_name_first (b ∷ rest) (inl e) = ap is_name e
no_name_first (b ∷ rest) (inr e) = ap is_name e

-- ---- one token

-- A tight bracket stands where it is tight, and a loose one where it isn't.
abbrev BracketStands : Kind → Bool → Type 0
BracketStands kind.Tight tight = tight ≡ true
BracketStands kind.Loose tight = tight ≡ false
BracketStands _ tight = Unit {0}

-- what is known of tokens that are set apart from what is behind them
pub record Apart : Type 0 where
  pub spelled : (p : Place) (k : Kind) (s rest : List ℕ) → in_quotes p.opened ≡ false → Spelling k s → NumberStands k s rest → IsSetApart rest → TokenAt p (kind_at p k s) s rest
  pub quote : (p : Place) (rest : List ℕ) → in_quotes p.opened ≡ false → TokenAt p kind.DqOpen (codes "\"") rest
  pub brace : (p : Place) (rest : List ℕ) → in_quotes p.opened ≡ false → TokenAt p (kind_at p kind.Sign (codes "}")) (codes "}") rest
  pub hole : (p : Place) (rest : List ℕ) → in_quotes p.opened ≡ true → TokenAt p kind.Hole (codes "${") rest
  pub close : (p : Place) (rest : List ℕ) → in_quotes p.opened ≡ true → TokenAt p kind.DqClose (codes "\"") rest

module _ (laws : Apart) where
  -- a sign that may stand is read as a sign
  sign_kind : (p : Place) (l : Last) (s : List ℕ) → SignStands (marks p.opened) l s → kind_at p kind.Sign s ≡ kind.Sign
  sign_kind p l s h = ap (λ v. cond v (cond p.tight kind.Tight kind.Loose) (cond (bytes_eq s (codes "}")) (cond (place.in_hole p.opened) kind.HoleEnd kind.Sign) kind.Sign)) h.no_bracket ∙ by_brace (bytes_eq s (codes "}")) (λ e. (braced p.opened (h.brace e)).0)
    where
      by_brace : (v : Bool) → (v ≡ true → place.in_hole p.opened ≡ false) → cond v (cond (place.in_hole p.opened) kind.HoleEnd kind.Sign) kind.Sign ≡ kind.Sign
      by_brace true k = ap (λ w. cond w kind.HoleEnd kind.Sign) (k refl)
      by_brace false k = refl

  -- equal kinds and texts make equal tokens
  at : (p : Place) (s t rest : List ℕ) (k j : Kind) → s ≡ t → j ≡ k → TokenAt p j t rest → TokenAt p k s rest
  at p s t rest k j e f h = subst (λ (u : List ℕ). TokenAt p k u rest) (sym e) (subst (λ (i : Kind). TokenAt p i t rest) f h)

  -- a spelling outside of quotes that is set apart is the token there
  plain_at : (p : Place) (k : Kind) (s rest : List ℕ) → (kind_at p k s ≡ k) → outside (marks p.opened) ≡ true → Spelling k s → NumberStands k s rest → IsSetApart rest → TokenAt p k s rest
  plain_at p k s rest same out h n apart = at p s s rest k (kind_at p k s) refl same (laws.spelled p k s rest (not_quoted p.opened out) h n apart)

  -- a `[` is read as tight or loose by what stands before it
  bracket_at : (p : Place) (k : Kind) (s rest : List ℕ) → s ≡ codes "[" → outside (marks p.opened) ≡ true → cond p.tight kind.Tight kind.Loose ≡ k → IsSetApart rest → TokenAt p k s rest
  bracket_at p k s rest is out same apart = at p s (codes "[") rest k (cond p.tight kind.Tight kind.Loose) is same (laws.spelled p kind.Sign (codes "[") rest (not_quoted p.opened out) refl tt apart)

  -- a word that may stand is the token there
  token_at : (p : Place) (l : Last) (k : Kind) (s rest : List ℕ) → May (marks p.opened) l k s → BracketStands k p.tight → (holds k ≡ false → IsSetApart rest) → TokenAt p k s rest
  token_at p l kind.Word s rest h b apart = plain_at p kind.Word s rest refl h.0 h.1 tt (apart refl)
  token_at p l kind.Keyword s rest h b apart = plain_at p kind.Keyword s rest refl h.0 h.1 tt (apart refl)
  token_at p l kind.Ref s rest h b apart = plain_at p kind.Ref s rest refl h.0 h.1 tt (apart refl)
  token_at p l kind.Var s rest h b apart = plain_at p kind.Var s rest refl h.0 h.1 tt (apart refl)
  token_at p l kind.Int s rest h b apart = plain_at p kind.Int s rest refl h.0 h.1 (h.2, no_name_first rest (apart refl)) (apart refl)
  token_at p l kind.Sq s rest h b apart = plain_at p kind.Sq s rest refl h.0 h.1 tt (apart refl)
  token_at p l kind.Sign s rest h b apart = plain_at p kind.Sign s rest (sign_kind p l s h.1) h.0 h.1.among tt (apart refl)
  token_at p l kind.Tight s rest h b apart = bracket_at p kind.Tight s rest h.2 h.0 (ap (λ v. cond v kind.Tight kind.Loose) b) (apart refl)
  token_at p l kind.Loose s rest h b apart = bracket_at p kind.Loose s rest h.1 h.0 (ap (λ v. cond v kind.Tight kind.Loose) b) (apart refl)
  token_at p l kind.DqOpen s rest h b apart = at p s (codes "\"") rest kind.DqOpen kind.DqOpen h.1 refl (laws.quote p rest (not_quoted p.opened h.0))
  token_at p l kind.Hole s rest h b apart = at p s (codes "${") rest kind.Hole kind.Hole h.2 refl (laws.hole p rest (quoted p.opened h.0))
  token_at p l kind.DqClose s rest h b apart = at p s (codes "\"") rest kind.DqClose kind.DqClose h.2 refl (laws.close p rest (quoted p.opened h.0))
  token_at p l kind.HoleEnd s rest h b apart =
      at p s (codes "}") rest kind.HoleEnd (cond (place.in_hole p.opened) kind.HoleEnd kind.Sign) h.1 (ap (λ v. cond v kind.HoleEnd kind.Sign) (holed p.opened h.0).0) (laws.brace p rest (holed p.opened h.0).1)
  token_at p l kind.Float s rest h b apart = absurd h
  token_at p l kind.DqText s rest h b apart = absurd h
  token_at p l kind.DqVar s rest h b apart = absurd h
  token_at p l kind.LeftOut s rest h b apart = absurd h

  -- ---- the space before it

  -- Where no space stands before a word, it stands directly behind the last one.
  close_bracket : (l : Last) (k : Kind) (s : List ℕ) (st : List Mark) (tight : Bool) → May st l k s → tight ≡ is_closed l → (is_held l || clings k) ≡ true → BracketStands k tight
  close_bracket l kind.Tight s st tight h e c = e ∙ h.1
  close_bracket l kind.Loose s st tight h e c = e ∙ held_loose l (alone (is_held l) c)
    where
      alone : (v : Bool) → (v || false) ≡ true → v ≡ true
      alone true k = refl
      alone false k = k
  close_bracket l kind.Word s st tight h e c = tt
  close_bracket l kind.Keyword s st tight h e c = tt
  close_bracket l kind.Sign s st tight h e c = tt
  close_bracket l kind.DqClose s st tight h e c = tt
  close_bracket l kind.HoleEnd s st tight h e c = tt
  close_bracket l kind.DqOpen s st tight h e c = tt
  close_bracket l kind.Hole s st tight h e c = tt
  close_bracket l kind.Ref s st tight h e c = tt
  close_bracket l kind.Var s st tight h e c = tt
  close_bracket l kind.Int s st tight h e c = tt
  close_bracket l kind.Float s st tight h e c = tt
  close_bracket l kind.Sq s st tight h e c = tt
  close_bracket l kind.DqText s st tight h e c = tt
  close_bracket l kind.DqVar s st tight h e c = tt
  close_bracket l kind.LeftOut s st tight h e c = tt

  -- Where a space stands before a word, this is outside of double quotes.
  spaced : (l : Last) (k : Kind) (s : List ℕ) (st : List Mark) → May st l k s → (is_held l || clings k) ≡ false → (outside st ≡ true) × BracketStands k false
  spaced l kind.Word s st h c = (h.0, tt)
  spaced l kind.Keyword s st h c = (h.0, tt)
  spaced l kind.Ref s st h c = (h.0, tt)
  spaced l kind.Var s st h c = (h.0, tt)
  spaced l kind.Int s st h c = (h.0, tt)
  spaced l kind.Sq s st h c = (h.0, tt)
  spaced l kind.Sign s st h c = (h.0, tt)
  spaced l kind.DqOpen s st h c = (h.0, tt)
  spaced l kind.Loose s st h c = (h.0, refl)
  spaced l kind.Tight s st h c = absurd (no_cling (is_held l) c)
    where
      no_cling : (v : Bool) → (v || true) ≡ false → ⊥
      no_cling true k = cc
      no_cling false k = cc
  spaced l kind.Hole s st h c = absurd (both_ways (is_held l || false) c (ap (λ v. v || false) h.1))
  spaced l kind.DqClose s st h c = absurd (both_ways (is_held l || false) c (ap (λ v. v || false) h.1))
  spaced l kind.HoleEnd s st h c = (hole_outside st h.0, tt)
    where
      hole_outside : (st : List Mark) → in_hole st ≡ true → outside st ≡ true
      hole_outside [] k = cc
      hole_outside (InText ∷ st) k = cc
      hole_outside (InHole ∷ st) k = refl
      hole_outside (InBrace ∷ st) k = refl
  spaced l kind.Float s st h c = absurd h
  spaced l kind.DqText s st h c = absurd h
  spaced l kind.DqVar s st h c = absurd h
  spaced l kind.LeftOut s st h c = absurd h

  -- ---- the whole text

  -- The text is read as tokens with these words, up to its end.
  abbrev pub ReadAs : Place → List ℕ → List Word → Type 0
  ReadAs p text ws = (us : List Lexeme) × Reads p text us Whole × (words_in us ≡ ws)

  -- a token, and words that are read behind it, are read
  token_read : (p : Place) (l : Last) (w : Word) (ws : List Word) (rest : List ℕ) → May (marks p.opened) l w.kind w.text → BracketStands w.kind p.tight → (holds w.kind ≡ false → IsSetApart rest) → ReadAs (behind p w.kind w.text) rest ws → ReadAs p (w.text ++ rest) (w ∷ ws)
  token_read p l w ws rest h b apart r = (
    record { kind = w.kind; text = w.text; at = p.at } ∷ r.0,
    spelling.token w.kind w.text rest r.0 refl (token_at p l w.kind w.text rest h b apart) refl r.1,
    ap (λ (v : List Word). w ∷ v) r.2,
  )

  -- a space, and words that are read behind it, are read
  gap_read : (p : Place) (ws : List Word) (rest : List ℕ) → in_quotes p.opened ≡ false → ReadAs (behind_gap p (32 ∷ [])) rest ws → ReadAs p (32 ∷ rest) ws
  gap_read p ws rest out r = (r.0, spelling.gap (32 ∷ []) rest refl (out, spelling.blank 32 refl refl) r.1, r.2)

  -- a word with its space or without, and words that are read behind it, are read
  word_read : (p : Place) (l : Last) (w : Word) (ws : List Word) (rest : List ℕ) → p.tight ≡ is_closed l → May (marks p.opened) l w.kind w.text → (holds w.kind ≡ false → IsSetApart rest) → ((q : Place) → q.opened ≡ p.opened → ReadAs (behind q w.kind w.text) rest ws)
      → ReadAs p (cond (is_held l || clings w.kind) [] (32 ∷ []) ++ (w.text ++ rest)) (w ∷ ws)
  word_read p l w ws rest e h apart more = elim (is_held l || clings w.kind) as (λ v. (is_held l || clings w.kind) ≡ v → ReadAs p (cond v [] (32 ∷ []) ++ (w.text ++ rest)) (w ∷ ws)) [
    | true ↦ λ c. token_read p l w ws rest h (close_bracket l w.kind w.text (marks p.opened) p.tight h e c) apart (more p refl)
    | false ↦ λ c.
        let s = spaced l w.kind w.text (marks p.opened) h c in
        let q : Place = behind_gap p (32 ∷ []) in
        gap_read p (w ∷ ws) (w.text ++ rest) (not_quoted p.opened s.0) (token_read q l w ws rest h s.1 apart (more q refl))
  ] refl

  -- what has no space held back behind it is set apart from the words that follow
  set_apart_by : (st : List Mark) (l l2 : Last) (ws : List Word) (held : Bool) → Walks st l ws [] l2 → held ≡ false → IsSetApart (text_from held ws)
  set_apart_by st l l2 ws held h c = subst (λ v. IsSetApart (text_from v ws)) (sym c) (set_apart st [] l l2 ws h)

  -- the place behind a word, and what may stand there
  walks_on : (p q : Place) (l l2 : Last) (w : Word) (ws : List Word) → q.opened ≡ p.opened → Walks (marks p.opened) l (w ∷ ws) [] l2 → Walks (marks (behind q w.kind w.text).opened) (last_of l w.kind w.text) ws [] l2
  walks_on p q l l2 w ws same h =
      let may : May (marks q.opened) l w.kind w.text = subst (λ (os : List Opening). May (marks os) l w.kind w.text) (sym same) h.0 in
      subst (λ (st : List Mark). Walks st (last_of l w.kind w.text) ws [] l2) (ap (λ (os : List Opening). opened_by w.kind w.text (marks os)) (sym same) ∙ sym (opened_same q.opened w.kind w.text q.at l may)) h.1

  -- words that may stand from a place on are read there
  words_read : (ws : List Word) (l l2 : Last) (p : Place) → Walks (marks p.opened) l ws [] l2 → p.tight ≡ is_closed l → ReadAs p (text_from (is_held l) ws) ws
  words_read [] l l2 p h e = ([], spelling.ends refl refl (ap ending (sym (no_marks p.opened h.0))), refl)
  words_read (w ∷ ws) l l2 p h e = word_read p l w ws (text_from (holds w.kind) ws) e h.0 (set_apart_by (opened_by w.kind w.text (marks p.opened)) (last_of l w.kind w.text) l2 ws (holds w.kind) h.1) (λ q same.
      subst (λ v. ReadAs (behind q w.kind w.text) (text_from v ws) ws) (sym (held_same l w.kind w.text)) (words_read ws (last_of l w.kind w.text) l2 (behind q w.kind w.text) (walks_on p q l l2 w ws same h) (tight_same l w.kind w.text)))

  -- the text of words that may stand is tokens with these words
  pub text_read : (ws : List Word) (l2 : Last) → Walks [] Held ws [] l2 → (us : List Lexeme) × Spells (text_of ws) us × (words_in us ≡ ws)
  text_read ws l2 h = words_read ws Held l2 start h refl
