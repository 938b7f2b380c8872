-- One step of lexing: what it passes, and where the text may be cut behind it.
use Rattle.std.proofs.Common.{◌≡◌, ◌≢◌, inl, ℕ, ◌+◌, ◌-◌, ◌<◌, Bool, true, false, ◌==◌, List, [], ◌∷◌, ◌++◌, length, take, drop, Option, Some, None, refl, sym, ap, subst, ◌∙◌, arith, append_assoc, append-nil, length-append}
use Rattle.std.specs.Prelude.{IsUtf8, codes}
use Rattle.std.specs.List.{AllByRecursion}
use Rattle.std.proofs.lemmas.Str.{IsUtf8-take, IsUtf8-drop}
use Rattle.std.proofs.lemmas.List.{append_cancel_right}
use Rattle.std.proofs.lemmas.Bool.{eqb-true, eqb-false}
use Rattle.std.proofs.Math.Seq.{take-append_seam, drop-append_seam}
use Rattle.pp_syntax.specs.declared.token.Kind.{Kind}
use Rattle.pp_syntax.specs.declared.lexer.place.Place.{Place}
use Rattle.pp_syntax.specs.Opened.{in_quotes, Ending, ending, Whole, Fault}
use Rattle.pp_syntax.specs.Tokens.{Lexeme, InQuotes}
use Rattle.pp_syntax.specs.Spelling.{Fits, TokenAt, GapAt, IsGap, blank, line, block, behind, behind_gap, Reads, ends, gap, token, stuck, start, FailsAt}
use Rattle.pp_syntax.specs.Scanning.{Found, found_at, token_at, gap_at}
use Rattle.pp_syntax.proofs.Longest.{longest_found, token_takes, token_reads, gap_at_takes, gap_at_reads}
use Rattle.pp_syntax.specs.declared.token.Kind.TheVariants as kind
use Rattle.pp_syntax.specs.declared.token.Token.{Token}
use Rattle.rh_base.specs.declared.fault.Fault as rh
use Rattle.rh_base.specs.declared.fault.Fault.TheVariants as faults
use Rattle.rh_base.specs.Refused.{IfRefused, IsRefusal}
use Rattle.pp_syntax.specs.Lexing.{lexeme_of, lexemes_of, Cut, IsLexicalRefusal}
use Rattle.pp_syntax.proofs.Seams.{LastAscii, Seam, boundary, code_last, gap_seam, quoted_seam}

-- a text is cut behind a front that ends or is followed by an ASCII byte
cut_by : (text front rest : List ℕ) → IsUtf8 text → text ≡ front ++ rest → front ≢ [] → Seam front rest → Cut text rest
cut_by text front rest u e some h =
    let size : length text - length rest ≡ length front = omega (arith, ap length e, length-append front rest) in
    let taken : take (length text - length rest) text ≡ front = ap (λ n. take n text) size ∙ ap (take (length front)) e ∙ take-append_seam front rest in
    record {
      may = boundary text front rest u e h;
      whole = e ∙ ap (λ t. t ++ rest) (sym taken);
      back = ap (λ n. drop n text) size ∙ ap (drop (length front)) e ∙ drop-append_seam front rest;
      shorter = omega (arith, ap length e, length-append front rest, some_long front some);
      size = omega (arith, ap length taken, ap length e, length-append front rest);
    }
  where
    some_long : (front : List ℕ) → front ≢ [] → 0 < length front
    some_long [] n = absurd (n refl)
    some_long (b ∷ front) n = omega arith

-- a text with a last byte isn't empty
last_some : (s : List ℕ) → LastAscii s → s ≢ []
last_some [] h = absurd h
last_some (b ∷ s) h = λ e. cc

-- a text with a first byte isn't empty
cons_some : (b : ℕ) (s t : List ℕ) → t ≡ b ∷ s → t ≢ []
cons_some b s t e f = let g : ◌≡◌ {A = List ℕ} (b ∷ s) [] = sym e ∙ f in cc

-- a token within double quotes isn't empty
quoted_some : (k : Kind) (s rest : List ℕ) → InQuotes k s rest → s ≢ []
quoted_some kind.DqText s rest h = h.0
quoted_some kind.DqVar s rest h = cons_some 36 h.0 s h.1
quoted_some kind.Hole s rest h = cons_some 36 (123 ∷ []) s h
quoted_some kind.DqClose s rest h = cons_some 34 [] s h
quoted_some kind.Word s rest h = absurd h
quoted_some kind.Ref s rest h = absurd h
quoted_some kind.Var s rest h = absurd h
quoted_some kind.Int s rest h = absurd h
quoted_some kind.Float s rest h = absurd h
quoted_some kind.Sq s rest h = absurd h
quoted_some kind.DqOpen s rest h = absurd h
quoted_some kind.Keyword s rest h = absurd h
quoted_some kind.Sign s rest h = absurd h
quoted_some kind.LeftOut s rest h = absurd h
quoted_some kind.HoleEnd s rest h = absurd h
quoted_some kind.Tight s rest h = absurd h
quoted_some kind.Loose s rest h = absurd h

-- no token is empty
fits_some : (q : Bool) (k : Kind) (s rest : List ℕ) → Fits q k s rest → s ≢ []
fits_some true k s rest h = quoted_some k s rest h
fits_some false k s rest h = last_some s (code_last k s h.0)

-- a token that is found ends or is followed by an ASCII byte
fits_seam : (q : Bool) (k : Kind) (s rest : List ℕ) → found_at q (s ++ rest) ≡ Some (k, rest) → Fits q k s rest → Seam s rest
fits_seam true k s rest e h = quoted_seam k (s ++ rest) s rest e h
fits_seam false k s rest e h = inl (code_last k s h.0)

-- a gap isn't empty
gap_some : (s rest : List ℕ) → IsGap s rest → s ≢ []
gap_some s rest (blank b e h) = cons_some b [] s e
gap_some s rest (line body e h end) = cons_some 35 body s e
gap_some s rest (block body e h) = cons_some 47 (42 ∷ body) s e

-- what a text has before a rest is its front
taken : (text front rest : List ℕ) → text ≡ front ++ rest → take (length text - length rest) text ≡ front
taken text front rest e =
    let size : length text - length rest ≡ length front = omega (arith, ap length e, length-append front rest) in
    ap (λ n. take n text) size ∙ ap (take (length front)) e ∙ take-append_seam front rest

-- at a gap that is found the text is cut, and what is before the cut is the gap
pub gap_cut : (p : Place) (text rest : List ℕ) → IsUtf8 text → gap_at p text ≡ Some rest → Cut text rest × GapAt p (take (length text - length rest) text) rest
gap_cut p text rest u h =
    let t = gap_at_takes p text rest h in
    (cut_by text t.front rest u t.whole (gap_some t.front rest t.spelled.1) (gap_seam t.front rest t.spelled.1), subst (λ (s : List ℕ). GapAt p s rest) (sym (taken text t.front rest t.whole)) t.spelled)

-- at a token that is found the text is cut, and what is before the cut is the token
pub token_cut : (p : Place) (text : List ℕ) (k : Kind) (rest : List ℕ) → IsUtf8 text → token_at p text ≡ Some (k, rest) → Cut text rest × TokenAt p k (take (length text - length rest) text) rest
token_cut p text k rest u h =
    let t = token_takes p text k rest h in
    let at = t.spelled in
    let found = longest_found (in_quotes p.opened) at.spelled t.front rest at.longest in
    (cut_by text t.front rest u t.whole (fits_some (in_quotes p.opened) at.spelled t.front rest at.longest.fits) (fits_seam (in_quotes p.opened) at.spelled t.front rest found at.longest.fits), subst (λ (s : List ℕ). TokenAt p k s rest) (sym (taken text t.front rest t.whole)) at)

-- behind a cut a UTF-8 text is UTF-8
pub cut_utf8 : (text rest : List ℕ) → IsUtf8 text → Cut text rest → IsUtf8 rest
cut_utf8 text rest u c = subst (λ (t : List ℕ). IsUtf8 t) c.back (IsUtf8-drop text (length text - length rest) u c.may)

-- ---- the tokens of a text in UTF-8

-- in a UTF-8 text a token and what is behind it are UTF-8
token_utf8 : (p : Place) (k : Kind) (s rest : List ℕ) → TokenAt p k s rest → IsUtf8 (s ++ rest) → IsUtf8 s × IsUtf8 rest
token_utf8 p k s rest h u =
    let cut = (token_cut p (s ++ rest) k rest u (token_reads p k s rest h)).0 in
    (subst (λ (t : List ℕ). IsUtf8 t) (sym (append_cancel_right s _ rest cut.whole)) (IsUtf8-take (s ++ rest) _ u cut.may), cut_utf8 (s ++ rest) rest u cut)

-- the texts of all tokens are UTF-8
abbrev AllUtf8 : List Lexeme → Type 0
AllUtf8 ts = AllByRecursion (λ t. IsUtf8 t.text) ts

-- the tokens of a UTF-8 text are UTF-8
pub read_utf8 : (p : Place) (text : List ℕ) (tokens : List Lexeme) (e : Ending) → Reads p text tokens e → IsUtf8 text → AllUtf8 tokens
read_utf8 p text tokens e (ends a b c) u = subst (λ (ts : List Lexeme). AllUtf8 ts) (sym b) tt
read_utf8 p text tokens e (gap s rest a b r) u =
    let v = subst (λ (t : List ℕ). IsUtf8 t) a u in
    read_utf8 _ rest tokens e r (cut_utf8 (s ++ rest) rest v (gap_cut p (s ++ rest) rest v (gap_at_reads p s rest b)).0)
read_utf8 p text tokens e (token k s rest more a b c r) u =
    let v = token_utf8 p k s rest b (subst (λ (t : List ℕ). IsUtf8 t) a u) in
    subst (λ (ts : List Lexeme). AllUtf8 ts) (sym c) (v.0, read_utf8 _ rest more e r v.1)
read_utf8 p text tokens e (stuck a b c d f) u = subst (λ (ts : List Lexeme). AllUtf8 ts) (sym d) tt

-- ---- the turns of the loop

-- Whatever is read from the rest completes what was read before it.
abbrev pub Completes : List ℕ → List Lexeme → Place → List ℕ → Type 0
Completes source before p rest = (tokens : List Lexeme) (e : Ending) → Reads p rest tokens e → Reads start source (before ++ tokens) e

-- what completes a gap completes what was read before it
pub completes_gap : (source : List ℕ) (before : List Lexeme) (p : Place) (text s rest : List ℕ) → text ≡ s ++ rest → GapAt p s rest → Completes source before p text → Completes source before (behind_gap p s) rest
completes_gap source before p text s rest e h c tokens end r = c tokens end (gap s rest e h r)

-- what completes a token completes what was read before it
pub completes_token : (source : List ℕ) (before : List Lexeme) (p : Place) (k : Kind) (text s rest : List ℕ) → text ≡ s ++ rest → TokenAt p k s rest → Completes source before p text
    → Completes source (before ++ record { kind = k; text = s; at = p.at } ∷ []) (behind p k s) rest
completes_token source before p k text s rest e h c tokens end r =
    subst (λ (l : List Lexeme). Reads start source l end) (sym (append_assoc before (record { kind = k; text = s; at = p.at } ∷ []) tokens)) (c (record { kind = k; text = s; at = p.at } ∷ tokens) end (token k s rest tokens e h refl r))

-- one more token is one more for the definitions
pub told-append : (xs : List Token) (t : Token) → lexemes_of (xs ++ t ∷ []) ≡ lexemes_of xs ++ lexeme_of t ∷ []
told-append [] t = refl
told-append (x ∷ xs) t = ap (λ (l : List Lexeme). lexeme_of x ∷ l) (told-append xs t)

-- A turn of the loop goes past a gap.
pub gap_turn : (source : List ℕ) (before : List Lexeme) (p now : Place) (text rest front more passed : List ℕ) → IsUtf8 text → gap_at p text ≡ Some rest → front ≡ take (length text - length rest) text → more ≡ rest
    → passed ≡ front → now ≡ behind_gap p passed → p.at + length text ≡ length source → Completes source before p text
    → Completes source before now more × (now.at + length more ≡ length source) × IsUtf8 more × (length more < length text)
gap_turn source before p now text rest front more passed u found is_front is_rest is_passed is_now sizes reads =
    let g = gap_cut p text rest u found in
    let passed_is : passed ≡ take (length text - length rest) text = is_passed ∙ is_front in
    let now_is : now ≡ behind_gap p (take (length text - length rest) text) = is_now ∙ ap (behind_gap p) passed_is in
    let done : Completes source before (behind_gap p (take (length text - length rest) text)) rest = completes_gap source before p text (take (length text - length rest) text) rest g.0.whole g.1 reads in
    let at_is : now.at ≡ p.at + length (take (length text - length rest) text) = ap (λ (q : Place). q.at) now_is in
    let size : length more ≡ length rest = ap length is_rest in
    (subst (λ (q : Place). Completes source before q more) (sym now_is) (subst (λ (t : List ℕ). Completes source before (behind_gap p (take (length text - length rest) text)) t) (sym is_rest) done), omega (arith, at_is, size, g.0.size, sizes), subst (λ (t : List ℕ). IsUtf8 t) (sym is_rest) (cut_utf8 text rest u g.0), omega (arith, size, g.0.shorter))

-- A turn of the loop goes past a token.
pub token_turn : (source : List ℕ) (before after : List Token) (t : Token) (p now : Place) (k : Kind) (text rest front more passed : List ℕ) → IsUtf8 text → token_at p text ≡ Some (k, rest) → front ≡ take (length text - length rest) text → more ≡ rest
    → passed ≡ front → now ≡ behind p k passed → after ≡ before ++ t ∷ [] → lexeme_of t ≡ record { kind = k; text = front; at = p.at } → p.at + length text ≡ length source → Completes source (lexemes_of before) p text
    → Completes source (lexemes_of after) now more × (now.at + length more ≡ length source) × IsUtf8 more × (length more < length text)
token_turn source before after t p now k text rest front more passed u found is_front is_rest is_passed is_now is_after is_token sizes reads =
    let g = token_cut p text k rest u found in
    let s : List ℕ = take (length text - length rest) text in
    let now_is : now ≡ behind p k s = is_now ∙ ap (behind p k) (is_passed ∙ is_front) in
    let lexeme : Lexeme = record { kind = k; text = s; at = p.at } in
    let told_is : lexemes_of after ≡ lexemes_of before ++ lexeme ∷ [] = ap lexemes_of is_after ∙ told-append before t ∙ ap (λ (l : Lexeme). lexemes_of before ++ l ∷ []) (is_token ∙ ap (λ (f : List ℕ). record { kind = k; text = f; at = p.at }) is_front) in
    let done : Completes source (lexemes_of before ++ lexeme ∷ []) (behind p k s) rest = completes_token source (lexemes_of before) p k text s rest g.0.whole g.1 reads in
    let at_is : now.at ≡ p.at + length s = ap (λ (q : Place). q.at) now_is in
    let size : length more ≡ length rest = ap length is_rest in (
      subst (λ (l : List Lexeme). Completes source l now more) (sym told_is)
          (subst (λ (q : Place). Completes source (lexemes_of before ++ lexeme ∷ []) q more) (sym now_is) (subst (λ (r : List ℕ). Completes source (lexemes_of before ++ lexeme ∷ []) (behind p k s) r) (sym is_rest) done)),
      omega (arith, at_is, size, g.0.size, sizes),
      subst (λ (r : List ℕ). IsUtf8 r) (sym is_rest) (cut_utf8 text rest u g.0),
      omega (arith, size, g.0.shorter),
    )

-- ---- the ends

-- Nothing stands there.
pub stuck_at : (source : List ℕ) (before : List Lexeme) (p : Place) (text : List ℕ) → text ≢ [] → gap_at p text ≡ None → token_at p text ≡ None → Completes source before p text → FailsAt source p.at
stuck_at source before p text some g t reads = (
  before ++ [],
  reads [] (Fault p.at) (stuck some
      (λ s rest e h. none_some (sym g ∙ ap (gap_at p) e ∙ gap_at_reads p s rest h))
      (λ k s rest e h. none_found (sym t ∙ ap (token_at p) e ∙ token_reads p k s rest h))
      refl refl),
)
  where
    none_some : {r : List ℕ} → ◌≡◌ {A = Option (List ℕ)} None (Some r) → ⊥
    none_some {r} e = cc

    none_found : {x : Kind × List ℕ} → ◌≡◌ {A = Found} None (Some x) → ⊥
    none_found {x} e = cc

-- at the end of the text, what was read is all of it
pub ended : (source : List ℕ) (before : List Lexeme) (p : Place) (text : List ℕ) → text ≡ [] → Completes source before p text → Reads start source before (ending p.opened)
ended source before p text e reads = subst (λ (l : List Lexeme). Reads start source l (ending p.opened)) (append-nil before) (reads [] (ending p.opened) (ends e refl refl))

-- a refusal of code 11 at the place of failure is the lexical refusal
pub lexical_refusal : (source : List ℕ) (at : ℕ) (f : rh.Fault) → FailsAt source at → IfRefused f (IsRefusal 11 at (codes "lexical")) → IfRefused f (IsLexicalRefusal source)
lexical_refusal source at (faults.Refused r) fails h = (at, fails, h)
lexical_refusal source at (faults.Memory m) fails h = tt

-- at the end, where nothing is open, the text is read whole
pub whole_text : (source : List ℕ) (before : List Lexeme) (p : Place) (text : List ℕ) → text ≡ [] → Completes source before p text → ending p.opened ≡ Whole → Reads start source before Whole
whole_text source before p text e reads w = subst (λ e. Reads start source before e) w (ended source before p text e reads)

-- at the end, where something is open, the text fails there
pub unclosed_text : (source : List ℕ) (before : List Lexeme) (p : Place) (text : List ℕ) (at : ℕ) → text ≡ [] → Completes source before p text → ending p.opened ≡ Fault at → FailsAt source at
unclosed_text source before p text at e reads w = (before, subst (λ e. Reads start source before e) w (ended source before p text e reads))

-- a text of length 0 is empty
pub empty_text : (text : List ℕ) → (length text == 0) ≡ true → text ≡ []
empty_text [] h = refl
empty_text (b ∷ text) h = let n = eqb-true (length (b ∷ text)) 0 h in absurd (omega arith)

-- and one of another length isn't
pub some_text : (text : List ℕ) → (length text == 0) ≡ false → text ≢ []
some_text text h e = eqb-false (length text) 0 h (ap length e)
