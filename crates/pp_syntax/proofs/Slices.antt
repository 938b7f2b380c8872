-- The texts of the tokens stand in the source at their places.
use Rattle.std.proofs.Common.{◌≡◌, ℕ, ◌+◌, ◌≤◌, List, [], ◌∷◌, ◌++◌, length, take, drop, refl, sym, ap, subst, ◌∙◌, arith, append_assoc, length-append}
use Rattle.std.specs.Prelude.{Result, Ok, Err, Vec, IfOk, IfErr, MatchResult}
use Rattle.std.specs.declared.alloc.Global.{Global}
use Rattle.rh_base.specs.declared.fault.Fault as rh
use Rattle.rh_base.specs.declared.fault.Fault.TheVariants as faults
use Rattle.rh_base.specs.Refused.{IfRefused}
use Rattle.pp_syntax.specs.declared.token.Token.{Token}
use Rattle.std.proofs.Math.Seq.{take-append_seam, drop-append_seam}
use Rattle.pp_syntax.specs.declared.token.Kind.{Kind}
use Rattle.pp_syntax.specs.declared.lexer.place.Place.{Place}
use Rattle.pp_syntax.specs.Opened.{Ending, Whole, Fault}
use Rattle.pp_syntax.specs.Tokens.{Lexeme}
use Rattle.pp_syntax.specs.Spelling.{Reads, ends, gap, token, stuck, start, behind, behind_gap, Spells, FailsAt}
use Rattle.pp_syntax.specs.Lexing.{lexemes_of, AreSlices, InOrder, IsLexicalRefusal}
use Rattle.pp_syntax.proofs.Readings.{one_reading}

-- tokens in order from a place are so from an earlier one
order_from : (a b : ℕ) (ts : List Lexeme) → a ≤ b → InOrder b ts → InOrder a ts
order_from a b [] h o = tt
order_from a b (t ∷ ts) h o = (omega (arith, o.0), o.1)

-- what stands between two parts of a source is what is cut out of it there
slice_here : (source before s rest : List ℕ) (at : ℕ) → source ≡ before ++ (s ++ rest) → length before ≡ at → take (length s) (drop at source) ≡ s
slice_here source before s rest at e size =
    ap (λ n. take (length s) (drop n source)) (sym size) ∙ ap (λ t. take (length s) (drop (length before) t)) e
    ∙ ap (take (length s)) (drop-append_seam before (s ++ rest)) ∙ take-append_seam s rest

-- the tokens are slices of the source, in order from a place on
abbrev Placed : List ℕ → ℕ → List Lexeme → Type 0
Placed source from ts = AreSlices source ts × InOrder from ts

-- no tokens are
none_placed : (source : List ℕ) (from : ℕ) (ts : List Lexeme) → ts ≡ [] → Placed source from ts
none_placed source from ts e = subst (λ (l : List Lexeme). Placed source from l) (sym e) (tt, tt)

-- a token that stands there is, with those behind it
token_placed : (source before s rest : List ℕ) (k : Kind) (at : ℕ) (ts more : List Lexeme) → source ≡ before ++ (s ++ rest) → length before ≡ at → ts ≡ record { kind = k; text = s; at = at } ∷ more → Placed source (at + length s) more → Placed source at ts
token_placed source before s rest k at ts more e size is h =
    subst (λ (l : List Lexeme). Placed source at l) (sym is) ((slice_here source before s rest at e size, h.0), (omega arith, h.1))

-- what stands behind a text and a front stands behind both
longer : (source before text s rest : List ℕ) → source ≡ before ++ text → text ≡ s ++ rest → source ≡ (before ++ s) ++ rest
longer source before text s rest e f = e ∙ ap (λ t. before ++ t) f ∙ sym (append_assoc before s rest)

-- the tokens that are read from a place on are slices of the source, in order
placed : (source before : List ℕ) (p : Place) (text : List ℕ) (ts : List Lexeme) (e : Ending) → source ≡ before ++ text → length before ≡ p.at → Reads p text ts e → Placed source p.at ts
placed source before p text ts e w size (ends a b c) = none_placed source p.at ts b
placed source before p text ts e w size (gap s rest a b c) =
    let h = placed source (before ++ s) (behind_gap p s) rest ts e (longer source before text s rest w a) (omega (arith, size, length-append before s)) c in
    (h.0, order_from p.at (p.at + length s) ts (omega arith) h.1)
placed source before p text ts e w size (token k s rest more a b c d) =
    let h = placed source (before ++ s) (behind p k s) rest more e (longer source before text s rest w a) (omega (arith, size, length-append before s)) d in
    token_placed source before s rest k p.at ts more (w ∙ ap (λ t. before ++ t) a) size c h
placed source before p text ts e w size (stuck a b c d f) = none_placed source p.at ts d

-- each token of a source stands in it at its place
pub slices : (source : List ℕ) (ts : List Lexeme) → Spells source ts → AreSlices source ts
slices source ts h = (placed source [] start source ts Whole refl refl h).0

-- the tokens of a source stand in order
pub order : (source : List ℕ) (ts : List Lexeme) → Spells source ts → InOrder 0 ts
order source ts h = (placed source [] start source ts Whole refl refl h).1

-- ---- one answer

-- a source spells one list of tokens at most
pub same_tokens : (source : List ℕ) (ts us : List Lexeme) → Spells source ts → Spells source us → ts ≡ us
same_tokens source ts us a b = (one_reading start source ts us Whole Whole a b).0

-- a source that spells tokens fails nowhere
pub no_failure : (source : List ℕ) (ts : List Lexeme) (at : ℕ) → Spells source ts → FailsAt source at → ⊥
no_failure source ts at a b = let same = (one_reading start source ts b.0 Whole (Fault at) a b.1).1 in cc

-- a source fails at one place at most
pub same_failure : (source : List ℕ) (m n : ℕ) → FailsAt source m → FailsAt source n → m ≡ n
same_failure source m n a b = let same = (one_reading start source a.0 b.0 (Fault m) (Fault n) a.1 b.1).1 in cc

-- ---- the answer

-- tokens that are answered stand in the text at their places
pub ok_slices : (source text : List ℕ) (r : Result (Vec Token Global) rh.Fault) → source ≡ text → IfOk r (λ v. Spells source (lexemes_of v.items)) → IfOk r (λ v. AreSlices text (lexemes_of v.items))
ok_slices source text (Ok v) e h = slices text (lexemes_of v.items) (subst (λ (t : List ℕ). Spells t (lexemes_of v.items)) e h)
ok_slices source text (Err f) e h = tt

-- tokens that are answered stand in order
pub ok_order : (source : List ℕ) (r : Result (Vec Token Global) rh.Fault) → IfOk r (λ v. Spells source (lexemes_of v.items)) → IfOk r (λ v. InOrder 0 (lexemes_of v.items))
ok_order source (Ok v) h = order source (lexemes_of v.items) h
ok_order source (Err f) h = tt

-- where a source spells tokens, no lexical refusal is answered
not_refused : (source : List ℕ) (ts : List Lexeme) (f : rh.Fault) → Spells source ts → IfRefused f (IsLexicalRefusal source) → IfRefused f (λ r. ⊥)
not_refused source ts (faults.Refused r) h i = no_failure source ts i.0 h i.1
not_refused source ts (faults.Memory m) h i = tt

-- the tokens that a text spells are those that are answered, and no refusal is
pub only_these : (source text : List ℕ) (r : Result (Vec Token Global) rh.Fault) → source ≡ text → IfOk r (λ v. Spells source (lexemes_of v.items)) → IfErr r (λ e. IfRefused e (IsLexicalRefusal source))
    → (ts : List Lexeme) → Spells text ts → MatchResult r (λ v. lexemes_of v.items ≡ ts) (λ e. IfRefused e (λ r. ⊥))
only_these source text (Ok v) e h i ts s = same_tokens source (lexemes_of v.items) ts h (subst (λ (t : List ℕ). Spells t ts) (sym e) s)
only_these source text (Err f) e h i ts s = not_refused source ts f (subst (λ (t : List ℕ). Spells t ts) (sym e) s) i
