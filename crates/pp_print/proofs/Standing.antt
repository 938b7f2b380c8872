-- The tokens that a text spells stand in it.
use Rattle.std.proofs.Common.{◌≡◌, inl, inr, ℕ, ◌<◌, ◌^◌, Bool, true, false, cond, ◌||◌, ◌==◌, List, [], ◌∷◌, ◌++◌, refl, sym, ap, subst, ◌∙◌}
use Rattle.std.specs.Prelude.{codes}
use Rattle.std.specs.List.{AllByRecursion}
use Rattle.std.specs.Str.{bytes_eq}
use Rattle.std.proofs.lemmas.Bool.{ne_eqb, both_ways, or_parts}
use Rattle.pp_syntax.specs.declared.token.Kind.{Kind}
use Rattle.pp_syntax.specs.declared.token.Kind.TheVariants as kind
use Rattle.pp_syntax.specs.declared.lexer.place.Place.{Place}
use Rattle.pp_syntax.specs.declared.lexer.bytes.Style.TheVariants as style
use Rattle.pp_syntax.specs.Bytes.{is_name}
use Rattle.pp_syntax.specs.Opened.{in_quotes, in_hole, Ending}
use Rattle.pp_syntax.specs.Tokens.{Lexeme, Of, begins, Segment, Joined, one, another, Name, Spelling, int_value}
use Rattle.pp_syntax.specs.Spelling.{Fits, NumberStands, kind_at, TokenAt, Reads, ends, gap, token, stuck, Spells}
use Rattle.pp_print.specs.Words.{has_dash}
use Rattle.pp_print.proofs.Phrases.{Stands, AllStand}

-- ---- no dash in the name of a variable

-- letters, digits and `_` are no dash
no_dash_name : (b : ℕ) → is_name b ≡ true → (b == 45) ≡ false
no_dash_name b h = ne_eqb b 45 (λ e. both_ways (is_name b) (ap is_name e) h)

-- nor is what begins the name of a variable
no_dash_first : (b : ℕ) → begins style.Var b ≡ true → (b == 45) ≡ false
no_dash_first b h = ne_eqb b 45 (λ e. both_ways (begins style.Var b) (ap (begins style.Var) e) h)

-- a text of letters, digits and `_` has no dash
no_dash_all : (s : List ℕ) → Of is_name s → has_dash s ≡ false
no_dash_all [] h = refl
no_dash_all (b ∷ s) h = ap (λ v. v || has_dash s) (no_dash_name b h.0) ∙ no_dash_all s h.1

-- a segment of a variable's name has none
no_dash_segment : (s : List ℕ) → Segment style.Var s → has_dash s ≡ false
no_dash_segment [] h = absurd h
no_dash_segment (b ∷ s) h = ap (λ v. v || has_dash s) (no_dash_first b h.0) ∙ no_dash_all s h.1

-- two texts without a dash make one without
no_dash_append : (s t : List ℕ) → has_dash s ≡ false → has_dash t ≡ false → has_dash (s ++ t) ≡ false
no_dash_append [] t h k = k
no_dash_append (b ∷ s) t h k =
    let neither = or_parts (b == 45) (has_dash s) h in
    ap (λ v. v || has_dash (s ++ t)) neither.0 ∙ no_dash_append s t neither.1 k

-- segments of a variable's name have none
no_dash_joined : (s : List ℕ) → Joined style.Var s → has_dash s ≡ false
no_dash_joined s (one h) = no_dash_segment s h
no_dash_joined s (another front back h more e) = ap has_dash e ∙ no_dash_append front (58 ∷ 58 ∷ back) (no_dash_segment front h) (no_dash_joined back more)

-- a variable has none
no_dash : (s name : List ℕ) → s ≡ 36 ∷ name → Name style.Var name → has_dash s ≡ false
no_dash s name e (inl h) = ap has_dash e ∙ no_dash_joined name h
no_dash s name e (inr h) = ap has_dash e ∙ ap has_dash h.1 ∙ no_dash_joined h.0 h.2

-- ---- each token

-- Words, references and variables are spelled as such, a keyword is one, and a number fits 64 bits with a sign.
abbrev pub Sound : Kind → List ℕ → Type 0
Sound kind.Word s = Spelling kind.Word s
Sound kind.Keyword s = Spelling kind.Keyword s
Sound kind.Ref s = Spelling kind.Ref s
Sound kind.Var s = Spelling kind.Var s
Sound kind.DqVar s = Spelling kind.Var s
Sound kind.Int s = int_value s < 2 ^ 63
Sound _ s = Unit {0}

-- each token is sound
abbrev pub AllSound : List Lexeme → Type 0
AllSound ts = AllByRecursion (λ t. Sound t.kind t.text) ts

-- a token that is sound stands as its kind says
pub sound_stands : (k : Kind) (s : List ℕ) → Sound k s → Stands k s
sound_stands kind.Word s h = h.1
sound_stands kind.Ref s h = tt
sound_stands kind.Var s h = no_dash s h.0 h.1 h.2
sound_stands kind.Int s h = h
sound_stands kind.Float s h = tt
sound_stands kind.Sq s h = tt
sound_stands kind.DqOpen s h = tt
sound_stands kind.DqText s h = tt
sound_stands kind.DqVar s h = no_dash s h.0 h.1 h.2
sound_stands kind.Hole s h = tt
sound_stands kind.HoleEnd s h = tt
sound_stands kind.DqClose s h = tt
sound_stands kind.Tight s h = tt
sound_stands kind.Loose s h = tt
sound_stands kind.Keyword s h = h
sound_stands kind.Sign s h = tt
sound_stands kind.LeftOut s h = tt

-- so do all that are
all_stand : (ts : List Lexeme) → AllSound ts → AllStand ts
all_stand [] h = tt
all_stand (t ∷ ts) h = (sound_stands t.kind t.text h.0, all_stand ts h.1)

-- a spelling is sound, if it is no number that can't stand there
spelled_sound : (q : Bool) (k : Kind) (s rest : List ℕ) → Fits q k s rest → NumberStands k s rest → Sound k s
spelled_sound false kind.Word s rest h n = h.0
spelled_sound false kind.Ref s rest h n = h.0
spelled_sound false kind.Var s rest h n = h.0
spelled_sound false kind.Int s rest h n = n.0
spelled_sound false kind.Float s rest h n = tt
spelled_sound false kind.Sq s rest h n = tt
spelled_sound false kind.DqOpen s rest h n = tt
spelled_sound false kind.DqText s rest h n = tt
spelled_sound false kind.DqVar s rest h n = absurd h.0
spelled_sound false kind.Hole s rest h n = tt
spelled_sound false kind.HoleEnd s rest h n = tt
spelled_sound false kind.DqClose s rest h n = tt
spelled_sound false kind.Tight s rest h n = tt
spelled_sound false kind.Loose s rest h n = tt
spelled_sound false kind.Keyword s rest h n = h.0
spelled_sound false kind.Sign s rest h n = tt
spelled_sound false kind.LeftOut s rest h n = tt
spelled_sound true kind.Word s rest h n = absurd h
spelled_sound true kind.Ref s rest h n = absurd h
spelled_sound true kind.Var s rest h n = absurd h
spelled_sound true kind.Int s rest h n = absurd h
spelled_sound true kind.Float s rest h n = tt
spelled_sound true kind.Sq s rest h n = tt
spelled_sound true kind.DqOpen s rest h n = tt
spelled_sound true kind.DqText s rest h n = tt
spelled_sound true kind.DqVar s rest h n = h
spelled_sound true kind.Hole s rest h n = tt
spelled_sound true kind.HoleEnd s rest h n = tt
spelled_sound true kind.DqClose s rest h n = tt
spelled_sound true kind.Tight s rest h n = tt
spelled_sound true kind.Loose s rest h n = tt
spelled_sound true kind.Keyword s rest h n = absurd h
spelled_sound true kind.Sign s rest h n = tt
spelled_sound true kind.LeftOut s rest h n = tt

-- a bracket is sound, whatever kind it is told to be
by_bracket : (s : List ℕ) (a b c d : Bool) → Sound (cond a (cond b kind.Tight kind.Loose) (cond c (cond d kind.HoleEnd kind.Sign) kind.Sign)) s
by_bracket s true true c d = tt
by_bracket s true false c d = tt
by_bracket s false b true true = tt
by_bracket s false b true false = tt
by_bracket s false b false d = tt

-- a token is sound where it stands
kind_sound : (p : Place) (k : Kind) (s : List ℕ) → Sound k s → Sound (kind_at p k s) s
kind_sound p kind.Sign s h = by_bracket s (bytes_eq s (codes "[")) p.tight (bytes_eq s (codes "}")) (in_hole p.opened)
kind_sound p kind.Word s h = h
kind_sound p kind.Ref s h = h
kind_sound p kind.Var s h = h
kind_sound p kind.Int s h = h
kind_sound p kind.Float s h = h
kind_sound p kind.Sq s h = h
kind_sound p kind.DqOpen s h = h
kind_sound p kind.DqText s h = h
kind_sound p kind.DqVar s h = h
kind_sound p kind.Hole s h = h
kind_sound p kind.HoleEnd s h = h
kind_sound p kind.DqClose s h = h
kind_sound p kind.Tight s h = h
kind_sound p kind.Loose s h = h
kind_sound p kind.Keyword s h = h
kind_sound p kind.LeftOut s h = h

-- the token at a place is sound
token_sound : (p : Place) (k : Kind) (s rest : List ℕ) → TokenAt p k s rest → Sound k s
token_sound p k s rest h = subst (λ (j : Kind). Sound j s) (sym h.kind_is) (kind_sound p h.spelled s (spelled_sound (in_quotes p.opened) h.spelled s rest h.longest.fits h.number))

-- tokens that are read are sound
read_sound : (p : Place) (text : List ℕ) (tokens : List Lexeme) (e : Ending) → Reads p text tokens e → AllSound tokens
read_sound p text tokens e (ends a b c) = subst (λ (ts : List Lexeme). AllSound ts) (sym b) tt
read_sound p text tokens e (gap s rest a b r) = read_sound _ rest tokens e r
read_sound p text tokens e (token k s rest more a b c r) = subst (λ (ts : List Lexeme). AllSound ts) (sym c) (token_sound p k s rest b, read_sound _ rest more e r)
read_sound p text tokens e (stuck a b c d f) = subst (λ (ts : List Lexeme). AllSound ts) (sym d) tt

-- tokens that a text spells are sound
pub all_sound : (text : List ℕ) (tokens : List Lexeme) → Spells text tokens → AllSound tokens
all_sound text tokens h = read_sound _ text tokens _ h

-- and stand as their kinds say
pub spelled_stand : (text : List ℕ) (tokens : List Lexeme) → Spells text tokens → AllStand tokens
spelled_stand text tokens h = all_stand tokens (all_sound text tokens h)
