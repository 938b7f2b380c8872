-- Tokens whose words may stand one behind the other have none among them that this language leaves out.
use Rattle.std.proofs.Common.{◌≡◌, ◌⊎◌, inl, inr, ℕ, Bool, true, false, cond, List, [], ◌∷◌, ◌++◌, refl, sym, ap, subst, ◌∙◌}
use Rattle.std.specs.Prelude.{codes}
use Rattle.std.specs.Str.{bytes_eq}
use Rattle.std.proofs.lemmas.Bool.{or_cases}
use Rattle.std.proofs.lemmas.Slice.Eq.{bytes_eq-Decides}
use Rattle.pp_syntax.specs.declared.token.Kind.{Kind}
use Rattle.pp_syntax.specs.declared.token.Kind.TheVariants as kind
use Rattle.pp_syntax.specs.Tokens.{Lexeme, is_among}
use Rattle.pp_syntax.specs.Statements.{functions}
use Rattle.pp_syntax.specs.LeftOut.{IsNowhere, BeginsWith, NamesFollow, IsLeftOut}
use Rattle.pp_syntax.specs.LeftOut as rule
use Rattle.pp_print.specs.Words.{words_in}
use Rattle.pp_print.proofs.Walks.{Mark, Last, Held, Closed, Called, Star, Heading, Other, is_heading, is_free, is_done, SignStands, May, opened_by, last_of, Walks}

-- ---- which words are headings

-- what is among `class` and `define` is one of them
is_class : (s : List ℕ) → is_among (codes "class" ∷ codes "define" ∷ []) s ≡ true → (s ≡ codes "class") ⊎ (s ≡ codes "define")
is_class s h = elim (or_cases (bytes_eq (codes "class") s) (is_among (codes "define" ∷ []) s) h) [
  | inl e ↦ inl (sym ((bytes_eq-Decides (codes "class") s).0 e))
  | inr e ↦ elim (or_cases (bytes_eq (codes "define") s) false e) [ inl f ↦ inr (sym ((bytes_eq-Decides (codes "define") s).0 f)) | inr f ↦ cc ]
]

-- a keyword that is told to be `class` or `define` is
heading_test : (a : Bool) → is_heading (cond a Heading Other) ≡ true → a ≡ true
heading_test true h = refl
heading_test false h = cc

-- a word isn't told to be one
no_called : (a b : Bool) → is_heading (cond a Closed (cond b Closed Called)) ≡ true → ⊥
no_called true b h = cc
no_called false true h = cc
no_called false false h = cc

-- nor is a sign
no_sign : (a b : Bool) → is_heading (cond a Closed (cond b Star Other)) ≡ true → ⊥
no_sign true b h = cc
no_sign false true h = cc
no_sign false false h = cc

-- this token is `class` or `define`
abbrev IsHeading : Kind → List ℕ → Type 0
IsHeading k s = (k ≡ kind.Keyword) × ((s ≡ codes "class") ⊎ (s ≡ codes "define"))

-- what is told to be `class` or `define` behind a word is that word
heading_is : (l : Last) (k : Kind) (s : List ℕ) → is_heading (last_of l k s) ≡ true → IsHeading k s
heading_is l kind.Keyword s h = (refl, is_class s (heading_test (is_among (codes "class" ∷ codes "define" ∷ []) s) h))
heading_is l kind.Word s h = absurd (no_called (is_heading l) (is_among functions s) h)
heading_is l kind.Sign s h = absurd (no_sign (is_among (codes ")" ∷ codes "]" ∷ []) s) (bytes_eq s (codes "*")) h)
heading_is l kind.DqClose s h = cc
heading_is l kind.HoleEnd s h = cc
heading_is l kind.DqOpen s h = cc
heading_is l kind.Hole s h = cc
heading_is l kind.Ref s h = cc
heading_is l kind.Var s h = cc
heading_is l kind.Int s h = cc
heading_is l kind.Float s h = cc
heading_is l kind.Sq s h = cc
heading_is l kind.DqText s h = cc
heading_is l kind.DqVar s h = cc
heading_is l kind.Tight s h = cc
heading_is l kind.Loose s h = cc
heading_is l kind.LeftOut s h = cc

-- ---- a token among the others

-- behind these tokens, which begin behind l, a name follows
abbrev Named : List Lexeme → Last → Type 0
Named [] l = is_heading l ≡ true
Named (t ∷ ts) l = NamesFollow (t ∷ ts)

-- where a name follows these tokens, it does so with one more in front
named_on : (t : Lexeme) (ts : List Lexeme) (l : Last) → Named ts (last_of l t.kind t.text) → NamesFollow (t ∷ ts)
named_on t [] l h = heading_is l t.kind t.text h
named_on t (u ∷ ts) l h = h

-- what may stand where this token is, and what its words leave to those behind
record Reached (before : List Lexeme) (u : Lexeme) (behind : List Lexeme) (l : Last) (st2 : List Mark) (l2 : Last) : Type 0 where
  there : List Mark
  last : Last
  may : May there last u.kind u.text
  more : Walks (opened_by u.kind u.text there) (last_of last u.kind u.text) (words_in behind) st2 l2
  heading : is_heading last ≡ true → Named before l

-- each token of a walk is reached so
reached : (before : List Lexeme) (u : Lexeme) (behind : List Lexeme) (st : List Mark) (l : Last) (st2 : List Mark) (l2 : Last) → Walks st l (words_in (before ++ u ∷ behind)) st2 l2 → Reached before u behind l st2 l2
reached [] u behind st l st2 l2 h = record { there = st; last = l; may = h.0; more = h.1; heading = λ e. e }
reached (t ∷ before) u behind st l st2 l2 h =
    let r = reached before u behind (opened_by t.kind t.text st) (last_of l t.kind t.text) st2 l2 h.1 in
    record { there = r.there; last = r.last; may = r.may; more = r.more; heading = λ e. named_on t before l (r.heading e) }

-- a sign that stands first behind the token may stand there
first_sign : (text : List ℕ) (behind : List Lexeme) (st : List Mark) (l : Last) (st2 : List Mark) (l2 : Last) → Walks st l (words_in behind) st2 l2 → BeginsWith text behind → SignStands st l text
first_sign text [] st l st2 l2 h b = absurd b
first_sign text (v ∷ more) st l st2 l2 h b =
    let may : May st l kind.Sign v.text = subst (λ (k : Kind). May st l k v.text) b.0 h.0 in
    subst (λ (s : List ℕ). SignStands st l s) b.1 may.1

-- ---- none is left out

-- where no name follows, none is told to from the beginning
not_first : (before : List Lexeme) → (NamesFollow before → ⊥) → Named before Held → ⊥
not_first [] n h = cc
not_first (t ∷ before) n h = n h

-- a word that is no function and no name is one that no `(` may follow
called : (l : Last) (s : List ℕ) → is_among functions s ≡ false → (is_heading l ≡ true → ⊥) → last_of l kind.Word s ≡ Called
called l s h n = by_heading (is_heading l) n
  where
    by_heading : (v : Bool) → (v ≡ true → ⊥) → cond v Closed (cond (is_among functions s) Closed Called) ≡ Called
    by_heading true k = absurd (k refl)
    by_heading false k = ap (λ w. cond w Closed Called) h

-- no token of such words is left out
none_here : (before : List Lexeme) (t : Lexeme) (behind : List Lexeme) (st2 : List Mark) (l2 : Last) → Reached before t behind Held st2 l2 → IsLeftOut before t behind → ⊥
none_here before t behind st2 l2 r (rule.sign k) = subst (λ (j : Kind). May r.there r.last j t.text) k r.may
none_here before t behind st2 l2 r (rule.float k) = subst (λ (j : Kind). May r.there r.last j t.text) k r.may
none_here before t behind st2 l2 r (rule.splat k s b) =
    let star : last_of r.last t.kind t.text ≡ Star = ap (λ (j : Kind). last_of r.last j t.text) k ∙ ap (λ (u : List ℕ). last_of r.last kind.Sign u) s in
    let stands = first_sign (codes "=>") behind (opened_by t.kind t.text r.there) (last_of r.last t.kind t.text) st2 l2 r.more b in
    let done : is_done Star ≡ true = ap is_done (sym star) ∙ stands.arrow refl in cc
none_here before t behind st2 l2 r (rule.function k f b n) =
    let is_called : last_of r.last t.kind t.text ≡ Called = ap (λ (j : Kind). last_of r.last j t.text) k ∙ called r.last t.text f (λ e. not_first before n (r.heading e)) in
    let stands = first_sign (codes "(") behind (opened_by t.kind t.text r.there) (last_of r.last t.kind t.text) st2 l2 r.more b in
    let free : is_free Called ≡ true = ap is_free (sym is_called) ∙ stands.paren refl in cc

-- none of them is
pub none_left_out : (us : List Lexeme) (l2 : Last) → Walks [] Held (words_in us) [] l2 → IsNowhere IsLeftOut us
none_left_out us l2 h before u behind e p =
    none_here before u behind [] l2 (reached before u behind [] Held [] l2 (subst (λ (ts : List Lexeme). Walks [] Held (words_in ts) [] l2) e h)) p
