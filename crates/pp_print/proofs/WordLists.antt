-- The words of a list, and of numbers and names, may stand one behind the other.
use Rattle.std.proofs.Common.{◌≡◌, inl, inr, ℕ, ◌<◌, ◌^◌, Bool, true, false, cond, ◌||◌, ◌==◌, List, [], ◌∷◌, ◌++◌, refl, sym, ap, subst, ◌∙◌}
use Rattle.std.proofs.lemmas.Bool.{or_parts}
use Rattle.std.specs.Prelude.{codes, pos, decimal}
use Rattle.std.specs.List.{AllByRecursion, flat_map, join_by}
use Rattle.pp_syntax.specs.declared.token.Kind.{Kind}
use Rattle.pp_syntax.specs.declared.token.Kind.TheVariants as kind
use Rattle.pp_syntax.specs.declared.lexer.bytes.Style.TheVariants as style
use Rattle.pp_syntax.specs.Bytes.{is_name}
use Rattle.pp_syntax.specs.Tokens.{Lexeme, Of, goes_on, Segment, Joined, one, another, Name, Spelling, is_among, keywords}
use Rattle.pp_syntax.specs.TokenValues.{SqOf, DqOf}
use Rattle.pp_syntax.specs.Phrases.{◌then◌, Token, Some, Comma, Each, Separated, Listed, MaybeListed}
use Rattle.pp_print.specs.declared.words.Word.{Word}
use Rattle.pp_print.specs.Words.{word, comma, number, variable, named, has_dash, listed}
use Rattle.pp_print.proofs.Decimals.{int_decimal, decimal_int}
use Rattle.pp_print.proofs.Phrases.{Phrase}
use Rattle.pp_print.proofs.Standing.{Sound, AllSound}
use Rattle.pp_print.proofs.Walks.{Last, is_closed, is_done, is_other, Other, Takes, seq, nothing, by_words, comma_takes, word_takes, variable_takes, keyword_takes}
use Rattle.pp_print.proofs.Walks as walks

-- ---- parts of what is sound

-- What a token stands for as a text is good.
abbrev pub GoodToken : (List ℕ → Type 0) → Kind → List ℕ → Type 0
GoodToken U kind.Sq s = (value : List ℕ) → SqOf value s → U value
GoodToken U kind.DqText s = (value : List ℕ) → DqOf value s → U value
GoodToken U kind.Word s = U s
GoodToken U _ s = Unit {0}

-- The tokens are sound, and what they stand for is good.
pub record Fine (U : List ℕ → Type 0) (ts : List Lexeme) : Type 0 where
  pub sound : AllSound ts
  pub good : AllByRecursion (λ t. GoodToken U t.kind t.text) ts
  pub empty : U []

-- where all tokens of two parts are fine, those of each are
both_fine : (U : List ℕ → Type 0) (ts us : List Lexeme) → Fine U (ts ++ us) → Fine U ts × Fine U us
both_fine U [] us h = (record { sound = tt; good = tt; empty = h.empty }, h)
both_fine U (t ∷ ts) us h =
    let r = both_fine U ts us (record { sound = h.sound.1; good = h.good.1; empty = h.empty }) in
    (record { sound = (h.sound.0, r.0.sound); good = (h.good.0, r.0.good); empty = h.empty }, r.1)

-- ---- variables

-- a text without a dash has none in either part
no_dash_both : (s t : List ℕ) → has_dash (s ++ t) ≡ false → (has_dash s ≡ false) × (has_dash t ≡ false)
no_dash_both [] t h = (refl, h)
no_dash_both (b ∷ s) t h =
    let neither = or_parts (b == 45) (has_dash (s ++ t)) h in
    let rest = no_dash_both s t neither.1 in
    (ap (λ v. v || has_dash s) neither.0 ∙ rest.0, rest.1)

-- what goes on with a word and is no dash is a letter, a digit or `_`
name_byte : (b : ℕ) → (is_name b || (b == 45)) ≡ true → (b == 45) ≡ false → is_name b ≡ true
name_byte b h n = by_name (is_name b) (sym (ap (λ v. is_name b || v) n) ∙ h)
  where
    by_name : (x : Bool) → (x || false) ≡ true → x ≡ true
    by_name true e = refl
    by_name false e = e

-- bytes of a word without a dash go on with the name of a variable
name_bytes : (s : List ℕ) → Of (goes_on style.Word) s → has_dash s ≡ false → Of (goes_on style.Var) s
name_bytes [] h n = tt
name_bytes (b ∷ s) h n =
    let r = no_dash_both (b ∷ []) s n in
    (name_byte b h.0 (first (b == 45) r.0), name_bytes s h.1 r.1)
  where
    first : (x : Bool) → (x || false) ≡ false → x ≡ false
    first true e = cc
    first false e = refl

-- a segment of a word without a dash is one of a variable's name
variable_segment : (s : List ℕ) → Segment style.Word s → has_dash s ≡ false → Segment style.Var s
variable_segment [] h n = absurd h
variable_segment (b ∷ s) h n = (h.0, name_bytes s h.1 (no_dash_both (b ∷ []) s n).1, h.2)

-- so are segments with `::` between them
variable_joined : (s : List ℕ) → Joined style.Word s → has_dash s ≡ false → Joined style.Var s
variable_joined s (one h) n = one (variable_segment s h n)
variable_joined s (another front back h more e) n =
    let r = no_dash_both front (58 ∷ 58 ∷ back) (sym (ap has_dash e) ∙ n) in
    another front back (variable_segment front h r.0) (variable_joined back more r.1) e

-- a word without a dash is the name of a variable
variable_name : (s : List ℕ) → Name style.Word s → has_dash s ≡ false → Name style.Var s
variable_name s (inl h) n = inl (variable_joined s h n)
variable_name s (inr h) n = inr (h.0, h.1, variable_joined h.0 h.2 (sym (ap has_dash h.1) ∙ n))

-- ---- names that may be keywords

-- a `=>` may follow a keyword
heading_done : (v : Bool) → is_done (cond v walks.Heading Other) ≡ true
heading_done true = refl
heading_done false = refl

module _ {U : List ℕ → Type 0} where
  -- where tokens are fine, both of their parts are
  pub halves_sound : (ts us whole : List Lexeme) → whole ≡ ts ++ us → Fine U whole → Fine U ts × Fine U us
  halves_sound ts us whole e h = both_fine U ts us (subst (λ (r : List Lexeme). Fine U r) e h)

  -- and so are the two phrases that they spell
  pub parts_sound : {A B : Phrase} {ts : List Lexeme} (d : (A then B) ts) → Fine U ts → Fine U d.front × Fine U d.back
  parts_sound {ts = ts} d h = halves_sound d.front d.back ts d.whole h

  -- a fine token is sound
  pub token_sound : (k : Kind) (s : List ℕ) (at : ℕ) (ts : List Lexeme) → Token k s at ts → Fine U ts → Sound k s
  token_sound k s at ts e h = (subst (λ (r : List Lexeme). Fine U r) e h).sound.0

  -- what a fine token stands for is good
  pub token_good : (k : Kind) (s : List ℕ) (at : ℕ) (ts : List Lexeme) → Token k s at ts → Fine U ts → GoodToken U k s
  token_good k s at ts e h = (subst (λ (r : List Lexeme). Fine U r) e h).good.0

  -- a fine token at any place is sound
  pub some_sound : (k : Kind) (s : List ℕ) (ts : List Lexeme) → Some k s ts → Fine U ts → Sound k s
  some_sound k s ts e h = token_sound k s e.0 ts e.1 h

  module _ {X : Type 0} (A : X → List Lexeme → Type 0) (f : X → List Word) (P Q : Last → Bool) (takes : (x : X) (ts : List Lexeme) → A x ts → Fine U ts → Takes U P Q (f x)) where
    module _ (S : Phrase) (sep : List Word) (between : Takes U Q P sep) where
      -- items behind their signs may stand, where each item and the signs may
      pub each_takes : (xs : List X) (ts : List Lexeme) → Each S A xs ts → Fine U ts → Takes U Q Q (flat_map (λ x. sep ++ f x) xs)
      each_takes [] ts d h = nothing Q Q (λ l q. q)
      each_takes (x ∷ xs) ts d h =
          let g = parts_sound d h in
          let k = parts_sound d.second g.1 in
          seq (seq between (takes x d.second.front d.second.first k.0)) (each_takes xs d.second.back d.second.second k.1)

      -- so may items with signs between them
      pub separated_takes : (xs : List X) (ts : List Lexeme) → Separated S A xs ts → Fine U ts → Takes U P Q (join_by f sep xs)
      separated_takes [] ts d h = absurd d
      separated_takes (x ∷ xs) ts d h =
          let g = parts_sound d h in
          seq (takes x d.front d.first g.0) (each_takes xs d.back d.second g.1)

    -- so may a list
    pub listed_takes : P Other ≡ true → (xs : List X) (ts : List Lexeme) → Listed A xs ts → Fine U ts → Takes U P Q (listed f xs)
    listed_takes next xs ts d h = separated_takes Comma comma (comma_takes Q P next) xs d.front d.first (parts_sound d h).0

    -- within brackets
    pub maybe_listed_takes : P Other ≡ true → Q Other ≡ true → (xs : List X) (ts : List Lexeme) → MaybeListed A xs ts → Fine U ts → Takes U is_other Q (listed f xs)
    maybe_listed_takes first next [] ts d h = nothing is_other Q (other_next Q next)
      where
        other_next : (R : Last → Bool) → R Other ≡ true → (l : Last) → is_other l ≡ true → R l ≡ true
        other_next R e walks.Held i = cc
        other_next R e walks.Closed i = cc
        other_next R e walks.Called i = cc
        other_next R e walks.Star i = cc
        other_next R e walks.Heading i = cc
        other_next R e walks.Other i = e
    maybe_listed_takes first next (x ∷ xs) ts d h = walks.narrow is_other (other_first P first) (listed_takes first (x ∷ xs) ts d h)
      where
        other_first : (R : Last → Bool) → R Other ≡ true → (l : Last) → is_other l ≡ true → R l ≡ true
        other_first R e walks.Held i = cc
        other_first R e walks.Closed i = cc
        other_first R e walks.Called i = cc
        other_first R e walks.Star i = cc
        other_first R e walks.Heading i = cc
        other_first R e walks.Other i = e

  -- a number that fits may stand
  pub number_takes : (P : Last → Bool) (n : ℕ) → n < 2 ^ 63 → Takes U P is_done (number (pos n))
  number_takes P n h = walks.one P is_done kind.Int (decimal n) (λ st. refl) (λ st out l p. (out, decimal_int n h, subst (λ m. m < 2 ^ 63) (sym (int_decimal n h)) h)) (λ l p. refl) tt

  -- a word that is read as a variable
  pub read_takes : (P : Last → Bool) (name : List ℕ) → Spelling kind.Word name → Takes U P is_closed (variable name)
  read_takes P name h = elim (has_dash name) as (λ b. has_dash name ≡ b → Takes U P is_closed (cond b (word kind.Word name) (word kind.Var (36 ∷ name)))) [
    | true ↦ λ e. word_takes P name h
    | false ↦ λ e. variable_takes P (36 ∷ name) (name, refl, variable_name name h.0 e)
  ] refl

  -- a word may stand as a name
  pub word_named : (P : Last → Bool) (name : List ℕ) → Spelling kind.Word name → Takes U P is_done (named name)
  word_named P name h = by_words (ap (λ b. word (cond b kind.Keyword kind.Word) name) h.1) (walks.loosen is_done walks.closed_done (word_takes P name h))

  -- so may a keyword
  pub keyword_named : (P : Last → Bool) (name : List ℕ) → is_among keywords name ≡ true → Takes U P is_done (named name)
  keyword_named P name h = by_words (ap (λ b. word (cond b kind.Keyword kind.Word) name) h) (keyword_takes P is_done name h (heading_done (is_among (codes "class" ∷ codes "define" ∷ []) name)))
