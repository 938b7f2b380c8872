-- Tokens that have given words: how they are taken apart, and how they spell a list again.
use Rattle.std.proofs.Common.{◌≡◌, inl, ℕ, ◌<◌, ◌^◌, true, false, List, [], ◌∷◌, ◌++◌, map, refl, sym, ap, subst, ◌∙◌, append_assoc, append-nil, length, length-append, arith}
use Rattle.std.specs.List.{AllByRecursion, flat_map, join_by}
use Rattle.pp_syntax.specs.declared.token.Kind.{Kind}
use Rattle.pp_syntax.specs.declared.token.Kind.TheVariants as kind
use Rattle.pp_syntax.specs.Tokens.{Lexeme, is_among, keywords, int_value}
use Rattle.pp_syntax.specs.Phrases.{◌then◌, Some, Each, Separated, Listed, MaybeListed, Comma}
use Rattle.pp_print.specs.declared.words.Word.{Word}
use Rattle.pp_print.specs.Words.{word, comma, has_dash, listed}
pub use Rattle.pp_print.specs.Words.{words_in}

-- which tokens spell something
abbrev pub Phrase : Type 1
Phrase = List Lexeme → Type 0

-- ---- taken apart

-- the tokens cut where the words of the first part end
pub record Parts (us : List Lexeme) (a b : List Word) : Type 0 where
  pub front : List Lexeme
  pub back : List Lexeme
  pub first : words_in front ≡ a
  pub second : words_in back ≡ b
  pub whole : us ≡ front ++ back

-- with one token more in front they are cut behind that
parts_behind : (t : Lexeme) (us : List Lexeme) (w : Word) (a b : List Word) → ◌≡◌ {A = Word} (record { kind = t.kind; text = t.text }) w → Parts us a b → Parts (t ∷ us) (w ∷ a) b
parts_behind t us w a b same p = record {
  front = t ∷ p.front;
  back = p.back;
  first = ap (λ (v : Word). v ∷ words_in p.front) same ∙ ap (λ (r : List Word). w ∷ r) p.first;
  second = p.second;
  whole = ap (λ (r : List Lexeme). t ∷ r) p.whole;
}

-- tokens with the words of two parts can be cut between them
pub parts : (us : List Lexeme) (a b : List Word) → words_in us ≡ a ++ b → Parts us a b
parts us [] b h = record { front = []; back = us; first = refl; second = h; whole = refl }
parts [] (w ∷ a) b h = cc
parts (t ∷ us) (w ∷ a) b h =
    let head : ◌≡◌ {A = Word} (record { kind = t.kind; text = t.text }) w = cc in
    let tail : words_in us ≡ a ++ b = cc in
    parts_behind t us w a b head (parts us a b tail)

-- tokens with no words are none
pub no_word : (us : List Lexeme) → words_in us ≡ [] → us ≡ []
no_word [] h = refl
no_word (t ∷ us) h = cc

-- tokens with one word are one token
pub one_word : (k : Kind) (s : List ℕ) (us : List Lexeme) → words_in us ≡ word k s → Some k s us
one_word k s [] h = cc
one_word k s (t ∷ u ∷ us) h = cc
one_word k s (t ∷ []) h =
    let same : ◌≡◌ {A = Word} (record { kind = t.kind; text = t.text }) (record { kind = k; text = s }) = cc in
    (t.at, ap (λ (w : Word). record { kind = w.kind; text = w.text; at = t.at } ∷ []) same)

-- two parts that spell two phrases spell both
pub together : (A B : Phrase) (us : List Lexeme) (a b : List Word) (p : Parts us a b) → A p.front → B p.back → (A then B) us
together A B us a b p first second = record { front = p.front; back = p.back; first = first; second = second; whole = p.whole }

-- ---- tokens that stand in a text

-- A word is no keyword, a keyword is one, a variable's name has no dash, and a number fits 64 bits with a sign.
abbrev pub Stands : Kind → List ℕ → Type 0
Stands kind.Word s = is_among keywords s ≡ false
Stands kind.Keyword s = is_among keywords s ≡ true
Stands kind.Var s = has_dash s ≡ false
Stands kind.DqVar s = has_dash s ≡ false
Stands kind.Int s = int_value s < 2 ^ 63
Stands _ s = Unit {0}

-- each token stands as its kind says
abbrev pub AllStand : List Lexeme → Type 0
AllStand ts = AllByRecursion (λ t. Stands t.kind t.text) ts

-- They stand in a text, and are fewer than d.
abbrev pub Small : ℕ → List Lexeme → Type 0
Small d ts = AllStand ts × (length ts < d)

-- of tokens that stand so do both parts
pub both_stand : (ts us : List Lexeme) → AllStand (ts ++ us) → AllStand ts × AllStand us
both_stand [] us h = (tt, h)
both_stand (t ∷ ts) us h = let r = both_stand ts us h.1 in ((h.0, r.0), r.1)

-- and of small ones both are small
pub both_small : (d : ℕ) (ts us whole : List Lexeme) → whole ≡ ts ++ us → Small d whole → Small d ts × Small d us
both_small d ts us whole e h =
    let r = both_stand ts us (subst (λ (r : List Lexeme). AllStand r) e h.0) in
    ((r.0, omega (arith, h.1, ap length e, length-append ts us)), (r.1, omega (arith, h.1, ap length e, length-append ts us)))

-- so it is of the two phrases that they spell
pub parts_stand : (d : ℕ) (A B : Phrase) (ts : List Lexeme) (h : (A then B) ts) → Small d ts → Small d h.front × Small d h.back
parts_stand d A B ts h good = both_small d h.front h.back ts h.whole good

-- ---- lists

-- What is spelled by the one rule is spelled by the other in any tokens with its words, the same but for what h takes away.
module _ (n : ℕ) {X Y : Type 0} (A B : X → List Lexeme → Type 0) (f : X → List Word) (h : X → Y) where
  -- these tokens spell something that is the same in what h keeps
  abbrev pub Renewed : X → List Lexeme → Type 0
  Renewed x us = (y : X) × B y us × (h x ≡ h y)

  -- the words of a rule spell the other rule again
  abbrev pub Renews : Type 0
  Renews = (x : X) (ts : List Lexeme) → A x ts → Small n ts → (us : List Lexeme) → words_in us ≡ f x → Renewed x us

module _ (n : ℕ) {X Y : Type 0} (A B : X → List Lexeme → Type 0) (f : X → List Word) (h : X → Y) (again : Renews n A B f h) (S T : Phrase) (sep : List Word) (between : (us : List Lexeme) → words_in us ≡ sep → T us) where
  -- the words of items behind their signs spell them again
  pub each_again : (xs : List X) (ts : List Lexeme) → Each S A xs ts → Small n ts → (us : List Lexeme) → words_in us ≡ flat_map (λ x. sep ++ f x) xs → (ys : List X) × Each T B ys us × (map h xs ≡ map h ys)
  each_again [] ts d good us w = ([], no_word us w, refl)
  each_again (x ∷ xs) ts d good us w =
      let p = parts us (sep ++ f x) (flat_map (λ x. sep ++ f x) xs) w in
      let q = parts p.front sep (f x) p.first in
      let g = parts_stand n S (A x then Each S A xs) ts d good in
      let k = parts_stand n (A x) (Each S A xs) d.back d.second g.1 in
      let here = again x d.second.front d.second.first k.0 q.back q.second in
      let rest = each_again xs d.second.back d.second.second k.1 p.back p.second in (
        here.0 ∷ rest.0,
        record {
          front = q.front;
          back = q.back ++ p.back;
          first = between q.front q.first;
          second = record { front = q.back; back = p.back; first = here.1; second = rest.1; whole = refl };
          whole = p.whole ∙ ap (λ (r : List Lexeme). r ++ p.back) q.whole ∙ append_assoc q.front q.back p.back;
        },
        ap (λ (y : Y). y ∷ map h xs) here.2 ∙ ap (λ (r : List Y). h here.0 ∷ r) rest.2,
      )

  -- so do those of items with signs between them
  pub separated_again : (xs : List X) (ts : List Lexeme) → Separated S A xs ts → Small n ts → (us : List Lexeme) → words_in us ≡ join_by f sep xs → (ys : List X) × Separated T B ys us × (map h xs ≡ map h ys)
  separated_again [] ts d good us w = absurd d
  separated_again (x ∷ xs) ts d good us w =
      let p = parts us (f x) (flat_map (λ x. sep ++ f x) xs) w in
      let g = parts_stand n (A x) (Each S A xs) ts d good in
      let here = again x d.front d.first g.0 p.front p.first in
      let rest = each_again xs d.back d.second g.1 p.back p.second in (
        here.0 ∷ rest.0,
        record { front = p.front; back = p.back; first = here.1; second = rest.1; whole = p.whole },
        ap (λ (y : Y). y ∷ map h xs) here.2 ∙ ap (λ (r : List Y). h here.0 ∷ r) rest.2,
      )

module _ (n : ℕ) {X Y : Type 0} (A B : X → List Lexeme → Type 0) (f : X → List Word) (h : X → Y) (again : Renews n A B f h) where
  -- the word of a comma spells it
  is_comma : (us : List Lexeme) → words_in us ≡ comma → Comma us
  is_comma us w = one_word kind.Sign (44 ∷ []) us w

  -- The comma at the end is left out.
  pub listed_again : (xs : List X) (ts : List Lexeme) → Listed A xs ts → Small n ts → (us : List Lexeme) → words_in us ≡ listed f xs → (ys : List X) × Listed B ys us × (map h xs ≡ map h ys)
  listed_again xs ts d good us w =
      let g = both_small n d.front d.back ts d.whole good in
      let s = separated_again n A B f h again Comma Comma comma is_comma xs d.front d.first g.0 us w in
      (s.0, record { front = us; back = []; first = s.1; second = inl refl; whole = sym (append-nil us) }, s.2)

  -- the words of a list, or of none, spell it again
  pub maybe_listed_again : (xs : List X) (ts : List Lexeme) → MaybeListed A xs ts → Small n ts → (us : List Lexeme) → words_in us ≡ listed f xs → (ys : List X) × MaybeListed B ys us × (map h xs ≡ map h ys)
  maybe_listed_again [] ts d good us w = ([], no_word us w, refl)
  maybe_listed_again (x ∷ xs) ts d good us w = some (listed_again (x ∷ xs) ts d good us w)
    where
      some : (r : (ys : List X) × Listed B ys us × (map h (x ∷ xs) ≡ map h ys)) → (ys : List X) × MaybeListed B ys us × (map h (x ∷ xs) ≡ map h ys)
      some ([], l, same) = cc
      some (y ∷ ys, l, same) = (y ∷ ys, l, same)
