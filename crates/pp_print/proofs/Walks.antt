-- Words that may stand one behind the other: what each asks of those before it, and what it leaves behind.
use Rattle.std.proofs.Common.{◌≡◌, ℕ, ◌<◌, ◌^◌, Bool, true, false, cond, List, [], ◌∷◌, ◌++◌, refl, sym, ap, subst, ◌∙◌}
use Rattle.std.specs.Prelude.{codes, IsTrue}
use Rattle.std.specs.List.{AllByRecursion}
use Rattle.std.specs.Str.{bytes_eq}
use Rattle.std.proofs.lemmas.Bool.{both_ways}
use Rattle.pp_syntax.specs.declared.token.Kind.{Kind}
use Rattle.pp_syntax.specs.declared.token.Kind.TheVariants as kind
use Rattle.pp_syntax.specs.Tokens.{Spelling, IntText, int_value, is_among, signs, keywords}
use Rattle.pp_syntax.specs.Statements.{functions}
use Rattle.pp_print.specs.declared.words.Word.{Word}
use Rattle.pp_print.specs.Words.{word, sign, keyword, comma, quoted, escaped, in_parens, in_braces, in_tight, in_loose}
use Rattle.pp_print.proofs.Escapes.{escaped_reads}

-- what is open: double quotes, a `${` or a brace
pub data Mark : Type 0 where
  InText : Mark
  InHole : Mark
  InBrace : Mark

-- Held: no word, the `"` that opens a text, or the `}` that ends a `${`. Closed: a `[` directly behind is tight.
-- Called: the same, and it is a word that no `(` may follow. Star: `*`. Heading: `class` or `define`.
pub data Last : Type 0 where
  Held : Last
  Closed : Last
  Called : Last
  Star : Last
  Heading : Last
  Other : Last

-- ---- what is asked

-- not directly within double quotes
abbrev pub outside : List Mark → Bool
outside [] = true
outside (InText ∷ st) = false
outside (InHole ∷ st) = true
outside (InBrace ∷ st) = true

-- directly within double quotes
abbrev pub in_text : List Mark → Bool
in_text [] = false
in_text (InText ∷ st) = true
in_text (InHole ∷ st) = false
in_text (InBrace ∷ st) = false

-- directly within a `${`
abbrev pub in_hole : List Mark → Bool
in_hole [] = false
in_hole (InText ∷ st) = false
in_hole (InHole ∷ st) = true
in_hole (InBrace ∷ st) = false

-- directly within a brace
abbrev pub in_brace : List Mark → Bool
in_brace [] = false
in_brace (InText ∷ st) = false
in_brace (InHole ∷ st) = false
in_brace (InBrace ∷ st) = true

-- behind whatever word
abbrev pub any : Last → Bool
any l = true

-- no space stands behind it
abbrev pub is_held : Last → Bool
is_held Held = true
is_held Closed = false
is_held Called = false
is_held Star = false
is_held Heading = false
is_held Other = false

-- a `[` directly behind it is tight
abbrev pub is_closed : Last → Bool
is_closed Held = false
is_closed Closed = true
is_closed Called = true
is_closed Star = false
is_closed Heading = false
is_closed Other = false

-- it is `class` or `define`
abbrev pub is_heading : Last → Bool
is_heading Held = false
is_heading Closed = false
is_heading Called = false
is_heading Star = false
is_heading Heading = true
is_heading Other = false

-- A `(` may follow.
abbrev pub is_free : Last → Bool
is_free Held = true
is_free Closed = true
is_free Called = false
is_free Star = true
is_free Heading = true
is_free Other = true

-- A `=>` may follow.
abbrev pub is_done : Last → Bool
is_done Held = true
is_done Closed = true
is_done Called = true
is_done Star = false
is_done Heading = true
is_done Other = true

-- the sign may stand here
pub record SignStands (st : List Mark) (l : Last) (s : List ℕ) : Type 0 where
  pub among : IsTrue (is_among signs s)
  pub no_bracket : bytes_eq s (codes "[") ≡ false
  pub brace : bytes_eq s (codes "}") ≡ true → in_brace st ≡ true
  pub paren : bytes_eq s (codes "(") ≡ true → is_free l ≡ true
  pub arrow : bytes_eq s (codes "=>") ≡ true → is_done l ≡ true

-- The word may stand here.
abbrev pub May : List Mark → Last → Kind → List ℕ → Type 0
May st l kind.Word s = (outside st ≡ true) × Spelling kind.Word s
May st l kind.Keyword s = (outside st ≡ true) × Spelling kind.Keyword s
May st l kind.Ref s = (outside st ≡ true) × Spelling kind.Ref s
May st l kind.Var s = (outside st ≡ true) × Spelling kind.Var s
May st l kind.Int s = (outside st ≡ true) × IntText s × (int_value s < 2 ^ 63)
May st l kind.Sq s = (outside st ≡ true) × Spelling kind.Sq s
May st l kind.DqOpen s = (outside st ≡ true) × (s ≡ codes "\"")
May st l kind.Hole s = (in_text st ≡ true) × (is_held l ≡ true) × (s ≡ codes "${")
May st l kind.HoleEnd s = (in_hole st ≡ true) × (s ≡ codes "}")
May st l kind.DqClose s = (in_text st ≡ true) × (is_held l ≡ true) × (s ≡ codes "\"")
May st l kind.Tight s = (outside st ≡ true) × (is_closed l ≡ true) × (s ≡ codes "[")
May st l kind.Loose s = (outside st ≡ true) × (s ≡ codes "[")
May st l kind.Sign s = (outside st ≡ true) × SignStands st l s
May st l _ s = ⊥

-- ---- what is left behind

-- all that is open but the innermost
abbrev pub outer : List Mark → List Mark
outer [] = []
outer (m ∷ st) = st

-- what is open behind this word
abbrev pub opened_by : Kind → List ℕ → List Mark → List Mark
opened_by kind.DqOpen s st = InText ∷ st
opened_by kind.Hole s st = InHole ∷ st
opened_by kind.DqClose s st = outer st
opened_by kind.HoleEnd s st = outer st
opened_by kind.Sign s st = cond (bytes_eq s (codes "{")) (InBrace ∷ st) (cond (bytes_eq s (codes "}")) (outer st) st)
opened_by _ s st = st

-- what this word is for the one behind it
abbrev pub last_of : Last → Kind → List ℕ → Last
last_of l kind.Word s = cond (is_heading l) Closed (cond (is_among functions s) Closed Called)
last_of l kind.Ref s = Closed
last_of l kind.Var s = Closed
last_of l kind.Sq s = Closed
last_of l kind.DqClose s = Closed
last_of l kind.DqOpen s = Held
last_of l kind.HoleEnd s = Held
last_of l kind.Keyword s = cond (is_among (codes "class" ∷ codes "define" ∷ []) s) Heading Other
last_of l kind.Sign s = cond (is_among (codes ")" ∷ codes "]" ∷ []) s) Closed (cond (bytes_eq s (codes "*")) Star Other)
last_of l _ s = Other

-- From here these words may stand one behind the other, and leave that behind.
abbrev pub Walks : List Mark → Last → List Word → List Mark → Last → Type 0
Walks st l [] st2 l2 = (st ≡ st2) × (l ≡ l2)
Walks st l (w ∷ ws) st2 l2 = May st l w.kind w.text × Walks (opened_by w.kind w.text st) (last_of l w.kind w.text) ws st2 l2

-- two lists of words that may stand one behind the other make one
pub join : (st : List Mark) (l : Last) (a b : List Word) (st1 : List Mark) (l1 : Last) (st2 : List Mark) (l2 : Last) → Walks st l a st1 l1 → Walks st1 l1 b st2 l2 → Walks st l (a ++ b) st2 l2
join st l [] b st1 l1 st2 l2 h k = subst (λ s. Walks s l b st2 l2) (sym h.0) (subst (λ m. Walks st1 m b st2 l2) (sym h.1) k)
join st l (w ∷ a) b st1 l1 st2 l2 h k = (h.0, join (opened_by w.kind w.text st) (last_of l w.kind w.text) a b st1 l1 st2 l2 h.1 k)

-- ---- phrases

-- Texts in single quotes are written of texts of this sort.
abbrev pub GoodWord : (List ℕ → Type 0) → Kind → List ℕ → Type 0
GoodWord U kind.Sq s = (text : List ℕ) × (s ≡ 39 ∷ (escaped text ++ 39 ∷ [])) × U text
GoodWord U _ s = Unit {0}

-- what is quoted in the words is good
abbrev pub AllGood : (List ℕ → Type 0) → List Word → Type 0
AllGood U ws = AllByRecursion (λ w. GoodWord U w.kind w.text) ws

-- so it is in two lists one behind the other
pub both_good : (U : List ℕ → Type 0) (a b : List Word) → AllGood U a → AllGood U b → AllGood U (a ++ b)
both_good U [] b h k = k
both_good U (w ∷ a) b h k = (h.0, both_good U a b h.1 k)

-- Outside of double quotes, behind a word of the first sort, these words may stand, leave nothing open, and end with one of the second sort;
-- and what is quoted is good.
pub record Takes (U : List ℕ → Type 0) (P Q : Last → Bool) (ws : List Word) : Type 0 where
  pub walk : (st : List Mark) → outside st ≡ true → (l : Last) → P l ≡ true → (l2 : Last) × (Q l2 ≡ true) × Walks st l ws st l2
  pub good : AllGood U ws

-- a `=>` may follow where a `[` is tight
pub closed_done : (l : Last) → is_closed l ≡ true → is_done l ≡ true
closed_done Held h = cc
closed_done Closed h = refl
closed_done Called h = refl
closed_done Star h = cc
closed_done Heading h = cc
closed_done Other h = cc

-- it is none of the others
abbrev pub is_other : Last → Bool
is_other Held = false
is_other Closed = false
is_other Called = false
is_other Star = false
is_other Heading = false
is_other Other = true

-- behind such a word a `=>` may follow
pub other_done : (l : Last) → is_other l ≡ true → is_done l ≡ true
other_done Held h = cc
other_done Closed h = cc
other_done Called h = cc
other_done Star h = cc
other_done Heading h = cc
other_done Other h = refl

-- and a `(` may
pub other_free : (l : Last) → is_other l ≡ true → is_free l ≡ true
other_free Held h = cc
other_free Closed h = cc
other_free Called h = cc
other_free Star h = cc
other_free Heading h = cc
other_free Other h = refl

-- ---- single words

-- a sign that opens and closes nothing, and may stand behind any word
abbrev pub IsPlain : List ℕ → Type 0
IsPlain s = IsTrue (is_among signs s) × (bytes_eq s (codes "[") ≡ false) × (bytes_eq s (codes "}") ≡ false) × (bytes_eq s (codes "{") ≡ false) × (bytes_eq s (codes "(") ≡ false) × (bytes_eq s (codes "=>") ≡ false)

-- a sign that is no brace opens and closes nothing
no_brace : (s : List ℕ) (st : List Mark) → bytes_eq s (codes "{") ≡ false → bytes_eq s (codes "}") ≡ false → opened_by kind.Sign s st ≡ st
no_brace s st h k = ap (λ v. cond v (InBrace ∷ st) (cond (bytes_eq s (codes "}")) (outer st) st)) h ∙ ap (λ v. cond v (outer st) st) k

-- a `[` behind a word is tight
pub called_closed : (a b : Bool) → true ≡ is_closed (cond a Closed (cond b Closed Called))
called_closed true b = refl
called_closed false true = refl
called_closed false false = refl

-- ---- in brackets

module _ {U : List ℕ → Type 0} where
  -- words that may stand, and words that may behind them, may stand together
  pub seq : {P Q R : Last → Bool} {a b : List Word} → Takes U P Q a → Takes U Q R b → Takes U P R (a ++ b)
  seq {a = a} {b = b} f g = record {
    walk = λ st out l p.
        let x = f.walk st out l p in
        let y = g.walk st out x.0 x.1 in
        (y.0, y.1, join st l a b st x.0 st y.0 x.2 y.2);
    good = both_good U a b f.good g.good;
  }

  -- no words may stand, where what was there before is enough behind them
  pub nothing : (P Q : Last → Bool) → ((l : Last) → P l ≡ true → Q l ≡ true) → Takes U P Q []
  nothing P Q f = record { walk = λ st out l p. (l, f l p, (refl, refl)); good = tt }

  -- what may stand behind more words may stand behind fewer
  pub narrow : (P : Last → Bool) {Q R : Last → Bool} {ws : List Word} → ((l : Last) → P l ≡ true → Q l ≡ true) → Takes U Q R ws → Takes U P R ws
  narrow P f h = record { walk = λ st out l p. h.walk st out l (f l p); good = h.good }

  -- and what ends with fewer sorts of words ends with one of more
  pub loosen : {P Q : Last → Bool} (R : Last → Bool) {ws : List Word} → ((l : Last) → Q l ≡ true → R l ≡ true) → Takes U P Q ws → Takes U P R ws
  loosen R f h = record { walk = λ st out l p. let x = h.walk st out l p in (x.0, f x.0 x.1, x.2); good = h.good }

  -- equal words may stand alike
  pub by_words : {P Q : Last → Bool} {a b : List Word} → a ≡ b → Takes U P Q b → Takes U P Q a
  by_words {P = P} {Q = Q} e h = subst (λ ws. Takes U P Q ws) (sym e) h

  -- a word that opens and closes nothing
  pub one : (P Q : Last → Bool) (k : Kind) (s : List ℕ) → ((st : List Mark) → opened_by k s st ≡ st) → ((st : List Mark) → outside st ≡ true → (l : Last) → P l ≡ true → May st l k s) → ((l : Last) → P l ≡ true → Q (last_of l k s) ≡ true) → GoodWord U k s → Takes U P Q (word k s)
  one P Q k s keeps may next good = record { walk = λ st out l p. (last_of l k s, next l p, (may st out l p, (keeps st, refl))); good = (good, tt) }

  -- a sign that opens and closes nothing may stand behind any word
  pub sign_takes : (P Q : Last → Bool) (s : List ℕ) → IsPlain s → Q (last_of Other kind.Sign s) ≡ true → Takes U P Q (sign s)
  sign_takes P Q s h next = one P Q kind.Sign s (λ st. no_brace s st h.3 h.2)
      (λ st out l p. (out, record { among = h.0; no_bracket = h.1; brace = λ e. absurd (both_ways (bytes_eq s (codes "}")) h.2 e); paren = λ e. absurd (both_ways (bytes_eq s (codes "(")) h.4 e); arrow = λ e. absurd (both_ways (bytes_eq s (codes "=>")) h.5 e) }))
      (λ l p. next) tt

  -- a `=>` may stand behind anything but `*`
  pub arrow_takes : (Q : Last → Bool) → Q Other ≡ true → Takes U is_done Q (sign (codes "=>"))
  arrow_takes Q next = one is_done Q kind.Sign (codes "=>") (λ st. refl) (λ st out l p. (out, record { among = refl; no_bracket = refl; brace = λ e. cc; paren = λ e. cc; arrow = λ e. p })) (λ l p. next) tt

  -- a `(` may stand behind anything but a word that is no function
  pub paren_takes : (Q : Last → Bool) → Q Other ≡ true → Takes U is_free Q (sign (codes "("))
  paren_takes Q next = one is_free Q kind.Sign (codes "(") (λ st. refl) (λ st out l p. (out, record { among = refl; no_bracket = refl; brace = λ e. cc; paren = λ e. p; arrow = λ e. cc })) (λ l p. next) tt

  -- a tight `[` may stand where it is tight
  pub tight_takes : (Q : Last → Bool) → Q Other ≡ true → Takes U is_closed Q (word kind.Tight (codes "["))
  tight_takes Q next = one is_closed Q kind.Tight (codes "[") (λ st. refl) (λ st out l p. (out, p, refl)) (λ l p. next) tt

  -- a loose `[` may stand behind any word
  pub loose_takes : (P Q : Last → Bool) → Q Other ≡ true → Takes U P Q (word kind.Loose (codes "["))
  loose_takes P Q next = one P Q kind.Loose (codes "[") (λ st. refl) (λ st out l p. (out, refl)) (λ l p. next) tt

  -- a keyword may stand behind any word
  pub keyword_takes : (P Q : Last → Bool) (s : List ℕ) → IsTrue (is_among keywords s) → Q (last_of Other kind.Keyword s) ≡ true → Takes U P Q (keyword s)
  keyword_takes P Q s h next = one P Q kind.Keyword s (λ st. refl) (λ st out l p. (out, h)) (λ l p. next) tt

  -- a comma may stand behind any word
  pub comma_takes : (P Q : Last → Bool) → Q Other ≡ true → Takes U P Q comma
  comma_takes P Q next = sign_takes P Q (codes ",") (refl, refl, refl, refl, refl, refl) next

  -- a text in single quotes may stand behind any word
  pub quoted_takes : (P : Last → Bool) (text : List ℕ) → U text → Takes U P is_closed (quoted text)
  quoted_takes P text good = one P is_closed kind.Sq (39 ∷ (escaped text ++ 39 ∷ [])) (λ st. refl) (λ st out l p. (out, (escaped text, refl, (escaped_reads text).1))) (λ l p. refl) (text, refl, good)

  -- a type's name in capitals may stand behind any word
  pub reference_takes : (P : Last → Bool) (name : List ℕ) → Spelling kind.Ref name → Takes U P is_closed (word kind.Ref name)
  reference_takes P name h = one P is_closed kind.Ref name (λ st. refl) (λ st out l p. (out, h)) (λ l p. refl) tt

  -- a variable may stand behind any word
  pub variable_takes : (P : Last → Bool) (name : List ℕ) → Spelling kind.Var name → Takes U P is_closed (word kind.Var name)
  variable_takes P name h = one P is_closed kind.Var name (λ st. refl) (λ st out l p. (out, h)) (λ l p. refl) tt

  -- a word may stand behind any word
  pub word_takes : (P : Last → Bool) (name : List ℕ) → Spelling kind.Word name → Takes U P is_closed (word kind.Word name)
  word_takes P name h = one P is_closed kind.Word name (λ st. refl) (λ st out l p. (out, h)) (λ l p. sym (called_closed (is_heading l) (is_among functions name))) tt

  -- the name of a function
  pub function_takes : (P : Last → Bool) (name : List ℕ) → Spelling kind.Word name → is_among functions name ≡ true → Takes U P is_free (word kind.Word name)
  function_takes P name h f = one P is_free kind.Word name (λ st. refl) (λ st out l p. (out, h)) (λ l p. by_function (is_heading l) (is_among functions name) f) tt
    where
      by_function : (a b : Bool) → b ≡ true → is_free (cond a Closed (cond b Closed Called)) ≡ true
      by_function true b e = refl
      by_function false true e = refl
      by_function false false e = cc

  -- the name of a class or a defined type
  pub heading_takes : (name : List ℕ) → Spelling kind.Word name → Takes U is_heading is_free (word kind.Word name)
  heading_takes name h = one is_heading is_free kind.Word name (λ st. refl) (λ st out l p. (out, h)) (λ l p. ap (λ v. is_free (cond v Closed (cond (is_among functions name) Closed Called))) p) tt

  -- words that may stand may stand in parentheses, behind anything but a word that is no function
  pub in_parens_takes : {P Q : Last → Bool} (R : Last → Bool) {ws : List Word} → Takes U P Q ws → P Other ≡ true → R Closed ≡ true → Takes U is_free R (in_parens ws)
  in_parens_takes {P = P} {Q = Q} R h first next = seq (paren_takes P first) (seq h (sign_takes Q R (codes ")") (refl, refl, refl, refl, refl, refl) next))

  -- they may stand in a tight bracket, where it is tight
  pub in_tight_takes : {P Q : Last → Bool} (R : Last → Bool) {ws : List Word} → Takes U P Q ws → P Other ≡ true → R Closed ≡ true → Takes U is_closed R (in_tight ws)
  in_tight_takes {P = P} {Q = Q} R h first next = seq (tight_takes P first) (seq h (sign_takes Q R (codes "]") (refl, refl, refl, refl, refl, refl) next))

  -- they may stand in a loose bracket
  pub in_loose_takes : {P Q : Last → Bool} (O R : Last → Bool) {ws : List Word} → Takes U P Q ws → P Other ≡ true → R Closed ≡ true → Takes U O R (in_loose ws)
  in_loose_takes {P = P} {Q = Q} O R h first next = seq (loose_takes O P first) (seq h (sign_takes Q R (codes "]") (refl, refl, refl, refl, refl, refl) next))

  -- they may stand in braces
  pub in_braces_takes : {P Q : Last → Bool} (O R : Last → Bool) {ws : List Word} → Takes U P Q ws → P Other ≡ true → R Other ≡ true → Takes U O R (in_braces ws)
  in_braces_takes O R {ws = ws} h first next = record {
    walk = λ st out l p.
        let x = h.walk (InBrace ∷ st) refl Other first in (
          Other,
          next,
          (
            (out, record { among = refl; no_bracket = refl; brace = λ e. cc; paren = λ e. cc; arrow = λ e. cc }),
            join (InBrace ∷ st) Other ws (sign (codes "}")) (InBrace ∷ st) x.0 st Other x.2
                ((refl, record { among = refl; no_bracket = refl; brace = λ e. refl; paren = λ e. cc; arrow = λ e. cc }), (refl, refl)),
          ),
        );
    good = (tt, both_good U ws (sign (codes "}")) h.good (tt, tt));
  }
