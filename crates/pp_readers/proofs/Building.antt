-- What is spelled is read: the ways in which readers are built.
use Rattle.std.proofs.Common.{◌≡◌, ◌≢◌, inl, inr, ℕ, zero, suc, ◌<◌, ◌&&◌, Bool, true, false, cond, List, [], ◌∷◌, ◌++◌, length, Option, Some, None, refl, sym, ap, subst, ◌∙◌, append_assoc, length-append, arith}
use Rattle.std.specs.Prelude.{codes}
use Rattle.std.specs.Str.{bytes_eq}
use Rattle.std.proofs.lemmas.List.{append-nil}
use Rattle.std.proofs.lemmas.Slice.Eq.{bytes_eq-Decides}
use Rattle.pp_syntax.specs.declared.token.Kind.{Kind}
use Rattle.pp_syntax.specs.declared.token.Kind.TheVariants as kind
use Rattle.pp_syntax.specs.Tokens.{Lexeme}
use Rattle.pp_syntax.specs.Phrases as phrases
use Rattle.pp_syntax.specs.Phrases.{◌then◌, Maybe, Sign, Each, place_of}
use Rattle.pp_syntax.specs.Statements.{InBraces}
use Rattle.pp_readers.specs.Marks.{Found, first_at, mark}
use Rattle.rh_base.specs.Reading.{◌>>=◌}
use Rattle.pp_readers.specs.Expressions.{with_first}
use Rattle.pp_readers.proofs.Tokens.{itself_kind}
use Rattle.pp_readers.proofs.Reading.{Fit, fits_first, fits_second, first_place}
use Rattle.pp_readers.specs.Combining.{Reader, both, made, behind, before, in_braces, many, after_item, listed}
use Rattle.pp_readers.specs.Names.{taken}
use Rattle.pp_readers.proofs.Combining.{Spells, ListedBy}

-- which tokens spell something
abbrev pub Phrase : Type 1
Phrase = List Lexeme → Type 0

-- whatever stands there
abbrev pub Always : Phrase
Always rest = Unit {0}

-- what this rule spells is read before such a rest
abbrev pub ReadsBefore : {X : Type 0} → Phrase → Reader X → Spells X → Type 0
ReadsBefore {X} F f A = (y : X) (us rest : List Lexeme) → A y us → Fit us → F rest → f (us ++ rest) ≡ Some (y, rest)

-- a token that stands there is found
pub mark_here : (k : Kind) (s : List ℕ) (us rest : List Lexeme) (t : phrases.Some k s us) → mark k s (us ++ rest) ≡ Some (t.0, rest)
mark_here k s us rest t =
    ap (λ r. mark k s (r ++ rest)) t.1
    ∙ ap (λ v. cond (v && bytes_eq s s) (Some (t.0, rest)) None) (itself_kind k)
    ∙ ap (λ v. cond (true && v) (Some (t.0, rest)) None) ((bytes_eq-Decides s s).1 refl)

-- where none can be found, none is
pub mark_not : (k : Kind) (s : List ℕ) (ts : List Lexeme) → ((x : ℕ × List Lexeme) → mark k s ts ≡ Some x → ⊥) → mark k s ts ≡ None
mark_not k s ts never = by_mark (mark k s ts) refl
  where
    by_mark : (r : Found ℕ) → mark k s ts ≡ r → r ≡ None
    by_mark None p = refl
    by_mark (Some x) p = absurd (never x p)

-- the rest stands behind the second of two parts
pub split : (a b rest us : List Lexeme) → us ≡ a ++ b → us ++ rest ≡ a ++ (b ++ rest)
split a b rest us w = ap (λ r. r ++ rest) w ∙ append_assoc a b rest

module _ {X Y : Type 0} (f : Reader X) (g : Reader Y) (A : Spells X) (B : Spells Y) (F G : Phrase) where
  -- what one rule and then another spell is read, if the first is read before the second
  pub both_read : ReadsBefore F f A → ReadsBefore G g B → ((y : Y) (us rest : List Lexeme) → B y us → G rest → F (us ++ rest)) → ReadsBefore G (both f g) (λ p. A p.0 then B p.1)
  both_read a b follows p us rest s n q =
      ap (both f g) (split s.front s.back rest us s.whole)
      ∙ ap (λ r. r >>= λ x. g x.1 >>= λ y. Some ((x.0, y.0), y.1)) (a p.0 s.front (s.back ++ rest) s.first (fits_first s.front s.back s.whole n) (follows p.1 s.back rest s.second q))
      ∙ ap (λ r. r >>= λ y. Some ((p.0, y.0), y.1)) (b p.1 s.back rest s.second (fits_second s.front s.back s.whole n) q)

module _ {X : Type 0} (f : Reader X) (A : Spells X) (F : Phrase) (reads : ReadsBefore F f A) where
  -- what stands behind a token is read, and the token with it
  pub behind_read : (k : Kind) (s : List ℕ) → ReadsBefore F (behind k s f) (λ y. phrases.Some k s then A y)
  behind_read k s y us rest p n q =
      ap (behind k s f) (split p.front p.back rest us p.whole)
      ∙ ap (λ r. r >>= λ o. f o.1) (mark_here k s p.front (p.back ++ rest) p.first)
      ∙ reads y p.back rest p.second (fits_second p.front p.back p.whole n) q

  -- what stands before a token is read, and the token with it
  pub before_read : (k : Kind) (s : List ℕ) → ((us rest : List Lexeme) → phrases.Some k s us → F (us ++ rest)) → ReadsBefore Always (before f k s) (λ y. A y then phrases.Some k s)
  before_read k s quiet y us rest p n q =
      ap (before f k s) (split p.front p.back rest us p.whole)
      ∙ ap (λ r. r >>= λ x. mark k s x.1 >>= λ r. Some (x.0, r.1)) (reads y p.front (p.back ++ rest) p.first (fits_first p.front p.back p.whole n) (quiet p.back rest p.second))
      ∙ ap (λ r. r >>= λ r. Some (y, r.1)) (mark_here k s p.back rest p.second)

-- what stands in braces is read, and the braces with it
pub in_braces_read : {X : Type 0} (f : Reader X) (A : Spells X) (F : Phrase) → ReadsBefore F f A → ((us rest : List Lexeme) → Sign (codes "}") us → F (us ++ rest)) → ReadsBefore Always (in_braces f) (λ y. InBraces (A y))
in_braces_read f A F reads quiet =
    behind_read (before f kind.Sign (codes "}")) (λ y. A y then Sign (codes "}")) Always (before_read f A F reads kind.Sign (codes "}") quiet) kind.Sign (codes "{")

-- what is made of what is read
module _ {X Y : Type 0} (h : ℕ → X → Y) (f : Reader X) (A : Spells X) (F : Phrase) (reads : ReadsBefore F f A) where
  -- what is made of something is read where that is, if its place doesn't matter
  pub made_read : (x : X) (y : Y) (us rest : List Lexeme) → A x us → Fit us → F rest → ((at : ℕ) → h at x ≡ y) → made h f (us ++ rest) ≡ Some (y, rest)
  made_read x y us rest a n q e =
      ap (λ r. r >>= λ x. Some (h (first_at (us ++ rest)) x.0, x.1)) (reads x us rest a n q) ∙ ap (λ z. Some (z, rest)) (e (first_at (us ++ rest)))

  -- what is made of something is read where that is, at the place of its first token
  pub placed_read : (x : X) (y : Y) (us rest : List Lexeme) → A x us → Fit us → F rest → us ≢ [] → h (place_of us) x ≡ y → made h f (us ++ rest) ≡ Some (y, rest)
  placed_read x y us rest a n q some e =
      ap (λ r. r >>= λ x. Some (h (first_at (us ++ rest)) x.0, x.1)) (reads x us rest a n q) ∙ ap (λ at. Some (h at x, rest)) (first_place us rest some) ∙ ap (λ z. Some (z, rest)) e

-- a token that means something is read as that
pub taken_read : {X : Type 0} (h : Kind → List ℕ → Option X) (k : Kind) (s : List ℕ) (x : X) (us rest : List Lexeme) → phrases.Some k s us → h k s ≡ Some x → taken h (us ++ rest) ≡ Some (x, rest)
taken_read h k s x us rest t e = ap (λ r. taken h (r ++ rest)) t.1 ∙ ap (λ r. r >>= λ x. Some (x, rest)) e

-- rows of items
module _ {X : Type 0} (test : List Lexeme → Bool) (item : Reader X) (A : Spells X) (R : Spells (List X)) (F G : Phrase) (reads : ReadsBefore G item A)
    (begun : (x : X) (us rest : List Lexeme) → A x us → test (us ++ rest) ≡ true) (solid : (x : X) (us : List Lexeme) → A x us → us ≢ []) (quiet : (x : X) (us rest : List Lexeme) → A x us → G (us ++ rest))
    (stops : (rest : List Lexeme) → F rest → test rest ≡ false) (ends : (rest : List Lexeme) → F rest → G rest)
    (none : (us : List Lexeme) → R [] us → us ≡ []) (next : (x : X) (xs : List X) (us : List Lexeme) → R (x ∷ xs) us → (A x then R xs) us) where
  -- tokens that aren't none are one or more
  longer : (us : List Lexeme) → us ≢ [] → 0 < length us
  longer [] n = absurd (n refl)
  longer (t ∷ us) n = omega arith

  -- before items, as before what ends them, each item can be read
  pub row_quiet : (xs : List X) (us rest : List Lexeme) → R xs us → F rest → G (us ++ rest)
  row_quiet [] us rest r q = subst (λ u. G (u ++ rest)) (sym (none us r)) (ends rest q)
  row_quiet (x ∷ xs) us rest r q =
      let s = next x xs us r in
      subst G (sym (split s.front s.back rest us s.whole)) (quiet x s.front (s.back ++ rest) s.first)

  -- items one behind the other are read, in more turns than they have tokens
  pub many_read : (xs : List X) (n : ℕ) (us rest : List Lexeme) → R xs us → Fit us → F rest → length us < n → many test item n (us ++ rest) ≡ Some (xs, rest)
  many_read xs zero us rest r f q l = absurd (omega arith)
  many_read [] (suc n) us rest r f q l =
      ap (λ u. many test item (suc n) (u ++ rest)) (none us r) ∙ ap (λ v. cond v (item rest >>= λ x. with_first x.0 (many test item n x.1)) (Some ([], rest))) (stops rest q)
  many_read (x ∷ xs) (suc n) us rest r f q l =
      let s = next x xs us r in
      let shorter : length s.back < n = omega (arith, longer s.front (solid x s.front s.first), ap length s.whole, length-append s.front s.back) in
      ap (many test item (suc n)) (split s.front s.back rest us s.whole)
      ∙ ap (λ v. cond v (item (s.front ++ (s.back ++ rest)) >>= λ x. with_first x.0 (many test item n x.1)) (Some ([], s.front ++ (s.back ++ rest)))) (begun x s.front (s.back ++ rest) s.first)
      ∙ ap (λ r. r >>= λ x. with_first x.0 (many test item n x.1)) (reads x s.front (s.back ++ rest) s.first (fits_first s.front s.back s.whole f) (row_quiet xs s.back rest s.second q))
      ∙ ap (with_first x) (many_read xs n s.back rest s.second (fits_second s.front s.back s.whole f) q shorter)

-- items with a sign between them
module _ {X : Type 0} (sep : List ℕ) (test : List Lexeme → Bool) (item : Reader X) (A : Spells X) (F G : Phrase) (reads : ReadsBefore G item A)
    (begun : (x : X) (us rest : List Lexeme) → A x us → test (us ++ rest) ≡ true) (solid : (x : X) (us : List Lexeme) → A x us → us ≢ []) (quiet : (us rest : List Lexeme) → Sign sep us → G (us ++ rest))
    (stops : (rest : List Lexeme) → F rest → test rest ≡ false) (unseparated : (rest : List Lexeme) → F rest → mark kind.Sign sep rest ≡ None) (ends : (rest : List Lexeme) → F rest → G rest) where
  -- tokens that aren't none are one or more
  long : (us : List Lexeme) → us ≢ [] → 0 < length us
  long [] n = absurd (n refl)
  long (t ∷ us) n = omega arith

  -- one turn reads an item, and goes on by the sign behind it
  one_turn : (x : X) (n : ℕ) (us rest : List Lexeme) → A x us → Fit us → G rest → listed sep test item (suc n) (us ++ rest) ≡ after_item x (listed sep test item n) (mark kind.Sign sep rest) rest
  one_turn x n us rest a f g =
      ap (λ v. cond v (item (us ++ rest) >>= λ x. after_item x.0 (listed sep test item n) (mark kind.Sign sep x.1) x.1) (Some ([], us ++ rest))) (begun x us rest a)
      ∙ ap (λ r. r >>= λ x. after_item x.0 (listed sep test item n) (mark kind.Sign sep x.1) x.1) (reads x us rest a f g)

  -- where nothing begins, no item is read
  stopped : (n : ℕ) (rest : List Lexeme) → F rest → 0 < n → listed sep test item n rest ≡ Some ([], rest)
  stopped zero rest q l = absurd (omega arith)
  stopped (suc n) rest q l = ap (λ v. cond v (item rest >>= λ x. after_item x.0 (listed sep test item n) (mark kind.Sign sep x.1) x.1) (Some ([], rest))) (stops rest q)

  -- the last item is read, with a sign behind it or without
  last_read : (x : X) (n : ℕ) (us vs rest : List Lexeme) → A x us → Maybe (Sign sep) vs → Fit us → F rest → 0 < n → listed sep test item (suc n) (us ++ (vs ++ rest)) ≡ Some (x ∷ [], rest)
  last_read x n us vs rest a (inl e) f q l =
      ap (λ v. listed sep test item (suc n) (us ++ (v ++ rest))) e ∙ one_turn x n us rest a f (ends rest q) ∙ ap (λ r. after_item x (listed sep test item n) r rest) (unseparated rest q)
  last_read x n us vs rest a (inr m) f q l =
      one_turn x n us (vs ++ rest) a f (quiet vs rest m) ∙ ap (λ r. after_item x (listed sep test item n) r (vs ++ rest)) (mark_here kind.Sign sep vs rest m)
      ∙ ap (with_first x) (stopped n rest q l)

  -- one item or more with signs between them are read
  tail_read : (x : X) (xs : List X) (n : ℕ) (us vs rest : List Lexeme) → (A x then Each (Sign sep) A xs) us → Maybe (Sign sep) vs → Fit us → F rest → length us < n → listed sep test item n (us ++ (vs ++ rest)) ≡ Some (x ∷ xs, rest)
  tail_read x xs zero us vs rest h m f q l = absurd (omega arith)
  tail_read x [] (suc n) us vs rest h m f q l =
      let e : us ≡ h.front = h.whole ∙ ap (λ r. h.front ++ r) h.second ∙ append-nil h.front in
      ap (λ u. listed sep test item (suc n) (u ++ (vs ++ rest))) e
      ∙ last_read x n h.front vs rest h.first m (fits_first h.front h.back h.whole f) q (omega (arith, long h.front (solid x h.front h.first), ap length e))
  tail_read x (y ∷ ys) (suc n) us vs rest h m f q l =
      let s = h.second in
      let t = vs ++ rest in
      let e : us ++ t ≡ h.front ++ (s.front ++ (s.back ++ t)) = split h.front h.back t us h.whole ∙ ap (λ r. h.front ++ r) (split s.front s.back t h.back s.whole) in
      let fs = fits_second h.front h.back h.whole f in
      let shorter : length s.back < n = omega (arith, long h.front (solid x h.front h.first), ap length h.whole, length-append h.front h.back, ap length s.whole, length-append s.front s.back) in
      ap (listed sep test item (suc n)) e
      ∙ one_turn x n h.front (s.front ++ (s.back ++ t)) h.first (fits_first h.front h.back h.whole f) (quiet s.front (s.back ++ t) s.first)
      ∙ ap (λ r. after_item x (listed sep test item n) r (s.front ++ (s.back ++ t))) (mark_here kind.Sign sep s.front (s.back ++ t) s.first)
      ∙ ap (with_first x) (tail_read y ys n s.back vs rest s.second m (fits_second s.front s.back s.whole fs) q shorter)

  -- items with signs between them, or none, are read, in more turns than they have tokens
  pub listed_read : (xs : List X) (n : ℕ) (us rest : List Lexeme) → ListedBy sep A xs us → Fit us → F rest → length us < n → listed sep test item n (us ++ rest) ≡ Some (xs, rest)
  listed_read [] n us rest h f q l = ap (λ u. listed sep test item n (u ++ rest)) h ∙ stopped n rest q (omega arith)
  listed_read (x ∷ xs) n us rest h f q l =
      ap (listed sep test item n) (split h.front h.back rest us h.whole)
      ∙ tail_read x xs n h.front h.back rest h.first h.second (fits_first h.front h.back h.whole f) q (omega (arith, ap length h.whole, length-append h.front h.back))
