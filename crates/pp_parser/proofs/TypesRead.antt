-- What is spelled is read: types of parameters.
use Rattle.std.proofs.Common.{◌≡◌, ℕ, zero, suc, ◌+◌, ◌<◌, ◌^◌, Bool, true, false, cond, List, [], ◌∷◌, ◌++◌, length, Option, Some, None, refl, sym, ap, subst, ◌∙◌, append_assoc, length-append, arith}
use Rattle.std.specs.Prelude.{codes, ℤ, pos}
use Rattle.std.proofs.lemmas.Bool.{lt-ltb}
use Rattle.pp_syntax.specs.declared.token.Kind.TheVariants as kind
use Rattle.pp_syntax.specs.declared.tree.TypeName.{TypeName}
use Rattle.pp_syntax.specs.declared.tree.TypeName.TheVariants as type
use Rattle.pp_syntax.specs.Tokens.{Lexeme, int_value}
use Rattle.pp_syntax.specs.Phrases as phrases
use Rattle.pp_syntax.specs.Phrases.{◌then◌, Nothing, Sign, Tight, Listed}
use Rattle.pp_syntax.specs.Statements.{TextBounds, NumberBounds, QuotedText, TypeOf, IsTypeAt}
use Rattle.pp_syntax.specs.Statements as grammar
use Rattle.pp_readers.specs.Marks.{mark}
use Rattle.rh_base.specs.Reading.{◌>>=◌}
use Rattle.pp_readers.specs.Values.{number}
use Rattle.pp_readers.proofs.Reading.{Fit, fits_second}
use Rattle.pp_readers.proofs.Listing.{bracket_closes, items_read}
use Rattle.pp_readers.proofs.Quotes.{sq_read}
use Rattle.pp_readers.specs.Combining.{Reader, both, behind, before, begins}
use Rattle.pp_readers.specs.Names.{taken}
use Rattle.pp_readers.proofs.Combining.{Spells}
use Rattle.pp_readers.proofs.Building.{Phrase, Always, ReadsBefore, split, both_read, behind_read, before_read, taken_read}
use Rattle.pp_readers.proofs.ReadBodies.{Quiet, by_token}
use Rattle.pp_parser.specs.TypeReading.{optional, shaped, type_word, type_word_by, number_by, quoted_by, upper_with, bounds_with, maybe_bounds, text_type, number_type, member_with, maybe_member, members_in, members_with, texts_in, texts_with, type_by, type_with, type_at}
use Rattle.pp_parser.specs.declared.words.TypeWord.{TypeWord}
use Rattle.pp_parser.specs.declared.words.TypeWord.TheVariants as word
use Rattle.pp_parser.proofs.Quiet.{tight_none}
use Rattle.std.proofs.lemmas.List.{append-nil}
use Rattle.pp_parser.proofs.TypesFound.{Perhaps, IsWord, word_text, IsNumber, Upper, Bounds, MaybeBounds}
use Rattle.pp_readers.proofs.ReadSearch.{begins_here}

-- ---- ways of building

-- where the test fails
abbrev pub Not : (List Lexeme → Bool) → Phrase
Not test rest = test rest ≡ false

module _ {X : Type 0} (test : List Lexeme → Bool) (f : Reader X) (A : Spells X) (F : Phrase) (reads : ReadsBefore F f A)
    (begun : (x : X) (us rest : List Lexeme) → A x us → test (us ++ rest) ≡ true) where
  -- what is there, or nothing, is read, where the test tells the two apart
  pub optional_read : (y : Option X) (us rest : List Lexeme) → Perhaps A y us → Fit us → F rest → Not test rest → optional test f (us ++ rest) ≡ Some (y, rest)
  optional_read None us rest e n q stop =
      ap (λ u. optional test f (u ++ rest)) e ∙ ap (λ v. cond v (f rest >>= λ x. Some (Some x.0, x.1)) (Some (None, rest))) stop
  optional_read (Some x) us rest a n q stop =
      ap (λ v. cond v (f (us ++ rest) >>= λ x. Some (Some x.0, x.1)) (Some (None, us ++ rest))) (begun x us rest a)
      ∙ ap (λ r. r >>= λ x. Some (Some x.0, x.1)) (reads x us rest a n q)

module _ {X Y : Type 0} (h : X → Y) (f : Reader X) (A : Spells X) (F : Phrase) (reads : ReadsBefore F f A) where
  -- what is made of something is read where that is
  pub shaped_read : (x : X) (y : Y) (us rest : List Lexeme) → A x us → Fit us → F rest → h x ≡ y → shaped h f (us ++ rest) ≡ Some (y, rest)
  shaped_read x y us rest a n q e = ap (λ r. r >>= λ x. Some (h x.0, x.1)) (reads x us rest a n q) ∙ ap (λ z. Some (z, rest)) e

-- no index stands first
no_index : (rest : List Lexeme) → Quiet rest → Not (begins kind.Tight (codes "[")) rest
no_index rest q = tight_none rest q

-- ---- tokens

-- the name of a type is told to name it
word_here : (w : TypeWord) → type_word (word_text w) ≡ Some w
word_here word.Any = refl
word_here word.Boolean = refl
word_here word.Hash = refl
word_here word.Text = refl
word_here word.Number = refl
word_here word.Array = refl
word_here word.Optional = refl
word_here word.Enum = refl
word_here word.Variant = refl

-- the name of a type is read
word_read : (w : TypeWord) (us rest : List Lexeme) → IsWord w us → taken type_word_by (us ++ rest) ≡ Some (w, rest)
word_read w us rest t = taken_read type_word_by kind.Ref (word_text w) w us rest t (word_here w)

-- an INT that fits has its number
number_here : (raw : List ℕ) → int_value raw < 2 ^ 63 → number raw ≡ Some (pos (int_value raw))
number_here raw l = ap (λ b. cond b (Some (pos (int_value raw))) None) (lt-ltb _ _ l)

-- an INT among numbers that fit fits
number_fits : (raw : List ℕ) (us : List Lexeme) → phrases.Some kind.Int raw us → Fit us → int_value raw < 2 ^ 63
number_fits raw us t f = (subst Fit t.1 f).0 refl

-- a number is read
number_read : ReadsBefore Always (taken number_by) IsNumber
number_read v us rest n f q = taken_read number_by kind.Int n.0 v us rest n.1 (number_here n.0 (number_fits n.0 us n.1 f) ∙ ap Some (sym n.2))

-- a text in single quotes is read
quoted_read : ReadsBefore Always (taken quoted_by) QuotedText
quoted_read v us rest n f q = taken_read quoted_by kind.Sq n.0 v us rest n.1 (sq_read v n.0 n.2)

-- ---- bounds

-- a bracket that closes stands first
abbrev Closed : Phrase
Closed rest = Not (begins kind.Sign (codes ",")) rest

-- an upper bound, or nothing, is read, before a bracket that closes
upper_read : ReadsBefore Closed upper_with Upper
upper_read y us rest a f q =
    optional_read (begins kind.Sign (codes ",")) (behind kind.Sign (codes ",") (taken number_by)) (λ v. Sign (codes ",") then IsNumber v) Always
    (behind_read (taken number_by) IsNumber Always number_read kind.Sign (codes ",")) (λ v us rest p. begins_here kind.Sign (codes ",") (IsNumber v) us rest p) y us rest a f tt q

-- bounds are read
bounds_read : ReadsBefore Always bounds_with Bounds
bounds_read =
    before_read (both (taken number_by) upper_with) (λ b. IsNumber b.0 then Upper b.1) Closed
    (both_read (taken number_by) upper_with IsNumber Upper Always Closed number_read upper_read (λ y us rest b q. tt)) kind.Sign (codes "]") (λ us rest t. by_token kind.Sign (codes "]") Closed (λ at more. refl) us rest t)

-- bounds in brackets, or nothing, are read
maybe_bounds_read : ReadsBefore Quiet maybe_bounds MaybeBounds
maybe_bounds_read y us rest a f q =
    optional_read (begins kind.Tight (codes "[")) (behind kind.Tight (codes "[") bounds_with) (λ b. Tight then Bounds b) Always
    (behind_read bounds_with Bounds Always bounds_read kind.Tight (codes "[")) (λ b us rest p. begins_here kind.Tight (codes "[") (Bounds b) us rest p) y us rest a f tt (no_index rest q)

-- a phrase with nothing behind it
with_nothing : (A : List Lexeme → Type 0) (us : List Lexeme) → A us → (A then Nothing) us
with_nothing A us a = record { front = us; back = []; first = a; second = refl; whole = sym (append-nil us) }

-- `[`, a number and `]` are bounds in brackets
lower_bounds : (v : ℤ) (low : List ℕ) (us : List Lexeme) → v ≡ pos (int_value low) → (Tight then phrases.Some kind.Int low then Sign (codes "]")) us → MaybeBounds (Some (v, None)) us
lower_bounds v low us e p =
    let s = p.second in
    record {
      front = p.front;
      back = p.back;
      first = p.first;
      second = record { front = s.front; back = s.back; first = with_nothing (IsNumber v) s.front (low, s.first, e); second = s.second; whole = s.whole };
      whole = p.whole;
    }

-- so are `[`, two numbers with a comma between them and `]`
both_bounds : (v w : ℤ) (low high : List ℕ) (us : List Lexeme) → v ≡ pos (int_value low) → w ≡ pos (int_value high) → (Tight then phrases.Some kind.Int low then phrases.Comma then phrases.Some kind.Int high then Sign (codes "]")) us
    → MaybeBounds (Some (v, Some w)) us
both_bounds v w low high us e g p =
    let s = p.second in
    let c = s.second in
    let h = c.second in
    record {
      front = p.front;
      back = p.back;
      first = p.first;
      second = record {
        front = s.front ++ (c.front ++ h.front);
        back = h.back;
        first = record { front = s.front; back = c.front ++ h.front; first = (low, s.first, e); second = record { front = c.front; back = h.front; first = c.first; second = (high, h.first, g); whole = refl }; whole = refl };
        second = h.second;
        whole = s.whole ∙ ap (λ r. s.front ++ r) (c.whole ∙ ap (λ r. c.front ++ r) h.whole ∙ sym (append_assoc c.front h.front h.back)) ∙ sym (append_assoc s.front (c.front ++ h.front) h.back);
      };
      whole = p.whole;
    }

-- ---- the rules

module _ (t : Reader TypeName) (T : Spells TypeName) (reads : ReadsBefore Quiet t T) (solid : (y : TypeName) (us : List Lexeme) → T y us → 0 < length us)
    (apart : (y : TypeName) (us rest : List Lexeme) → T y us → mark kind.Sign (codes "]") (us ++ rest) ≡ None) where
  -- between a tight `[` and `]`
  abbrev Bracketed : (List Lexeme → Type 0) → List Lexeme → Type 0
  Bracketed A = Tight then A then Sign (codes "]")

  -- a closing bracket takes nothing that stands in front of it
  closes_quiet : (us rest : List Lexeme) → Sign (codes "]") us → Quiet (us ++ rest)
  closes_quiet us rest t = by_token kind.Sign (codes "]") Quiet (λ at more. omega arith) us rest t

  -- a type in brackets is read
  member_read : ReadsBefore Always (member_with t) (λ y. Bracketed (T y))
  member_read = behind_read (before t kind.Sign (codes "]")) (λ y. T y then Sign (codes "]")) Always (before_read t T Quiet reads kind.Sign (codes "]") closes_quiet) kind.Tight (codes "[")

  -- so is a type in brackets, or nothing
  maybe_member_read : ReadsBefore Quiet (maybe_member t) (Perhaps (λ y. Bracketed (T y)))
  maybe_member_read y us rest a f q =
      optional_read (begins kind.Tight (codes "[")) (member_with t) (λ y. Bracketed (T y)) Always member_read (λ y us rest p. begins_here kind.Tight (codes "[") (T y then Sign (codes "]")) us rest p) y us rest a f tt (no_index rest q)

  -- types in brackets are read
  members_read : ReadsBefore Always (members_with t) (λ ys. Bracketed (Listed T ys))
  members_read =
      behind_read (members_in t) (λ ys. Listed T ys then Sign (codes "]")) Always
      (λ ys us rest p f q. items_read (codes "]") bracket_closes t T reads solid apart ys (length (us ++ rest) + 1) us rest p f (omega (arith, length-append us rest))) kind.Tight (codes "[")

  -- a text in single quotes has a token
  quoted_solid : (v : List ℕ) (us : List Lexeme) → QuotedText v us → 0 < length us
  quoted_solid v us n = subst (λ u. 0 < length u) (sym n.1.1) (omega arith)

  -- it doesn't begin with `]`
  quoted_apart : (v : List ℕ) (us rest : List Lexeme) → QuotedText v us → mark kind.Sign (codes "]") (us ++ rest) ≡ None
  quoted_apart v us rest n = ap (λ u. mark kind.Sign (codes "]") (u ++ rest)) n.1.1

  -- texts in brackets are read
  texts_read : ReadsBefore Always texts_with (λ ss. Bracketed (Listed QuotedText ss))
  texts_read =
      behind_read texts_in (λ ss. Listed QuotedText ss then Sign (codes "]")) Always
      (λ ss us rest p f q. items_read (codes "]") bracket_closes (taken quoted_by) QuotedText (λ y us rest a f k. quoted_read y us rest a f tt) quoted_solid quoted_apart ss (length (us ++ rest) + 1) us rest p f (omega (arith, length-append us rest)))
      kind.Tight (codes "[")

  -- behind a word
  with_word : (w : TypeWord) (y : TypeName) (B : Phrase) (us rest : List Lexeme) → (IsWord w then B) us → Fit us → ((back : List Lexeme) → B back → Fit back → type_by t w (back ++ rest) ≡ Some (y, rest)) → type_with t (us ++ rest) ≡ Some (y, rest)
  with_word w y B us rest p f next =
      ap (type_with t) (split p.front p.back rest us p.whole) ∙ ap (λ r. r >>= λ w. type_by t w.0 w.1) (word_read w p.front (p.back ++ rest) p.first) ∙ next p.back p.second (fits_second p.front p.back p.whole f)

  -- a type that is a name alone is read
  alone : (w : TypeWord) (y : TypeName) (us rest : List Lexeme) → IsWord w us → type_by t w rest ≡ Some (y, rest) → type_with t (us ++ rest) ≡ Some (y, rest)
  alone w y us rest p e = ap (λ r. r >>= λ w. type_by t w.0 w.1) (word_read w us rest p) ∙ e

  -- a type is read, if it holds of those in its brackets
  pub type_read : ReadsBefore Quiet (type_with t) (TypeOf T)
  type_read y us rest (grammar.any e v) f q = alone word.Any y us rest v (ap (λ z. Some (z, rest)) (sym e))
  type_read y us rest (grammar.boolean e v) f q = alone word.Boolean y us rest v (ap (λ z. Some (z, rest)) (sym e))
  type_read y us rest (grammar.hash e v) f q = alone word.Hash y us rest v (ap (λ z. Some (z, rest)) (sym e))
  type_read y us rest (grammar.TypeOf.text least most e p) f q = with_word word.Text y (TextBounds least most) us rest p f (λ back b g. text_read least most y back b g e)
    where
      text_read : (least : ℤ) (most : Option ℤ) (y : TypeName) (back : List Lexeme) → TextBounds least most back → Fit back → y ≡ type.Str least most → type_by t word.Text (back ++ rest) ≡ Some (y, rest)
      text_read least most y back (grammar.TextBounds.none a b n) g e =
          shaped_read text_type maybe_bounds MaybeBounds Quiet maybe_bounds_read None y back rest n g q (sym (e ∙ ap (λ l. type.Str l most) a ∙ ap (λ m. type.Str (pos 0) m) b))
      text_read least most y back (grammar.TextBounds.lower low a b p) g e =
          shaped_read text_type maybe_bounds MaybeBounds Quiet maybe_bounds_read (Some (least, None)) y back rest (lower_bounds least low back a p) g q (sym (e ∙ ap (λ m. type.Str least m) b))
      text_read least most y back (grammar.TextBounds.both low high a b p) g e =
          shaped_read text_type maybe_bounds MaybeBounds Quiet maybe_bounds_read (Some (least, Some (pos (int_value high)))) y back rest (both_bounds least (pos (int_value high)) low high back a refl p) g q (sym (e ∙ ap (λ m. type.Str least m) b))
  type_read y us rest (grammar.TypeOf.number least most e p) f q = with_word word.Number y (NumberBounds least most) us rest p f (λ back b g. bounded least most y back b g e)
    where
      bounded : (least most : Option ℤ) (y : TypeName) (back : List Lexeme) → NumberBounds least most back → Fit back → y ≡ type.Int least most → type_by t word.Number (back ++ rest) ≡ Some (y, rest)
      bounded least most y back (grammar.NumberBounds.none a b n) g e =
          shaped_read number_type maybe_bounds MaybeBounds Quiet maybe_bounds_read None y back rest n g q (sym (e ∙ ap (λ l. type.Int l most) a ∙ ap (λ m. type.Int None m) b))
      bounded least most y back (grammar.NumberBounds.lower low a b p) g e =
          shaped_read number_type maybe_bounds MaybeBounds Quiet maybe_bounds_read (Some (pos (int_value low), None)) y back rest (lower_bounds (pos (int_value low)) low back refl p) g q (sym (e ∙ ap (λ l. type.Int l most) a ∙ ap (λ m. type.Int (Some (pos (int_value low))) m) b))
      bounded least most y back (grammar.NumberBounds.both low high a b p) g e =
          shaped_read number_type maybe_bounds MaybeBounds Quiet maybe_bounds_read (Some (pos (int_value low), Some (pos (int_value high)))) y back rest (both_bounds (pos (int_value low)) (pos (int_value high)) low high back refl refl p) g q
          (sym (e ∙ ap (λ l. type.Int l most) a ∙ ap (λ m. type.Int (Some (pos (int_value low))) m) b))
  type_read y us rest (grammar.array e v) f q =
      alone word.Array y us rest v (shaped_read type.Array (maybe_member t) (Perhaps (λ y. Bracketed (T y))) Quiet maybe_member_read None y [] rest refl tt q (sym e))
  type_read y us rest (grammar.array_of m e p) f q =
      with_word word.Array y (Bracketed (T m)) us rest p f (λ back b g. shaped_read type.Array (maybe_member t) (Perhaps (λ y. Bracketed (T y))) Quiet maybe_member_read (Some m) y back rest b g q (sym e))
  type_read y us rest (grammar.optional m e p) f q =
      with_word word.Optional y (Bracketed (T m)) us rest p f (λ back b g. shaped_read type.Optional (member_with t) (λ y. Bracketed (T y)) Always member_read m y back rest b g tt (sym e))
  type_read y us rest (grammar.enum ss e p) f q =
      with_word word.Enum y (Bracketed (Listed QuotedText ss)) us rest p f (λ back b g. shaped_read type.Enum texts_with (λ ss. Bracketed (Listed QuotedText ss)) Always texts_read ss y back rest b g tt (sym e))
  type_read y us rest (grammar.variant ys e p) f q =
      with_word word.Variant y (Bracketed (Listed T ys)) us rest p f (λ back b g. shaped_read type.Variant (members_with t) (λ ys. Bracketed (Listed T ys)) Always members_read ys y back rest b g tt (sym e))

-- a type begins with a name
pub type_leads : (T : Spells TypeName) (y : TypeName) (us : List Lexeme) → TypeOf T y us → (s : List ℕ) × (at : ℕ) × (more : List Lexeme) × (us ≡ record { kind = kind.Ref; text = s; at = at } ∷ more)
type_leads T y us (grammar.any e v) = (codes "Any", v.0, [], v.1)
type_leads T y us (grammar.boolean e v) = (codes "Boolean", v.0, [], v.1)
type_leads T y us (grammar.hash e v) = (codes "Hash", v.0, [], v.1)
type_leads T y us (grammar.TypeOf.text least most e p) = (codes "String", p.first.0, p.back, p.whole ∙ ap (λ r. r ++ p.back) p.first.1)
type_leads T y us (grammar.TypeOf.number least most e p) = (codes "Integer", p.first.0, p.back, p.whole ∙ ap (λ r. r ++ p.back) p.first.1)
type_leads T y us (grammar.array e v) = (codes "Array", v.0, [], v.1)
type_leads T y us (grammar.array_of m e p) = (codes "Array", p.first.0, p.back, p.whole ∙ ap (λ r. r ++ p.back) p.first.1)
type_leads T y us (grammar.optional m e p) = (codes "Optional", p.first.0, p.back, p.whole ∙ ap (λ r. r ++ p.back) p.first.1)
type_leads T y us (grammar.enum ss e p) = (codes "Enum", p.first.0, p.back, p.whole ∙ ap (λ r. r ++ p.back) p.first.1)
type_leads T y us (grammar.variant ys e p) = (codes "Variant", p.first.0, p.back, p.whole ∙ ap (λ r. r ++ p.back) p.first.1)

-- a type begins with a name in capitals
pub leads_at : (depth : ℕ) (y : TypeName) (us : List Lexeme) → IsTypeAt depth y us → (s : List ℕ) × (at : ℕ) × (more : List Lexeme) × (us ≡ record { kind = kind.Ref; text = s; at = at } ∷ more)
leads_at zero y us h = absurd h
leads_at (suc depth) y us h = type_leads (IsTypeAt depth) y us h

-- a type is read, with brackets nested less deep than this
pub type_at_read : (depth : ℕ) → ReadsBefore Quiet (type_at depth) (IsTypeAt depth)
type_at_read zero y us rest h f q = absurd h
type_at_read (suc depth) y us rest h f q =
    type_read (type_at depth) (IsTypeAt depth) (type_at_read depth) (λ y us h. let l = leads_at depth y us h in subst (λ u. 0 < length u) (sym l.3) (omega arith))
    (λ y us rest h. let l = leads_at depth y us h in ap (λ u. mark kind.Sign (codes "]") (u ++ rest)) l.3) y us rest h f q
