-- What is read is spelled: types of parameters.
use Rattle.std.proofs.Common.{◌≡◌, ℕ, zero, suc, Bool, true, false, cond, ◌^◌, ◌+◌, append_assoc, List, [], ◌∷◌, ◌++◌, length, Option, Some, None, refl, sym, ap, subst, ◌∙◌}
use Rattle.std.specs.Prelude.{codes, ℤ, pos, nat_lt}
use Rattle.std.specs.Str.{bytes_eq}
use Rattle.std.proofs.lemmas.List.{append-nil}
use Rattle.std.proofs.lemmas.Slice.Eq.{bytes_eq-Decides}
use Rattle.pp_syntax.specs.declared.token.Kind.{Kind}
use Rattle.pp_syntax.specs.declared.token.Kind.TheVariants as kind
use Rattle.pp_syntax.specs.declared.tree.TypeName.{TypeName}
use Rattle.pp_syntax.specs.declared.tree.TypeName.TheVariants as type
use Rattle.pp_syntax.specs.Tokens.{Lexeme, int_value}
use Rattle.pp_syntax.specs.Phrases as phrases
use Rattle.pp_syntax.specs.Phrases.{◌then◌, Nothing, Sign, Tight, Listed}
use Rattle.pp_syntax.specs.Statements.{TextBounds, NumberBounds, QuotedText, TypeOf, IsTypeAt}
use Rattle.pp_syntax.specs.Statements as grammar
use Rattle.rh_base.specs.Reading.{◌>>=◌}
use Rattle.pp_readers.specs.Values.{number}
use Rattle.pp_readers.specs.Parsed.{Begins}
use Rattle.pp_readers.proofs.Tokens.{maps}
use Rattle.pp_readers.proofs.Finding.{Finds, nothing, items_found}
use Rattle.pp_readers.proofs.Operands.{sq_found}
use Rattle.pp_readers.specs.Combining.{Reader, both, behind, before, begins}
use Rattle.pp_readers.specs.Names.{taken}
use Rattle.pp_readers.proofs.Combining.{Spells, both_found, behind_found, before_found, taken_found}
use Rattle.pp_parser.specs.TypeReading.{optional, shaped, type_word, type_word_by, number_by, quoted_by, upper_with, bounds_with, maybe_bounds, text_type, number_type, member_with, maybe_member, members_in, members_with, texts_in, texts_with, type_by, type_with, type_at}
use Rattle.pp_parser.specs.declared.words.TypeWord.{TypeWord}
use Rattle.pp_parser.specs.declared.words.TypeWord.TheVariants as word
use Rattle.rh_base.proofs.Options.{bind_some}

-- a token by itself
abbrev token : Kind → List ℕ → ℕ → List Lexeme
token k s at = record { kind = k; text = s; at = at } ∷ []

-- ---- ways of building

-- what the rule spells, or nothing
abbrev pub Perhaps : {X : Type 0} → Spells X → Spells (Option X)
Perhaps A None = Nothing
Perhaps A (Some x) = A x

module _ {X : Type 0} (test : List Lexeme → Bool) (f : Reader X) (A : Spells X) (finds : Finds f A) where
  -- what is read where the test says, or nothing, is spelled so
  pub optional_found : Finds (optional test f) (Perhaps A)
  optional_found ts x h = by_test (test ts) h
    where
      by_test : (v : Bool) → cond v (f ts >>= λ x. Some (Some x.0, x.1)) (Some (None, ts)) ≡ Some x → Begins (Perhaps A x.0) ts x.1
      by_test false k =
          let same : ◌≡◌ {A = Option X × List Lexeme} (None, ts) x = cc in
          subst (λ (y : Option X × List Lexeme). Begins (Perhaps A y.0) ts y.1) same (nothing ts)
      by_test true k =
          let p = bind_some (f ts) (λ x. Some (Some x.0, x.1)) x k in
          let same : ◌≡◌ {A = Option X × List Lexeme} (Some p.0.0, p.0.1) x = cc in
          subst (λ (y : Option X × List Lexeme). Begins (Perhaps A y.0) ts y.1) same (finds ts p.0 p.1)

module _ {X Y : Type 0} (h : X → Y) (f : Reader X) (A : Spells X) (B : Spells Y) (finds : Finds f A) where
  -- what is made of what is read is spelled as that makes it
  pub shaped_found : ((x : X) (us : List Lexeme) → A x us → B (h x) us) → Finds (shaped h f) B
  shaped_found makes ts x e =
      let p = bind_some (f ts) (λ x. Some (h x.0, x.1)) x e in
      let same : ◌≡◌ {A = Y × List Lexeme} (h p.0.0, p.0.1) x = cc in
      subst (λ (y : Y × List Lexeme). Begins (B y.0) ts y.1) same (maps (makes p.0.0) (finds ts p.0 p.1))

-- ---- words

-- how the name of each type is spelled
abbrev pub word_text : TypeWord → List ℕ
word_text word.Any = codes "Any"
word_text word.Boolean = codes "Boolean"
word_text word.Hash = codes "Hash"
word_text word.Text = codes "String"
word_text word.Number = codes "Integer"
word_text word.Array = codes "Array"
word_text word.Optional = codes "Optional"
word_text word.Enum = codes "Enum"
word_text word.Variant = codes "Variant"

-- one test of a text, and what goes on where it fails
told_by : (s text : List ℕ) (w x : TypeWord) (other : Option TypeWord) → text ≡ word_text w → (other ≡ Some x → s ≡ word_text x) → cond (bytes_eq s text) (Some w) other ≡ Some x → s ≡ word_text x
told_by s text w x other e rest h = by_test (bytes_eq s text) refl h
  where
    by_test : (v : Bool) → bytes_eq s text ≡ v → cond v (Some w) other ≡ Some x → s ≡ word_text x
    by_test true t k = let same : w ≡ x = cc in (bytes_eq-Decides s text).0 t ∙ e ∙ ap word_text same
    by_test false t k = rest k

-- a text that is told to name a type is its name
type_word_is : (s : List ℕ) (x : TypeWord) → type_word s ≡ Some x → s ≡ word_text x
type_word_is s x h =
    told_by s (codes "Any") word.Any x _ refl (λ h. told_by s (codes "Boolean") word.Boolean x _ refl (λ h. told_by s (codes "Hash") word.Hash x _ refl (λ h.
    told_by s (codes "String") word.Text x _ refl (λ h. told_by s (codes "Integer") word.Number x _ refl (λ h. told_by s (codes "Array") word.Array x _ refl (λ h.
    told_by s (codes "Optional") word.Optional x _ refl (λ h. told_by s (codes "Enum") word.Enum x _ refl (λ h. told_by s (codes "Variant") word.Variant x None refl (λ h. cc) h) h) h) h) h) h) h) h) h

-- a token's kind is settled by what it means
abbrev pub IsWord : Spells TypeWord
IsWord w = phrases.Some kind.Ref (word_text w)

-- a token that names a type is spelled as its name
word_is : (k : Kind) (s : List ℕ) (x : TypeWord) (at : ℕ) → type_word_by k s ≡ Some x → IsWord x (token k s at)
word_is kind.Ref s x at h = (at, ap (λ (u : List ℕ). token kind.Ref u at) (type_word_is s x h))
word_is k s x at h = cc

-- what is read as the name of a type is spelled so
pub word_found : Finds (taken type_word_by) IsWord
word_found = taken_found type_word_by IsWord word_is

-- a number, as an INT spells it
abbrev pub IsNumber : Spells ℤ
IsNumber v us = (raw : List ℕ) × phrases.Some kind.Int raw us × (v ≡ pos (int_value raw))

-- a number that is told is that of the INT
number_value : (s : List ℕ) (v : ℤ) → number s ≡ Some v → v ≡ pos (int_value s)
number_value s v h = by_test (nat_lt (int_value s) (2 ^ 63)) h
  where
    by_test : (b : Bool) → cond b (Some (pos (int_value s))) None ≡ Some v → v ≡ pos (int_value s)
    by_test true k = cc
    by_test false k = cc

-- a token that is a number is spelled as it
number_is : (k : Kind) (s : List ℕ) (x : ℤ) (at : ℕ) → number_by k s ≡ Some x → IsNumber x (token k s at)
number_is kind.Int s x at h = (s, (at, refl), number_value s x h)
number_is k s x at h = cc

-- what is read as a number is spelled so
pub number_found : Finds (taken number_by) IsNumber
number_found = taken_found number_by IsNumber number_is

-- a token that is a text in single quotes is spelled as it
quoted_is : (k : Kind) (s x : List ℕ) (at : ℕ) → quoted_by k s ≡ Some x → QuotedText x (token k s at)
quoted_is kind.Sq s x at h = (s, (at, refl), sq_found s x h)
quoted_is k s x at h = cc

-- what is read as a text in single quotes is spelled so
pub quoted_found : Finds (taken quoted_by) QuotedText
quoted_found = taken_found quoted_by QuotedText quoted_is

-- ---- bounds

-- a comma and a number, or nothing
abbrev pub Upper : Spells (Option ℤ)
Upper = Perhaps (λ v. Sign (codes ",") then IsNumber v)

-- one number or two, and the `]` that closes them
abbrev pub Bounds : Spells (ℤ × Option ℤ)
Bounds b = (IsNumber b.0 then Upper b.1) then Sign (codes "]")

-- a tight `[` and bounds, or nothing
abbrev pub MaybeBounds : Spells (Option (ℤ × Option ℤ))
MaybeBounds = Perhaps (λ b. Tight then Bounds b)

-- what is read as an upper bound, or nothing, is spelled so
upper_found : Finds upper_with Upper
upper_found = optional_found (begins kind.Sign (codes ",")) (behind kind.Sign (codes ",") (taken number_by)) (λ v. Sign (codes ",") then IsNumber v) (behind_found (taken number_by) IsNumber number_found kind.Sign (codes ","))

-- what is read as bounds is spelled so
bounds_found : Finds bounds_with Bounds
bounds_found = before_found (both (taken number_by) upper_with) (λ b. IsNumber b.0 then Upper b.1) (both_found (taken number_by) upper_with IsNumber Upper number_found upper_found) kind.Sign (codes "]")

-- what is read as bounds in brackets, or nothing, is spelled so
maybe_bounds_found : Finds maybe_bounds MaybeBounds
maybe_bounds_found = optional_found (begins kind.Tight (codes "[")) (behind kind.Tight (codes "[") bounds_with) (λ b. Tight then Bounds b) (behind_found bounds_with Bounds bounds_found kind.Tight (codes "["))

-- the first of two phrases of which the second is empty
lone : (A : List Lexeme → Type 0) (us : List Lexeme) → (A then Nothing) us → A us
lone A us p = subst A (sym (p.whole ∙ ap (λ r. p.front ++ r) p.second ∙ append-nil p.front)) p.first

-- `[`, a number and `]`
lower_is : (v : ℤ) (us : List Lexeme) → (Tight then ((IsNumber v then Nothing) then Sign (codes "]"))) us → (raw : List ℕ) × (v ≡ pos (int_value raw)) × (Tight then phrases.Some kind.Int raw then Sign (codes "]")) us
lower_is v us p =
    let n = lone (IsNumber v) p.second.front p.second.first in
    (n.0, n.2, record { front = p.front; back = p.back; first = p.first; second = record { front = p.second.front; back = p.second.back; first = n.1; second = p.second.second; whole = p.second.whole }; whole = p.whole })

-- `[`, two numbers with a comma between them and `]`
both_are : (v w : ℤ) (us : List Lexeme) → (Tight then ((IsNumber v then (Sign (codes ",") then IsNumber w)) then Sign (codes "]"))) us
    → (low high : List ℕ) × (v ≡ pos (int_value low)) × (w ≡ pos (int_value high)) × (Tight then phrases.Some kind.Int low then phrases.Comma then phrases.Some kind.Int high then Sign (codes "]")) us
both_are v w us p =
    let s = p.second in
    let n = s.first in
    let c = n.second in
    let tail : (phrases.Comma then (phrases.Some kind.Int c.second.0 then Sign (codes "]"))) (n.back ++ s.back) = record {
      front = c.front;
      back = c.back ++ s.back;
      first = c.first;
      second = record { front = c.back; back = s.back; first = c.second.1; second = s.second; whole = refl };
      whole = ap (λ r. r ++ s.back) c.whole ∙ append_assoc c.front c.back s.back;
    } in (
      n.first.0,
      c.second.0,
      n.first.2,
      c.second.2,
      record {
        front = p.front;
        back = p.back;
        first = p.first;
        second = record { front = n.front; back = n.back ++ s.back; first = n.first.1; second = tail; whole = s.whole ∙ ap (λ r. r ++ s.back) n.whole ∙ append_assoc n.front n.back s.back };
        whole = p.whole;
      },
    )

-- ---- the rules

module _ (t : Reader TypeName) (T : Spells TypeName) (finds : Finds t T) where
  -- behind a word
  abbrev Behind : TypeWord → Spells TypeName
  Behind w y us = (vs : List Lexeme) → IsWord w vs → TypeOf T y (vs ++ us)

  -- a word, and tokens behind it
  with_word : (w : TypeWord) (B : List Lexeme → Type 0) (vs us : List Lexeme) → IsWord w vs → B us → (phrases.Some kind.Ref (word_text w) then B) (vs ++ us)
  with_word w B vs us v b = record { front = vs; back = us; first = v; second = b; whole = refl }

  -- a type that is a name alone ends there
  bare : (w : TypeWord) (y : TypeName) → ((us : List Lexeme) → IsWord w us → TypeOf T y us) → (ts : List Lexeme) → Begins (Behind w y) ts ts
  bare w y rule ts = record { front = []; spelled = λ vs v. subst (TypeOf T y) (sym (append-nil vs)) (rule vs v); whole = refl }

  -- `String` with bounds, or without, is a type
  text_is : (b : Option (ℤ × Option ℤ)) (us : List Lexeme) → MaybeBounds b us → Behind word.Text (text_type b) us
  text_is None us n vs v = grammar.TypeOf.text (pos 0) None refl (with_word word.Text (TextBounds (pos 0) None) vs us v (grammar.TextBounds.none refl refl n))
  text_is (Some (low, None)) us p vs v =
      let l = lower_is low us p in
      grammar.TypeOf.text low None refl (with_word word.Text (TextBounds low None) vs us v (grammar.TextBounds.lower l.0 l.1 refl l.2))
  text_is (Some (low, Some high)) us p vs v =
      let l = both_are low high us p in
      grammar.TypeOf.text low (Some high) refl (with_word word.Text (TextBounds low (Some high)) vs us v (grammar.TextBounds.both l.0 l.1 l.2 (ap Some l.3) l.4))

  -- `Integer` with bounds, or without, is a type
  number_type_is : (b : Option (ℤ × Option ℤ)) (us : List Lexeme) → MaybeBounds b us → Behind word.Number (number_type b) us
  number_type_is None us n vs v = grammar.TypeOf.number None None refl (with_word word.Number (NumberBounds None None) vs us v (grammar.NumberBounds.none refl refl n))
  number_type_is (Some (low, None)) us p vs v =
      let l = lower_is low us p in
      grammar.TypeOf.number (Some low) None refl (with_word word.Number (NumberBounds (Some low) None) vs us v (grammar.NumberBounds.lower l.0 (ap Some l.1) refl l.2))
  number_type_is (Some (low, Some high)) us p vs v =
      let l = both_are low high us p in
      grammar.TypeOf.number (Some low) (Some high) refl (with_word word.Number (NumberBounds (Some low) (Some high)) vs us v (grammar.NumberBounds.both l.0 l.1 (ap Some l.2) (ap Some l.3) l.4))

  -- between a tight `[` and `]`
  abbrev Bracketed : (List Lexeme → Type 0) → List Lexeme → Type 0
  Bracketed A = Tight then A then Sign (codes "]")

  -- what is read as a type in brackets is spelled so
  member_found : Finds (member_with t) (λ y. Bracketed (T y))
  member_found = behind_found (before t kind.Sign (codes "]")) (λ y. T y then Sign (codes "]")) (before_found t T finds kind.Sign (codes "]")) kind.Tight (codes "[")

  -- `Array` with a type in brackets, or without, is a type
  array_is : (m : Option TypeName) (us : List Lexeme) → Perhaps (λ y. Bracketed (T y)) m us → Behind word.Array (type.Array m) us
  array_is None us n vs v = grammar.array refl (subst (phrases.Some kind.Ref (codes "Array")) (sym (ap (λ r. vs ++ r) n ∙ append-nil vs)) v)
  array_is (Some m) us p vs v = grammar.array_of m refl (with_word word.Array (Bracketed (T m)) vs us v p)

  -- what is read as types in brackets is spelled so
  members_found : Finds (members_with t) (λ ys. Bracketed (Listed T ys))
  members_found = behind_found (members_in t) (λ ys. Listed T ys then Sign (codes "]")) (λ ts x h. items_found t T finds (codes "]") (length ts + 1) ts x h) kind.Tight (codes "[")

  -- what is read as texts in brackets is spelled so
  texts_found : Finds texts_with (λ ss. Bracketed (Listed QuotedText ss))
  texts_found = behind_found texts_in (λ ss. Listed QuotedText ss then Sign (codes "]")) (λ ts x h. items_found (taken quoted_by) QuotedText quoted_found (codes "]") (length ts + 1) ts x h) kind.Tight (codes "[")

  -- the same place, and what stands there
  ended : (w : TypeWord) (y : TypeName) (ts : List Lexeme) (x : TypeName × List Lexeme) → Some (y, ts) ≡ Some x → Begins (Behind w y) ts ts → Begins (Behind w x.0) ts x.1
  ended w y ts x h b =
      let same : ◌≡◌ {A = TypeName × List Lexeme} (y, ts) x = cc in
      subst (λ (z : TypeName × List Lexeme). Begins (Behind w z.0) ts z.1) same b

  -- what is read behind the name of a type makes a type with it
  behind_word : (w : TypeWord) → Finds (type_by t w) (Behind w)
  behind_word word.Any ts x h = ended word.Any type.Any ts x h (bare word.Any type.Any (λ us v. grammar.any refl v) ts)
  behind_word word.Boolean ts x h = ended word.Boolean type.Boolean ts x h (bare word.Boolean type.Boolean (λ us v. grammar.boolean refl v) ts)
  behind_word word.Hash ts x h = ended word.Hash type.Hash ts x h (bare word.Hash type.Hash (λ us v. grammar.hash refl v) ts)
  behind_word word.Text ts x h = shaped_found text_type maybe_bounds MaybeBounds (Behind word.Text) maybe_bounds_found text_is ts x h
  behind_word word.Number ts x h = shaped_found number_type maybe_bounds MaybeBounds (Behind word.Number) maybe_bounds_found number_type_is ts x h
  behind_word word.Array ts x h = shaped_found type.Array (maybe_member t) (Perhaps (λ y. Bracketed (T y))) (Behind word.Array) (optional_found (begins kind.Tight (codes "[")) (member_with t) (λ y. Bracketed (T y)) member_found) array_is ts x h
  behind_word word.Optional ts x h = shaped_found type.Optional (member_with t) (λ y. Bracketed (T y)) (Behind word.Optional) member_found (λ m us p vs v. grammar.optional m refl (with_word word.Optional (Bracketed (T m)) vs us v p)) ts x h
  behind_word word.Enum ts x h = shaped_found type.Enum texts_with (λ ss. Bracketed (Listed QuotedText ss)) (Behind word.Enum) texts_found (λ ss us p vs v. grammar.enum ss refl (with_word word.Enum (Bracketed (Listed QuotedText ss)) vs us v p)) ts x h
  behind_word word.Variant ts x h = shaped_found type.Variant (members_with t) (λ ys. Bracketed (Listed T ys)) (Behind word.Variant) members_found (λ ys us p vs v. grammar.variant ys refl (with_word word.Variant (Bracketed (Listed T ys)) vs us v p)) ts x h

  -- what is read as a type is spelled so, if it holds of those in its brackets
  type_found : Finds (type_with t) (TypeOf T)
  type_found ts x h =
      let p = bind_some (taken type_word_by ts) (λ w. type_by t w.0 w.1) x h in
      let w = word_found ts p.0 p.1 in
      let b = behind_word p.0.0 p.0.1 x p.2 in
      record { front = w.front ++ b.front; spelled = b.spelled w.front w.spelled; whole = w.whole ∙ ap (λ r. w.front ++ r) b.whole ∙ sym (append_assoc w.front b.front x.1) }

-- what is read as a type is spelled so, with brackets nested less deep than this
pub type_at_found : (depth : ℕ) → Finds (type_at depth) (IsTypeAt depth)
type_at_found zero ts x h = cc
type_at_found (suc depth) ts x h = type_found (type_at depth) (IsTypeAt depth) (type_at_found depth) ts x h
