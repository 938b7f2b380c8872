-- The two cases of the grammar within `${` and `}` are those of the derivation.
use Rattle.std.proofs.Common.{◌≡◌, ℕ, zero, suc, ◌<◌, List, [], ◌∷◌, ◌++◌, length, refl, sym, ap, subst, ◌∙◌, arith, length-append, append_assoc}
use Rattle.std.specs.Prelude.{Option, codes}
use Rattle.std.specs.Prelude as prelude
use Rattle.pp_syntax.specs.declared.token.Kind.{Kind}
use Rattle.pp_syntax.specs.declared.token.Kind.TheVariants as kind
use Rattle.pp_syntax.specs.declared.tree.Expr.{Expr}
use Rattle.pp_syntax.specs.declared.tree.Op.{Op}
use Rattle.pp_syntax.specs.declared.tree.Form.{Form, Form-F, out-Form}
use Rattle.pp_syntax.specs.declared.tree.Form.TheVariants as form
use Rattle.pp_syntax.specs.declared.tree.Form.TheVariants.{outs-Str, outs-Index, outs-Chain, outs-Prefix, outs-Select}
use Rattle.pp_syntax.specs.declared.tree.Form.TheOpen as plain
use Rattle.pp_syntax.specs.Tokens.{Lexeme}
use Rattle.pp_syntax.specs.Phrases.{◌then◌, Token, Sign, Tight, place_of}
use Rattle.pp_syntax.specs.Derivation.{ReadAsVariable, base, index, kind_of_first, InnerOf, ChainOf, UnaryOf, StringOf, PrimaryOf, SuffixOf, SuffixesOf, PostfixOf, ExprOf, IsExprAt, IsExpr}
use Rattle.pp_syntax.specs.Holes.{IndexesOf, WordOf, IsInner}
use Rattle.pp_syntax.specs.Holes as hole
use Rattle.pp_readers.specs.Parsed.{NumbersFit}
use Rattle.pp_readers.proofs.ExpressionLaws.{same_expression}
use Rattle.pp_parser.proofs.Within.{few_brackets}

-- a form, opened one step
abbrev Open : Type 0
Open = Form-F Form Expr

-- ---- a WORD with indexes behind it is an expression

-- an operand with what stands behind it is an expression
lifted : (E : Expr → List Lexeme → Type 0) (y : Expr) (ts : List Lexeme) → PostfixOf E y ts → ExprOf E y ts
lifted E y ts h = ChainOf.operand (ChainOf.operand (ChainOf.operand (ChainOf.operand (ChainOf.operand (ChainOf.operand (ChainOf.operand (UnaryOf.operand h)))))))

-- an index of few tokens is nested less deep than they are
key_within : (n : ℕ) (key : Expr) (us : List Lexeme) → length us < n → (Tight then IsExpr key then Sign (codes "]")) us → (Tight then IsExprAt n key then Sign (codes "]")) us
key_within n key us l h = record {
  front = h.front;
  back = h.back;
  first = h.first;
  second = record {
    front = h.second.front;
    back = h.second.back;
    first = few_brackets n h.second.first.0 key h.second.front (omega (arith, l, ap length h.whole, length-append h.front h.back, ap length h.second.whole, length-append h.second.front h.second.back)) h.second.first.1;
    second = h.second.second;
    whole = h.second.whole;
  };
  whole = h.whole;
}

-- indexes behind a variable are indexes behind the word that is read as it
indexes_spelled : (n at : ℕ) {b y : Expr} {ts : List Lexeme} → IndexesOf IsExpr at b y ts → length ts < n → (a : Expr) → ReadAsVariable a b → (x : Expr) × SuffixesOf (IsExprAt n) at a x ts × ReadAsVariable x y
indexes_spelled n at (hole.none e t) l a r = (a, SuffixesOf.none refl t, subst (ReadAsVariable a) e r)
indexes_spelled n at {b} (hole.one z key front back w d is here more) l a r =
    let x : Expr = record { at = at; form = form.Index a key } in
    let short : length front < n = omega (arith, l, ap length w, length-append front back) in
    let rest_short : length back < n = omega (arith, l, ap length w, length-append front back) in
    let rest = indexes_spelled n at more rest_short x (index a b key refl is here r) in
    (rest.0, SuffixesOf.one x front back w (SuffixOf.index key (key_within n key front short d) refl) refl rest.1, rest.2)

-- an expression that begins with a word and is read as this variable
record Spelled (y : Expr) (ts : List Lexeme) : Type 0 where
  x : Expr
  expression : IsExprAt (suc (length ts)) x ts
  read : ReadAsVariable x y
  first : kind_of_first ts ≡ prelude.Some kind.Word

-- a WORD with indexes is such an expression
word_spelled : (y : Expr) (ts : List Lexeme) → WordOf IsExpr y ts → Spelled y ts
word_spelled y ts h =
    let a : Expr = record { at = h.variable.at; form = form.Str h.name } in
    let t : Lexeme = record { kind = kind.Word; text = h.name; at = h.variable.at } in
    let r = indexes_spelled (length ts) h.variable.at h.indexes (omega (arith, ap length h.whole)) a (base h.name refl h.form_is refl) in
    record {
      x = r.0;
      expression = lifted (IsExprAt (length ts)) r.0 ts (record {
        operand = a;
        front = t ∷ [];
        back = h.back;
        primary = PrimaryOf.word h.name refl refl;
        suffixes = subst (λ (at : ℕ). SuffixesOf (IsExprAt (length ts)) at a r.0 h.back) (sym (ap place_of h.whole)) r.1;
        whole = h.whole;
      });
      read = r.2;
      first = ap kind_of_first h.whole;
    }

-- ---- an expression that is a WORD with indexes behind it is one

-- a text, opened, is a text
str_is : (name : List ℕ) (f : Form) (d : Open) → f ≡ form.Str name → out-Form f ≡ d → plain.Str name ≡ d
str_is name f d e h = sym (outs-Str name) ∙ ap out-Form (sym e) ∙ h

-- an index, opened, is an index
index_is : (a k : Expr) (f : Form) (d : Open) → f ≡ form.Index a k → out-Form f ≡ d → ◌≡◌ {A = Open} (plain.Index a k) d
index_is a k f d e h = sym (outs-Index a k) ∙ ap out-Form (sym e) ∙ h

-- what is read as a variable is no chain of operators
no_chain : (x y first : Expr) (more : List (Op × Expr)) → ReadAsVariable x y → x.form ≡ form.Chain first more → ⊥
no_chain x y first more (base name e f g) h = let p : ◌≡◌ {A = Open} (plain.Str name) (plain.Chain first more) = str_is name x.form (plain.Chain first more) e (ap out-Form h ∙ outs-Chain first more) in cc
no_chain x y first more (index a b k e f g r) h = let p : ◌≡◌ {A = Open} (plain.Index a k) (plain.Chain first more) = index_is a k x.form (plain.Chain first more) e (ap out-Form h ∙ outs-Chain first more) in cc

-- and has no prefix
no_prefix : (x y z : Expr) (ops : List Op) → ReadAsVariable x y → x.form ≡ form.Prefix ops z → ⊥
no_prefix x y z ops (base name e f g) h = let p : ◌≡◌ {A = Open} (plain.Str name) (plain.Prefix ops z) = str_is name x.form (plain.Prefix ops z) e (ap out-Form h ∙ outs-Prefix ops z) in cc
no_prefix x y z ops (index a b k e f g r) h = let p : ◌≡◌ {A = Open} (plain.Index a k) (plain.Prefix ops z) = index_is a k x.form (plain.Prefix ops z) e (ap out-Form h ∙ outs-Prefix ops z) in cc

-- and is no selection
no_select : (x y z : Expr) (cs : List (Option Expr × Expr)) → ReadAsVariable x y → x.form ≡ form.Select z cs → ⊥
no_select x y z cs (base name e f g) h = let p : ◌≡◌ {A = Open} (plain.Str name) (plain.Select z cs) = str_is name x.form (plain.Select z cs) e (ap out-Form h ∙ outs-Select z cs) in cc
no_select x y z cs (index a b k e f g r) h = let p : ◌≡◌ {A = Open} (plain.Index a k) (plain.Select z cs) = index_is a k x.form (plain.Select z cs) e (ap out-Form h ∙ outs-Select z cs) in cc

-- the base of an index, as a variable
record Based (a key y : Expr) : Type 0 where
  b : Expr
  form_is : y.form ≡ form.Index b key
  read : ReadAsVariable a b

-- an index that is read as a variable is an index of what its base is read as, at the same place
based : (x y a key : Expr) → ReadAsVariable x y → x.form ≡ form.Index a key → (y.at ≡ x.at) × Based a key y
based x y a key (base name e f g) h = let p : ◌≡◌ {A = Open} (plain.Str name) (plain.Index a key) = str_is name x.form (plain.Index a key) e (ap out-Form h ∙ outs-Index a key) in cc
based x y a key (index c b k e f g r) h =
    let p : ◌≡◌ {A = Open} (plain.Index c k) (plain.Index a key) = index_is c k x.form (plain.Index a key) e (ap out-Form h ∙ outs-Index a key) in
    let same : c ≡ a = cc in
    let keys : k ≡ key = cc in
    (g, record { b = b; form_is = f ∙ ap (λ (j : Expr). form.Index b j) keys; read = subst (λ (d : Expr). ReadAsVariable d b) same r })

-- an index at some depth is an index
key_any : (d : ℕ) (key : Expr) (us : List Lexeme) → (Tight then IsExprAt d key then Sign (codes "]")) us → (Tight then IsExpr key then Sign (codes "]")) us
key_any d key us h = record {
  front = h.front;
  back = h.back;
  first = h.first;
  second = record { front = h.second.front; back = h.second.back; first = (d, h.second.first); second = h.second.second; whole = h.second.whole };
  whole = h.whole;
}

-- indexes behind a word are indexes behind the variable that it is read as
suffixes_are : (d at : ℕ) {a x : Expr} {ts : List Lexeme} → SuffixesOf (IsExprAt d) at a x ts → (y : Expr) → ReadAsVariable x y → (b : Expr) × ReadAsVariable a b × IndexesOf IsExpr at b y ts
suffixes_are d at {a} (SuffixesOf.none e t) y r = (y, subst (λ (c : Expr). ReadAsVariable c y) (sym e) r, hole.none refl t)
suffixes_are d at {a} {x} {ts} (SuffixesOf.one z front back w s here more) y r = by_suffix s (suffixes_are d at more y r)
  where
    by_suffix : SuffixOf (IsExprAt d) a z front → (b : Expr) × ReadAsVariable z b × IndexesOf IsExpr at b y back → (b : Expr) × ReadAsVariable a b × IndexesOf IsExpr at b y ts
    by_suffix (SuffixOf.index key k is) rest =
        let c = based z rest.0 a key rest.1 is in
        (c.1.b, c.1.read, hole.one rest.0 key front back w (key_any d key front k) c.1.form_is (c.0 ∙ here) rest.2)
    by_suffix (SuffixOf.selection cs k is) rest = absurd (no_select z rest.0 a cs rest.1 is)

-- the first token of tokens that begin with one
first_kind : (k : Kind) (s : List ℕ) (at : ℕ) (us more : List Lexeme) → Token k s at us → kind_of_first (us ++ more) ≡ prelude.Some k
first_kind k s at us more t = ap (λ (l : List Lexeme). kind_of_first (l ++ more)) t

-- the first token of two phrases is that of the first one
first_of_then : (A B : List Lexeme → Type 0) (k : Kind) (us more : List Lexeme) → ((vs ws : List Lexeme) → A vs → kind_of_first (vs ++ ws) ≡ prelude.Some k) → (A then B) us → kind_of_first (us ++ more) ≡ prelude.Some k
first_of_then A B k us more f h = ap (λ (l : List Lexeme). kind_of_first (l ++ more)) h.whole ∙ ap kind_of_first (append_assoc h.front h.back more) ∙ f h.front (h.back ++ more) h.first

-- no other operand begins with a WORD and is read as a variable
word_operand : (d : ℕ) (x b : Expr) (us more : List Lexeme) → PrimaryOf (IsExprAt d) x us → ReadAsVariable x b → kind_of_first (us ++ more) ≡ prelude.Some kind.Word
    → (name : List ℕ) × Token kind.Word name x.at us × (b.form ≡ form.Var name) × (b.at ≡ x.at)
word_operand d x b us more (PrimaryOf.word name t is) (base n e f g) w =
    let p : plain.Str n ≡ plain.Str name = str_is n x.form (plain.Str name) e (ap out-Form is ∙ outs-Str name) in
    let same : n ≡ name = cc in
    (name, t, f ∙ ap (λ (m : List ℕ). form.Var m) same, g)
word_operand d x b us more (PrimaryOf.word name t is) (index a c k e f g r) w =
    let p : ◌≡◌ {A = Open} (plain.Index a k) (plain.Str name) = index_is a k x.form (plain.Str name) e (ap out-Form is ∙ outs-Str name) in cc
word_operand d x b us more (PrimaryOf.int raw t is) r w = let h = sym (first_kind kind.Int raw x.at us more t) ∙ w in cc
word_operand d x b us more (PrimaryOf.variable name t is) r w = let h = sym (first_kind kind.Var (36 ∷ name) x.at us more t) ∙ w in cc
word_operand d x b us more (PrimaryOf.truth t is) r w = let h = sym (first_kind kind.Keyword (codes "true") x.at us more t) ∙ w in cc
word_operand d x b us more (PrimaryOf.falsehood t is) r w = let h = sym (first_kind kind.Keyword (codes "false") x.at us more t) ∙ w in cc
word_operand d x b us more (PrimaryOf.undefined t is) r w = let h = sym (first_kind kind.Keyword (codes "undef") x.at us more t) ∙ w in cc
word_operand d x b us more (PrimaryOf.string (StringOf.single value raw t v is)) r w = let h = sym (first_kind kind.Sq raw x.at us more t) ∙ w in cc
word_operand d x b us more (PrimaryOf.string (StringOf.plain value t is)) r w = let h = sym (first_of_then _ _ kind.DqOpen us more (λ vs ws k. first_kind kind.DqOpen (codes "\"") x.at vs ws k) t) ∙ w in cc
word_operand d x b us more (PrimaryOf.string (StringOf.joined ms t is)) r w = let h = sym (first_of_then _ _ kind.DqOpen us more (λ vs ws k. first_kind kind.DqOpen (codes "\"") x.at vs ws k) t) ∙ w in cc
word_operand d x b us more (PrimaryOf.enclosed t) r w = let h = sym (first_of_then _ _ kind.Sign us more (λ vs ws k. first_kind kind.Sign (codes "(") k.0 vs ws k.1) t) ∙ w in cc
word_operand d x b us more (PrimaryOf.list members t is) r w = let h = sym (first_of_then _ _ kind.Loose us more (λ vs ws k. first_kind kind.Loose (codes "[") x.at vs ws k) t) ∙ w in cc
word_operand d x b us more (PrimaryOf.map pairs t is) r w = let h = sym (first_of_then _ _ kind.Sign us more (λ vs ws k. first_kind kind.Sign (codes "{") x.at vs ws k) t) ∙ w in cc
word_operand d x b us more (PrimaryOf.reference t) r w = let h = sym (first_of_then _ _ kind.Ref us more (λ vs ws k. first_kind kind.Ref t.name x.at vs ws k) t.spelled) ∙ w in cc

-- an operand that begins with a WORD and is read as a variable is a WORD with indexes
word_postfix : (d : ℕ) (x y : Expr) (ts : List Lexeme) → PostfixOf (IsExprAt d) x ts → ReadAsVariable x y → kind_of_first ts ≡ prelude.Some kind.Word → WordOf IsExpr y ts
word_postfix d x y ts h r w =
    let i = suffixes_are d (place_of ts) h.suffixes y r in
    let o = word_operand d h.operand i.0 h.front h.back h.primary i.1 (sym (ap kind_of_first h.whole) ∙ w) in
    let t : Lexeme = record { kind = kind.Word; text = o.0; at = i.0.at } in
    let whole : ts ≡ t ∷ h.back = h.whole ∙ ap (λ (l : List Lexeme). l ++ h.back) (o.1 ∙ ap (λ (at : ℕ). record { kind = kind.Word; text = o.0; at = at } ∷ []) (sym o.3)) in
    record { variable = i.0; name = o.0; back = h.back; whole = whole; form_is = o.2; indexes = subst (λ (at : ℕ). IndexesOf IsExpr at i.0 y h.back) (ap place_of whole) i.2 }

-- a chain that is read as a variable is its one operand
stripped : (level : ℕ) (A : Expr → List Lexeme → Type 0) (x y : Expr) (ts : List Lexeme) → ReadAsVariable x y → ChainOf level A x ts → A x ts
stripped level A x y ts r (ChainOf.operand h) = h
stripped level A x y ts r (ChainOf.chain first o more is at h) = absurd (no_chain x y first (o ∷ more) r is)

-- an operand that is read as a variable has no prefix
unprefixed : (E : Expr → List Lexeme → Type 0) (x y : Expr) (ts : List Lexeme) → ReadAsVariable x y → UnaryOf E x ts → PostfixOf E x ts
unprefixed E x y ts r (UnaryOf.operand h) = h
unprefixed E x y ts r (UnaryOf.prefixed o more z is at h) = absurd (no_prefix x y z (o ∷ more) r is)

-- an expression that begins with a WORD and is read as a variable is a WORD with indexes
word_is : (x y : Expr) (ts : List Lexeme) → IsExpr x ts → ReadAsVariable x y → kind_of_first ts ≡ prelude.Some kind.Word → WordOf IsExpr y ts
word_is x y ts (zero, h) r w = absurd h
word_is x y ts (suc d, h) r w =
    word_postfix d x y ts
    (unprefixed (IsExprAt d) x y ts r (stripped 6 _ x y ts r (stripped 5 _ x y ts r (stripped 4 _ x y ts r (stripped 3 _ x y ts r (stripped 2 _ x y ts r (stripped 1 _ x y ts r (stripped 0 _ x y ts r h)))))))) r w

-- ---- both ways

-- an expression isn't nested deeper than it has tokens
at_length : (x : Expr) (ts : List Lexeme) → IsExpr x ts → IsExprAt (suc (length ts)) x ts
at_length x ts h = few_brackets (suc (length ts)) h.0 x ts (omega arith) h.1

-- what the derivation has within `${` and `}` is one of the two cases of the grammar
pub holes_are_cases : (y : Expr) (ts : List Lexeme) → NumbersFit ts → InnerOf IsExpr y ts → IsInner IsExpr y ts
holes_are_cases y ts fit (InnerOf.variable x w h r) = hole.word (word_is x y ts h r w)
holes_are_cases y ts fit (InnerOf.other h none) = hole.expression h (λ z k.
    let s = word_spelled z ts k in
    none s.first z (subst (λ (x : Expr). ReadAsVariable x z) (same_expression (suc (length ts)) s.x y ts s.expression (at_length y ts h) fit) s.read))

-- and each of the two cases is what the derivation has there
pub cases_are_holes : (y : Expr) (ts : List Lexeme) → IsInner IsExpr y ts → InnerOf IsExpr y ts
cases_are_holes y ts (hole.word k) = let s = word_spelled y ts k in InnerOf.variable s.x s.first (suc (length ts), s.expression) s.read
cases_are_holes y ts (hole.expression h none) = InnerOf.other h (λ w z r. none z (word_is y z ts h r w))
