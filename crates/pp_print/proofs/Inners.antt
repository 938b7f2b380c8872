-- What stands within `${` and `}` is spelled again: a word there, with nothing but indexes behind it, is a variable.
use Rattle.std.proofs.Common.{◌≡◌, inr, ℕ, zero, suc, ◌+◌, Bool, true, false, cond, List, [], ◌∷◌, ◌++◌, length, refl, sym, ap, subst, ◌∙◌, append_assoc, arith}
use Rattle.std.specs.Prelude.{Option, codes}
use Rattle.std.specs.Prelude as prelude
use Rattle.pp_syntax.specs.declared.token.Kind.{Kind}
use Rattle.pp_syntax.specs.declared.token.Kind.TheVariants as kind
use Rattle.pp_syntax.specs.declared.tree.Expr.{Expr}
use Rattle.pp_syntax.specs.declared.tree.Form.{Form, Form-F, out-Form, roll-Form, map-Form, roll-out-Form, out-roll-Form}
use Rattle.pp_syntax.specs.declared.tree.Form.TheVariants as form
use Rattle.pp_syntax.specs.declared.tree.Form.TheVariants.{outs-Str, outs-Index, outs-Chain, outs-Prefix, outs-Select, rolls-Str, rolls-Index}
use Rattle.pp_syntax.specs.declared.tree.Form.TheOpen as plain
use Rattle.pp_syntax.specs.declared.tree.Op.{Op}
use Rattle.pp_syntax.specs.Tokens.{Lexeme}
use Rattle.pp_syntax.specs.Phrases.{◌then◌, Token}
use Rattle.pp_syntax.specs.Derivation.{Rule, ReadAsVariable, base, index, kind_of_first, InnerOf, ChainOf, UnaryOf, PrimaryOf, SuffixesOf, PostfixOf, ExprOf, IsExprAt, IsExpr}
use Rattle.pp_syntax.specs.Derivation as rule
use Rattle.pp_syntax.specs.TokenValues.{SqOf, sq_value}
use Rattle.pp_print.specs.declared.words.Word.{Word}
use Rattle.pp_print.specs.Words.{word, quoted, variable, has_dash, escaped, in_parens, in_tight}
use Rattle.pp_print.specs.Expressions.{Printed, printed, printed_form, expr_words}
use Rattle.pp_print.specs.Places.{unplaced, unplaced_form}
use Rattle.pp_print.proofs.Forms.{printed_str, printed_var, printed_at}
use Rattle.pp_print.proofs.Unplaced.{rolled, unplaced_at}
use Rattle.pp_print.proofs.Escapes.{escaped_reads}
use Rattle.pp_print.proofs.Phrases.{words_in, parts, one_word, AllStand, Small}
use Rattle.pp_print.proofs.Reprints.{looser_to}
use Rattle.pp_print.proofs.Postfixes.{Nested, inside_of, expression_again}

-- a form, opened one step
abbrev Open : Type 0
Open = Form-F Form Expr

-- ---- forms told apart

-- a text, opened, is a text
pub str_no : (name : List ℕ) (f : Form) (d : Open) → form.Str name ≡ f → out-Form f ≡ d → plain.Str name ≡ d
str_no name f d e h = sym (outs-Str name) ∙ ap out-Form e ∙ h

-- an index, opened, is an index
pub at_no : (a k : Expr) (f : Form) (d : Open) → form.Index a k ≡ f → out-Form f ≡ d → ◌≡◌ {A = Open} (plain.Index a k) d
at_no a k f d e h = sym (outs-Index a k) ∙ ap out-Form e ∙ h

-- what is read as a variable is no chain of operators
no_chain : (x v first : Expr) (more : List (Op × Expr)) → ReadAsVariable x v → x.form ≡ form.Chain first more → ⊥
no_chain x v first more (base name e f g) h = let p : ◌≡◌ {A = Open} (plain.Str name) (plain.Chain first more) = str_no name (form.Chain first more) (plain.Chain first more) (sym e ∙ h) (outs-Chain first more) in cc
no_chain x v first more (index a b k e f g r) h = let p : ◌≡◌ {A = Open} (plain.Index a k) (plain.Chain first more) = at_no a k (form.Chain first more) (plain.Chain first more) (sym e ∙ h) (outs-Chain first more) in cc

-- and has no prefix
no_prefix : (x v z : Expr) (ops : List Op) → ReadAsVariable x v → x.form ≡ form.Prefix ops z → ⊥
no_prefix x v z ops (base name e f g) h = let p : ◌≡◌ {A = Open} (plain.Str name) (plain.Prefix ops z) = str_no name (form.Prefix ops z) (plain.Prefix ops z) (sym e ∙ h) (outs-Prefix ops z) in cc
no_prefix x v z ops (index a b k e f g r) h = let p : ◌≡◌ {A = Open} (plain.Index a k) (plain.Prefix ops z) = at_no a k (form.Prefix ops z) (plain.Prefix ops z) (sym e ∙ h) (outs-Prefix ops z) in cc

-- and is no selection
pub no_select : (x v z : Expr) (cs : List (Option Expr × Expr)) → ReadAsVariable x v → x.form ≡ form.Select z cs → ⊥
no_select x v z cs (base name e f g) h = let p : ◌≡◌ {A = Open} (plain.Str name) (plain.Select z cs) = str_no name (form.Select z cs) (plain.Select z cs) (sym e ∙ h) (outs-Select z cs) in cc
no_select x v z cs (index a b k e f g r) h = let p : ◌≡◌ {A = Open} (plain.Index a k) (plain.Select z cs) = at_no a k (form.Select z cs) (plain.Select z cs) (sym e ∙ h) (outs-Select z cs) in cc

-- ---- the same, places aside

-- a form without places, opened, is what its opened form is without
by_out : (f : Form) (g : Open) → unplaced_form f ≡ roll-Form g → map-Form Form Expr Form Expr unplaced_form unplaced (out-Form f) ≡ g
by_out f g h = sym (out-roll-Form (map-Form Form Expr Form Expr unplaced_form unplaced (out-Form f))) ∙ ap out-Form (sym (rolled (out-Form f)) ∙ ap unplaced_form (roll-out-Form f) ∙ h) ∙ out-roll-Form g

-- a form that without places is a text is that text
str_case : (name : List ℕ) (f : Form) (d : Open) → f ≡ roll-Form d → map-Form Form Expr Form Expr unplaced_form unplaced d ≡ plain.Str name → f ≡ form.Str name
str_case name f (plain.Str text) e h = let same : text ≡ name = cc in e ∙ rolls-Str text ∙ ap (λ (t : List ℕ). form.Str t) same
str_case name f (plain.Int n) e h = cc
str_case name f (plain.Var n) e h = cc
str_case name f (plain.Bool b) e h = cc
str_case name f plain.Undef e h = cc
str_case name f (plain.List xs) e h = cc
str_case name f (plain.Map ps) e h = cc
str_case name f (plain.Refer n xs) e h = cc
str_case name f (plain.Join xs) e h = cc
str_case name f (plain.Chain x more) e h = cc
str_case name f (plain.Prefix ops x) e h = cc
str_case name f (plain.Index a k) e h = cc
str_case name f (plain.Select x cs) e h = cc

-- a form that without places is an index is an index of what is so without places
at_case : (a k : Expr) (f : Form) (d : Open) → f ≡ roll-Form d → map-Form Form Expr Form Expr unplaced_form unplaced d ≡ plain.Index a k → (b : Expr) × (j : Expr) × (f ≡ form.Index b j) × (unplaced b ≡ a) × (unplaced j ≡ k)
at_case a k f (plain.Index b j) e h = let left : unplaced b ≡ a = cc in let right : unplaced j ≡ k = cc in (b, j, e ∙ rolls-Index b j, left, right)
at_case a k f (plain.Str text) e h = cc
at_case a k f (plain.Int n) e h = cc
at_case a k f (plain.Var n) e h = cc
at_case a k f (plain.Bool b) e h = cc
at_case a k f plain.Undef e h = cc
at_case a k f (plain.List xs) e h = cc
at_case a k f (plain.Map ps) e h = cc
at_case a k f (plain.Refer n xs) e h = cc
at_case a k f (plain.Join xs) e h = cc
at_case a k f (plain.Chain x more) e h = cc
at_case a k f (plain.Prefix ops x) e h = cc
at_case a k f (plain.Select x cs) e h = cc

-- a text has no places
unplaced_str : (name : List ℕ) → unplaced_form (form.Str name) ≡ form.Str name
unplaced_str name = sym (ap unplaced_form (rolls-Str name)) ∙ rolled (plain.Str name) ∙ rolls-Str name

-- What is the same as a text with indexes, places aside, is one too, and so are the two with a variable in its place.
transport : (y z w : Expr) → unplaced y ≡ unplaced z → ReadAsVariable z w → (v : Expr) × ReadAsVariable y v × (unplaced v ≡ unplaced w)
transport y z w same (base name e f g) =
    let h : unplaced_form y.form ≡ roll-Form (plain.Str name) = ap (λ (x : Expr). x.form) same ∙ ap unplaced_form e ∙ unplaced_str name ∙ sym (rolls-Str name) in (
      record { at = y.at; form = form.Var name },
      base name (str_case name y.form (out-Form y.form) (sym (roll-out-Form y.form)) (by_out y.form (plain.Str name) h)) refl refl,
      ap (λ (k : Form). record { at = 0; form = k }) (ap unplaced_form (sym f)),
    )
transport y z w same (index a b k e f g r) =
    let h : unplaced_form y.form ≡ roll-Form (plain.Index (unplaced a) (unplaced k)) = ap (λ (x : Expr). x.form) same ∙ ap unplaced_form e ∙ unplaced_at a k ∙ sym (rolls-Index (unplaced a) (unplaced k)) in
    let c = at_case (unplaced a) (unplaced k) y.form (out-Form y.form) (sym (roll-out-Form y.form)) (by_out y.form (plain.Index (unplaced a) (unplaced k)) h) in
    let t = transport c.0 a b c.3 r in (
      record { at = y.at; form = form.Index t.0 c.1 },
      index c.0 t.0 c.1 c.2 refl refl t.1,
      ap (λ (q : Form). record { at = 0; form = q }) (unplaced_at t.0 c.1 ∙ ap (λ (p : Expr). form.Index p (unplaced c.1)) t.2 ∙ ap (λ (p : Expr). form.Index (unplaced b) p) c.4 ∙ sym (unplaced_at b k) ∙ ap unplaced_form (sym f)),
    )

-- ---- words

-- the text that begins an expression, and the variable that begins what it is read as, with the same words behind them
pub record Texts (x y : Expr) : Type 0 where
  pub name : List ℕ
  pub more : List Word
  pub text : expr_words x ≡ quoted name ++ more
  pub read : expr_words y ≡ variable name ++ more
  pub text_indexed : (printed x).indexable ≡ true
  pub read_indexed : (printed y).indexable ≡ true

-- what is read as a variable begins with a text, and the words behind that stay
pub texts_of : (x y : Expr) → ReadAsVariable x y → Texts x y
texts_of x y (base name e f g) = record {
  name = name;
  more = [];
  text = ap (λ (k : Form). (printed_form k).words) e ∙ ap (λ (p : Printed). p.words) (printed_str name);
  read = ap (λ (k : Form). (printed_form k).words) f ∙ ap (λ (p : Printed). p.words) (printed_var name) ∙ by_dash (has_dash name);
  text_indexed = ap (λ (k : Form). (printed_form k).indexable) e ∙ ap (λ (p : Printed). p.indexable) (printed_str name);
  read_indexed = ap (λ (k : Form). (printed_form k).indexable) f ∙ ap (λ (p : Printed). p.indexable) (printed_var name);
}
  where
    by_dash : (b : Bool) → cond b (word kind.Word name) (word kind.Var (36 ∷ name)) ≡ cond b (word kind.Word name) (word kind.Var (36 ∷ name)) ++ []
    by_dash true = refl
    by_dash false = refl
texts_of x y (index a b k e f g r) =
    let t = texts_of a b r in
    let step : (p q : Expr) (n : List Word) → p.form ≡ form.Index q k → (printed q).indexable ≡ true → expr_words q ≡ n ++ t.more → expr_words p ≡ n ++ (t.more ++ in_tight (expr_words k)) =
    λ p q n is i w. ap (λ (z : Form). (printed_form z).words) is ∙ ap (λ (z : Printed). z.words) (printed_at q k) ∙ ap (λ v. cond v (expr_words q) (in_parens (expr_words q)) ++ in_tight (expr_words k)) i
    ∙ ap (λ (z : List Word). z ++ in_tight (expr_words k)) w ∙ append_assoc n t.more (in_tight (expr_words k)) in
    record {
      name = t.name;
      more = t.more ++ in_tight (expr_words k);
      text = step x a (quoted t.name) e t.text_indexed t.text;
      read = step y b (variable t.name) f t.read_indexed t.read;
      text_indexed = ap (λ (z : Form). (printed_form z).indexable) e ∙ ap (λ (p : Printed). p.indexable) (printed_at a k);
      read_indexed = ap (λ (z : Form). (printed_form z).indexable) f ∙ ap (λ (p : Printed). p.indexable) (printed_at b k);
    }

-- ---- the derivation of a text with indexes

-- a chain that is read as a variable is its one operand
unchain : (A : Rule) (level : ℕ) (x v : Expr) (ts : List Lexeme) → ReadAsVariable x v → ChainOf level A x ts → A x ts
unchain A level x v ts r (rule.operand d) = d
unchain A level x v ts r (rule.chain first o more e at d) = absurd (no_chain x v first (o ∷ more) r e)

-- an operand that is read as a variable has no prefix
unprefix : (G : Rule) (x v : Expr) (ts : List Lexeme) → ReadAsVariable x v → UnaryOf G x ts → PostfixOf G x ts
unprefix G x v ts r (rule.operand d) = d
unprefix G x v ts r (rule.prefixed o ops z e at d) = absurd (no_prefix x v z (o ∷ ops) r e)

-- an expression that is read as a variable is an operand with what stands behind it
pub unwrap : (G : Rule) (x v : Expr) (ts : List Lexeme) → ReadAsVariable x v → ExprOf G x ts → PostfixOf G x ts
unwrap G x v ts r d = unprefix G x v ts r (unchain _ 6 x v ts r (unchain _ 5 x v ts r (unchain _ 4 x v ts r (unchain _ 3 x v ts r (unchain _ 2 x v ts r (unchain _ 1 x v ts r (unchain _ 0 x v ts r d)))))))

-- equal indexes have equal bases and keys
pub same_at : (a k b j : Expr) → form.Index a k ≡ form.Index b j → (a ≡ b) × (k ≡ j)
same_at a k b j h =
    let same : ◌≡◌ {A = Open} (plain.Index a k) (plain.Index b j) = at_no a k (form.Index b j) (plain.Index b j) h (outs-Index b j) in
    let first : a ≡ b = cc in
    let second : k ≡ j = cc in
    (first, second)

-- The indexes behind the text stand behind the variable too.
swapped : (G : Rule) (at : ℕ) (a x v : Expr) (ts : List Lexeme) → SuffixesOf G at a x ts → ReadAsVariable x v → (b : Expr) × ReadAsVariable a b × SuffixesOf G at b v ts
swapped G at a x v ts (rule.none e none) r = (v, subst (λ (z : Expr). ReadAsVariable z v) (sym e) r, rule.none refl none)
swapped G at a x v ts (rule.one z front back e (rule.selection cs d f) z_at more) r =
    let s = swapped G at z x v back more r in
    absurd (no_select z s.0 a cs s.1 f)
swapped G at a x v ts (rule.one z front back e (rule.index key d f) z_at more) r =
    let s = swapped G at z x v back more r in
    behind s.0 s.1 s.2
  where
    behind : (c : Expr) → ReadAsVariable z c → SuffixesOf G at c v back → (b : Expr) × ReadAsVariable a b × SuffixesOf G at b v ts
    behind c (base name g h k) others =
        let p : ◌≡◌ {A = Open} (plain.Str name) (plain.Index a key) = str_no name (form.Index a key) (plain.Index a key) (sym g ∙ f) (outs-Index a key) in cc
    behind c (index a0 b0 k0 g h k q) others =
        let same = same_at a0 k0 a key (sym g ∙ f) in
        (b0, subst (λ (z : Expr). ReadAsVariable z b0) same.0 q, rule.one c front back e (rule.index key d (h ∙ ap (λ (j : Expr). form.Index b0 j) same.1)) (k ∙ z_at) others)

-- the token that begins it, and the expression of that token alone
pub record Begun (G : Rule) (x v : Expr) (t : Lexeme) (rest : List Lexeme) (name : List ℕ) : Type 0 where
  pub text : Expr
  pub is_text : text.form ≡ form.Str name
  pub placed : text.at ≡ t.at
  pub read : Expr
  pub is_read : read.form ≡ form.Var name
  pub read_placed : read.at ≡ t.at
  pub behind_text : SuffixesOf G t.at text x rest
  pub behind_read : SuffixesOf G t.at read v rest

-- texts that are equal with one byte behind them are equal
snoc_same : (xs ys : List ℕ) (b : ℕ) → xs ++ b ∷ [] ≡ ys ++ b ∷ [] → xs ≡ ys
snoc_same [] [] b h = refl
snoc_same [] (y ∷ []) b h = cc
snoc_same [] (y ∷ z ∷ ys) b h = cc
snoc_same (x ∷ []) [] b h = cc
snoc_same (x ∷ z ∷ xs) [] b h = cc
snoc_same (x ∷ xs) (y ∷ ys) b h =
    let head : x ≡ y = cc in
    let tail : xs ++ b ∷ [] ≡ ys ++ b ∷ [] = cc in
    ap (λ (z : ℕ). z ∷ xs) head ∙ ap (λ (r : List ℕ). y ∷ r) (snoc_same xs ys b tail)

-- a text that is written in single quotes has no other value
value_is : (name value raw : List ℕ) → raw ≡ 39 ∷ (escaped name ++ 39 ∷ []) → SqOf value raw → value ≡ name
value_is name value raw e v =
    let same : ◌≡◌ {A = List ℕ} (39 ∷ (v.0 ++ 39 ∷ [])) (39 ∷ (escaped name ++ 39 ∷ [])) = sym v.1 ∙ e in
    let tails : v.0 ++ 39 ∷ [] ≡ escaped name ++ 39 ∷ [] = cc in
    v.2 ∙ ap sq_value (snoc_same v.0 (escaped name) 39 tails) ∙ (escaped_reads name).0

-- the first of tokens that begin with a token is this one, and the others stand behind it
pub first_token : (k : Kind) (s : List ℕ) (at : ℕ) (front back rest : List Lexeme) (t : Lexeme) → Token k s at front → t ∷ rest ≡ front ++ back → (t ≡ record { kind = k; text = s; at = at }) × (rest ≡ back)
first_token k s at front back rest t d h =
    let same : ◌≡◌ {A = List Lexeme} (t ∷ rest) (record { kind = k; text = s; at = at } ∷ back) = h ∙ ap (λ (r : List Lexeme). r ++ back) d in
    let head : ◌≡◌ {A = Lexeme} t (record { kind = k; text = s; at = at }) = cc in
    let tail : rest ≡ back = cc in
    (head, tail)

-- its kind is that of the token
pub other_kind : {j : Kind} (k : Kind) (s : List ℕ) (at : ℕ) (front back rest : List Lexeme) (t : Lexeme) → Token k s at front → t ∷ rest ≡ front ++ back → t.kind ≡ j → k ≡ j
other_kind k s at front back rest t d h e = sym (ap (λ (u : Lexeme). u.kind) (first_token k s at front back rest t d h).0) ∙ e

-- so it is where they begin with a token and something behind it
pub begins_other : {j : Kind} (A B : List Lexeme → Type 0) (k : Kind) (s : List ℕ) (at : ℕ) (front back rest : List Lexeme) (t : Lexeme) (d : (A then B) front) → Token k s at d.front → t ∷ rest ≡ front ++ back → t.kind ≡ j → k ≡ j
begins_other A B k s at front back rest t d tok h e = other_kind k s at d.front (d.back ++ back) rest t tok (h ∙ ap (λ (r : List Lexeme). r ++ back) d.whole ∙ append_assoc d.front d.back back) e

-- An operand that begins with a text in single quotes is that text.
single : (G : Rule) (y : Expr) (front back rest : List Lexeme) (t : Lexeme) → PrimaryOf G y front → t ∷ rest ≡ front ++ back → t.kind ≡ kind.Sq → (value : List ℕ) × (y.form ≡ form.Str value) × (y.at ≡ t.at) × SqOf value t.text × (rest ≡ back)
single G y front back rest t (rule.string (rule.single value raw d v f)) h e =
    let p = first_token kind.Sq raw y.at front back rest t d h in
    (value, f, sym (ap (λ (u : Lexeme). u.at) p.0), subst (λ (r : List ℕ). SqOf value r) (sym (ap (λ (u : Lexeme). u.text) p.0)) v, p.1)
single G y front back rest t (rule.string (rule.plain value d f)) h e = let k : kind.DqOpen ≡ kind.Sq = begins_other _ _ kind.DqOpen _ y.at front back rest t d d.first h e in cc
single G y front back rest t (rule.string (rule.joined ms d f)) h e = let k : kind.DqOpen ≡ kind.Sq = begins_other _ _ kind.DqOpen _ y.at front back rest t d d.first h e in cc
single G y front back rest t (rule.int raw d f) h e = let k : kind.Int ≡ kind.Sq = other_kind kind.Int raw y.at front back rest t d h e in cc
single G y front back rest t (rule.word name d f) h e = let k : kind.Word ≡ kind.Sq = other_kind kind.Word name y.at front back rest t d h e in cc
single G y front back rest t (rule.variable name d f) h e = let k : kind.Var ≡ kind.Sq = other_kind kind.Var (36 ∷ name) y.at front back rest t d h e in cc
single G y front back rest t (rule.truth d f) h e = let k : kind.Keyword ≡ kind.Sq = other_kind kind.Keyword (codes "true") y.at front back rest t d h e in cc
single G y front back rest t (rule.falsehood d f) h e = let k : kind.Keyword ≡ kind.Sq = other_kind kind.Keyword (codes "false") y.at front back rest t d h e in cc
single G y front back rest t (rule.undefined d f) h e = let k : kind.Keyword ≡ kind.Sq = other_kind kind.Keyword (codes "undef") y.at front back rest t d h e in cc
single G y front back rest t (rule.enclosed d) h e = let k : kind.Sign ≡ kind.Sq = begins_other _ _ kind.Sign _ d.first.0 front back rest t d d.first.1 h e in cc
single G y front back rest t (rule.list ms d f) h e = let k : kind.Loose ≡ kind.Sq = begins_other _ _ kind.Loose _ y.at front back rest t d d.first h e in cc
single G y front back rest t (rule.map ps d f) h e = let k : kind.Sign ≡ kind.Sq = begins_other _ _ kind.Sign _ y.at front back rest t d d.first h e in cc
single G y front back rest t (rule.reference r) h e = let k : kind.Ref ≡ kind.Sq = begins_other _ _ kind.Ref _ y.at front back rest t r.spelled r.spelled.first h e in cc

-- an operand that begins with a text and is read as a variable has a text and a variable that begin it
begun : (G : Rule) (x v : Expr) (t : Lexeme) (rest : List Lexeme) (name : List ℕ) → PostfixOf G x (t ∷ rest) → ReadAsVariable x v → t.kind ≡ kind.Sq → t.text ≡ 39 ∷ (escaped name ++ 39 ∷ []) → Begun G x v t rest name
begun G x v t rest name h r e text =
    let s = single G h.operand h.front h.back rest t h.primary h.whole e in
    let w = swapped G t.at h.operand x v h.back h.suffixes r in
    of_read w.0 w.1 w.2 s.0 s.1 s.2 (value_is name s.0 t.text text s.3) s.4
  where
    of_read : (b : Expr) → ReadAsVariable h.operand b → SuffixesOf G t.at b v h.back → (value : List ℕ) → h.operand.form ≡ form.Str value → h.operand.at ≡ t.at → value ≡ name → rest ≡ h.back → Begun G x v t rest name
    of_read b (index a c k f g q p) others value is at_is same tail =
        let bad : ◌≡◌ {A = Open} (plain.Str value) (plain.Index a k) = str_no value (form.Index a k) (plain.Index a k) (sym is ∙ f) (outs-Index a k) in cc
    of_read b (base n f g q) others value is at_is same tail =
        let names : ◌≡◌ {A = Open} (plain.Str value) (plain.Str n) = str_no value (form.Str n) (plain.Str n) (sym is ∙ f) (outs-Str n) in
        let n_is : n ≡ value = cc in
        record {
          text = h.operand;
          is_text = is ∙ ap (λ (u : List ℕ). form.Str u) same;
          placed = at_is;
          read = b;
          is_read = g ∙ ap (λ (u : List ℕ). form.Var u) (n_is ∙ same);
          read_placed = q ∙ at_is;
          behind_text = subst (λ (u : List Lexeme). SuffixesOf G t.at h.operand x u) (sym tail) h.suffixes;
          behind_read = subst (λ (u : List Lexeme). SuffixesOf G t.at b v u) (sym tail) others;
        }

-- ---- what stands within `${` and `}`

-- where a text in single quotes stands first, no WORD does
no_word_first : (us : List Lexeme) (s : List ℕ) (more : List Word) → words_in us ≡ word kind.Sq s ++ more → kind_of_first us ≡ prelude.Some kind.Word → ⊥
no_word_first [] s more h first = cc
no_word_first (t ∷ us) s more h first =
    let same : ◌≡◌ {A = Word} (record { kind = t.kind; text = t.text }) (record { kind = kind.Sq; text = s }) = cc in
    let k : t.kind ≡ kind.Sq = ap (λ (w : Word). w.kind) same in
    let j : t.kind ≡ kind.Word = some_kind t.kind first in
    let bad : kind.Sq ≡ kind.Word = sym k ∙ j in cc
  where
    some_kind : (k : Kind) → ◌≡◌ {A = Option Kind} (prelude.Some k) (prelude.Some kind.Word) → k ≡ kind.Word
    some_kind k e = cc

module _ (m : ℕ) (nested : (e : ℕ) (x : Expr) (ts : List Lexeme) → IsExprAt m x ts → Small e ts → Nested e x) where
  -- tokens with the words of what a text is read as begin as those with the words of the text
  as_text : (e : ℕ) (x y : Expr) (k : Kind) (s : List ℕ) (name : List ℕ) (more : List Word) → Nested e x → ReadAsVariable x y → expr_words x ≡ quoted name ++ more → (us : List Lexeme) → words_in us ≡ word k s ++ more
      → (at : ℕ) × (rest : List Lexeme) × (x2 : Expr) × (v : Expr) × (us ≡ record { kind = k; text = s; at = at } ∷ rest) × ReadAsVariable x2 v × (unplaced y ≡ unplaced v)
      × Begun (IsExprAt e) x2 v (record { kind = kind.Sq; text = 39 ∷ (escaped name ++ 39 ∷ []); at = at }) rest name
  as_text e x y k s name more known r words us w =
      let p = parts us (word k s) more w in
      let t = one_word k s p.front p.first in
      let q : Lexeme = record { kind = kind.Sq; text = 39 ∷ (escaped name ++ 39 ∷ []); at = t.0 } in
      let again = known.inside (q ∷ p.back) (ap (λ (ws : List Word). quoted name ++ ws) p.second ∙ sym words) in
      let moved = transport again.0 x y (sym again.2) r in (
        t.0,
        p.back,
        again.0,
        moved.0,
        p.whole ∙ ap (λ (z : List Lexeme). z ++ p.back) t.1,
        moved.1,
        sym moved.2,
        begun (IsExprAt e) again.0 moved.0 q p.back name (unwrap (IsExprAt e) again.0 moved.0 (q ∷ p.back) moved.1 again.1) moved.1 refl refl,
      )

  -- an operand of one token, and indexes behind it, are an expression
  postfix_by : (G : Rule) (x z : Expr) (k : Kind) (s : List ℕ) (at : ℕ) (rest us : List Lexeme) → us ≡ record { kind = k; text = s; at = at } ∷ rest → PrimaryOf G x (record { kind = k; text = s; at = at } ∷ []) → SuffixesOf G at x z rest → ExprOf G z us
  postfix_by G x z k s at rest us e d more = subst (λ (u : List Lexeme). ExprOf G z u) (sym e)
      (looser_to G 0 8 z (record { kind = k; text = s; at = at } ∷ rest) (omega arith) (record { operand = x; front = record { kind = k; text = s; at = at } ∷ []; back = rest; primary = d; suffixes = more; whole = refl }))

  -- the words of what stands within `${` and `}` spell it again, where those of expressions do
  pub inner_again : (e : ℕ) (y : Expr) (ts : List Lexeme) → InnerOf (IsExprAt m) y ts → Small e ts → (us : List Lexeme) → words_in us ≡ expr_words y → (z : Expr) × InnerOf (IsExprAt (suc e)) z us × (unplaced y ≡ unplaced z)
  inner_again e y ts (rule.other d n) good us w =
      let r = (nested e y ts d good).inside us w in
      (r.0, rule.other r.1 (λ first v q. let back = transport y r.0 v r.2 q in let t = texts_of y back.0 back.1 in no_word_first us (39 ∷ (escaped t.name ++ 39 ∷ [])) t.more (w ∙ t.text) first), r.2)
  inner_again e y ts (rule.variable x first d r) good us w =
      let t = texts_of x y r in
      elim (has_dash t.name) as (λ b. has_dash t.name ≡ b → words_in us ≡ cond b (word kind.Word t.name) (word kind.Var (36 ∷ t.name)) ++ t.more → (z : Expr) × InnerOf (IsExprAt (suc e)) z us × (unplaced y ≡ unplaced z)) [
        | true ↦ λ is h. by_word t.name (as_text e x y kind.Word t.name t.name t.more (nested e x ts d good) r t.text us h)
        | false ↦ λ is h. by_variable t.name (as_text e x y kind.Var (36 ∷ t.name) t.name t.more (nested e x ts d good) r t.text us h)
      ] refl (w ∙ t.read)
    where
      by_word : (name : List ℕ) → (at : ℕ) × (rest : List Lexeme) × (x2 : Expr) × (v : Expr) × (us ≡ record { kind = kind.Word; text = name; at = at } ∷ rest) × ReadAsVariable x2 v × (unplaced y ≡ unplaced v)
          × Begun (IsExprAt e) x2 v (record { kind = kind.Sq; text = 39 ∷ (escaped name ++ 39 ∷ []); at = at }) rest name → (z : Expr) × InnerOf (IsExprAt (suc e)) z us × (unplaced y ≡ unplaced z)
      by_word name (at, rest, x2, v, us_is, read, same, g) =
          (v, rule.variable x2 (ap kind_of_first us_is) (postfix_by (IsExprAt e) g.text x2 kind.Word name at rest us us_is (rule.word name (ap (λ n. record { kind = kind.Word; text = name; at = n } ∷ []) (sym g.placed)) g.is_text) g.behind_text) read, same)

      by_variable : (name : List ℕ) → (at : ℕ) × (rest : List Lexeme) × (x2 : Expr) × (v : Expr) × (us ≡ record { kind = kind.Var; text = 36 ∷ name; at = at } ∷ rest) × ReadAsVariable x2 v × (unplaced y ≡ unplaced v)
          × Begun (IsExprAt e) x2 v (record { kind = kind.Sq; text = 39 ∷ (escaped name ++ 39 ∷ []); at = at }) rest name → (z : Expr) × InnerOf (IsExprAt (suc e)) z us × (unplaced y ≡ unplaced z)
      by_variable name (at, rest, x2, v, us_is, read, same, g) = (
        v,
        rule.other (postfix_by (IsExprAt e) g.read v kind.Var (36 ∷ name) at rest us us_is (rule.variable name (ap (λ n. record { kind = kind.Var; text = 36 ∷ name; at = n } ∷ []) (sym g.read_placed)) g.is_read) g.behind_read)
            (λ first z q. let bad : ◌≡◌ {A = Option Kind} (prelude.Some kind.Var) (prelude.Some kind.Word) = sym (ap kind_of_first us_is) ∙ first in cc),
        same,
      )

-- ---- expressions at any depth

-- the words of an expression within brackets spell it again
pub spelled_again : (m e : ℕ) (x : Expr) (ts : List Lexeme) → IsExprAt m x ts → Small e ts → Nested e x
spelled_again zero e x ts d good = absurd d
spelled_again (suc m) zero x ts d good = absurd (omega (arith, good.1))
spelled_again (suc m) (suc e) x ts d good =
    let r = expression_again (IsExprAt m) (spelled_again m) (inner_again m (spelled_again m)) (suc e) x ts d (good.0, omega (arith, good.1)) in
    let s = expression_again (IsExprAt m) (spelled_again m) (inner_again m (spelled_again m)) e x ts d good in
    let inside = inside_of (IsExprAt (suc e)) 0 x s in
    record { own = record { below = r.below; own = r.own; needs = inr inside }; inside = inside }

-- Any tokens with the words of an expression that tokens of a text spell, spell it again, places aside.
pub expression_reads : (x : Expr) (ts : List Lexeme) → IsExpr x ts → AllStand ts → (us : List Lexeme) → words_in us ≡ expr_words x → (y : Expr) × IsExpr y us × (unplaced x ≡ unplaced y)
expression_reads x ts d good us w =
    let r = (spelled_again d.0 (length ts + 1) x ts d.1 (good, omega arith)).inside us w in
    (r.0, (suc (length ts + 1), r.1), r.2)
