-- The words of what stands within `${` and `}`, where a word is read as a variable, and so of each expression, may stand one behind the other.
use Rattle.std.proofs.Common.{◌≡◌, ℕ, zero, suc, cond, List, [], ◌∷◌, ◌++◌, refl, sym, ap, subst, ◌∙◌}
use Rattle.std.specs.Prelude.{Option, codes}
use Rattle.std.specs.Prelude as prelude
use Rattle.pp_syntax.specs.declared.token.Kind.{Kind}
use Rattle.pp_syntax.specs.declared.token.Kind.TheVariants as kind
use Rattle.pp_syntax.specs.declared.tree.Expr.{Expr}
use Rattle.pp_syntax.specs.declared.tree.Form.{Form, Form-F}
use Rattle.pp_syntax.specs.declared.tree.Form.TheVariants as form
use Rattle.pp_syntax.specs.declared.tree.Form.TheVariants.{outs-Str, outs-Index}
use Rattle.pp_syntax.specs.declared.tree.Form.TheOpen as plain
use Rattle.pp_syntax.specs.Tokens.{Lexeme, Spelling}
use Rattle.pp_syntax.specs.Phrases.{Token, place_of}
use Rattle.pp_syntax.specs.Derivation.{Rule, ReadAsVariable, base, index, kind_of_first, InnerOf, PrimaryOf, SuffixesOf, PostfixOf, ExprOf, IsExprAt, IsExpr}
use Rattle.pp_syntax.specs.Derivation as rule
use Rattle.pp_print.specs.Words.{in_parens, in_tight}
use Rattle.pp_print.specs.Expressions.{Printed, printed, printed_form, expr_words, at_level}
use Rattle.pp_print.proofs.Forms.{printed_var, printed_at}
use Rattle.pp_print.proofs.Inners.{str_no, same_at, no_select, texts_of, unwrap, other_kind, begins_other}
use Rattle.pp_print.proofs.Walks.{is_free, is_closed, is_done, Takes, seq, loosen, by_words, closed_done, in_tight_takes}
use Rattle.pp_print.proofs.WordLists.{Fine, parts_sound, halves_sound, token_sound, read_takes}
use Rattle.pp_print.proofs.ExpressionWalks.{Goes, at_level_goes, postfix_goes, unary_goes, expr_goes}

-- a form, opened one step
abbrev Open : Type 0
Open = Form-F Form Expr

-- Read as a variable, its words may stand.
abbrev ReadGoes : (List ℕ → Type 0) → Expr → Type 0
ReadGoes U x = (y : Expr) → ReadAsVariable x y → Takes U is_free is_closed (expr_words y)

-- An operand that begins with a word is that word.
single : (G : Rule) (y : Expr) (front back rest : List Lexeme) (t : Lexeme) → PrimaryOf G y front → t ∷ rest ≡ front ++ back → t.kind ≡ kind.Word → (name : List ℕ) × (y.form ≡ form.Str name) × Token kind.Word name y.at front
single G y front back rest t (rule.word name d f) h e = (name, f, d)
single G y front back rest t (rule.string (rule.single value raw d v f)) h e = let k : kind.Sq ≡ kind.Word = other_kind kind.Sq raw y.at front back rest t d h e in cc
single G y front back rest t (rule.string (rule.plain value d f)) h e = let k : kind.DqOpen ≡ kind.Word = begins_other _ _ kind.DqOpen _ y.at front back rest t d d.first h e in cc
single G y front back rest t (rule.string (rule.joined ms d f)) h e = let k : kind.DqOpen ≡ kind.Word = begins_other _ _ kind.DqOpen _ y.at front back rest t d d.first h e in cc
single G y front back rest t (rule.int raw d f) h e = let k : kind.Int ≡ kind.Word = other_kind kind.Int raw y.at front back rest t d h e in cc
single G y front back rest t (rule.variable name d f) h e = let k : kind.Var ≡ kind.Word = other_kind kind.Var (36 ∷ name) y.at front back rest t d h e in cc
single G y front back rest t (rule.truth d f) h e = let k : kind.Keyword ≡ kind.Word = other_kind kind.Keyword (codes "true") y.at front back rest t d h e in cc
single G y front back rest t (rule.falsehood d f) h e = let k : kind.Keyword ≡ kind.Word = other_kind kind.Keyword (codes "false") y.at front back rest t d h e in cc
single G y front back rest t (rule.undefined d f) h e = let k : kind.Keyword ≡ kind.Word = other_kind kind.Keyword (codes "undef") y.at front back rest t d h e in cc
single G y front back rest t (rule.enclosed d) h e = let k : kind.Sign ≡ kind.Word = begins_other _ _ kind.Sign _ d.first.0 front back rest t d d.first.1 h e in cc
single G y front back rest t (rule.list ms d f) h e = let k : kind.Loose ≡ kind.Word = begins_other _ _ kind.Loose _ y.at front back rest t d d.first h e in cc
single G y front back rest t (rule.map ps d f) h e = let k : kind.Sign ≡ kind.Word = begins_other _ _ kind.Sign _ y.at front back rest t d d.first h e in cc
single G y front back rest t (rule.reference r) h e = let k : kind.Ref ≡ kind.Word = begins_other _ _ kind.Ref _ y.at front back rest t r.spelled r.spelled.first h e in cc

-- the words of what is spelled may stand, and so may those of what it is read as
record Known (U : List ℕ → Type 0) (E : Rule) : Type 0 where
  goes : (x : Expr) (ts : List Lexeme) → E x ts → Fine U ts → Goes U x
  read : (x y : Expr) (ts : List Lexeme) → E x ts → Fine U ts → kind_of_first ts ≡ prelude.Some kind.Word → ReadAsVariable x y → Takes U is_free is_closed (expr_words y)

module _ {U : List ℕ → Type 0} where
  -- ---- the word itself

  -- a WORD, read as a variable, may stand
  word_read : (x : Expr) (name : List ℕ) → x.form ≡ form.Str name → Spelling kind.Word name → ReadGoes U x
  word_read x name is h y (base n e f at) =
      let names : ◌≡◌ {A = Open} (plain.Str name) (plain.Str n) = str_no name (form.Str n) (plain.Str n) (sym is ∙ e) (outs-Str n) in
      let same : n ≡ name = cc in
      by_words (ap (λ (g : Form). (printed_form g).words) f ∙ ap (λ (p : Printed). p.words) (printed_var n)) (read_takes is_free n (subst (λ (s : List ℕ). Spelling kind.Word s) (sym same) h))
  word_read x name is h y (index a b k e f at r) =
      let bad : ◌≡◌ {A = Open} (plain.Str name) (plain.Index a k) = str_no name (form.Index a k) (plain.Index a k) (sym is ∙ e) (outs-Index a k) in cc

  -- ---- the indexes behind it

  module _ (G : Rule) (goes : (x : Expr) (ts : List Lexeme) → G x ts → Fine U ts → Goes U x) where
    -- one more index
    index_read : (a z key : Expr) → ReadGoes U a → Goes U key → z.form ≡ form.Index a key → ReadGoes U z
    index_read a z key known g f y (base name e h at) =
        let bad : ◌≡◌ {A = Open} (plain.Str name) (plain.Index a key) = str_no name (form.Index a key) (plain.Index a key) (sym e ∙ f) (outs-Index a key) in cc
    index_read a z key known g f y (index a0 b k e h at r) =
        let same = same_at a0 k a key (sym e ∙ f) in
        let front : Takes U is_free is_closed (expr_words b) = known b (subst (λ (v : Expr). ReadAsVariable v b) same.0 r) in
        let key_words = subst (λ (v : Expr). Goes U v) (sym same.1) g in
        by_words (ap (λ (q : Form). (printed_form q).words) h ∙ ap (λ (p : Printed). p.words) (printed_at b k) ∙ ap (λ v. cond v (expr_words b) (in_parens (expr_words b)) ++ in_tight (expr_words k)) (texts_of a0 b r).read_indexed)
        (seq front (in_tight_takes is_closed key_words.words refl refl))

    -- a word with indexes may stand, read as a variable
    indexes_read : (at : ℕ) (a x : Expr) (ts : List Lexeme) → SuffixesOf G at a x ts → Fine U ts → ReadGoes U a → ReadGoes U x
    indexes_read at a x ts (rule.none e n) h known = subst (λ (z : Expr). ReadGoes U z) e known
    indexes_read at a x ts (rule.one z front back e (rule.selection cs d f) z_at more) h known =
        let k = halves_sound front back ts e h in
        indexes_read at z x back more k.1 (λ y r. absurd (no_select z y a cs r f))
    indexes_read at a x ts (rule.one z front back e (rule.index key d f) z_at more) h known =
        let k = halves_sound front back ts e h in
        let g = parts_sound d k.0 in
        let m = parts_sound d.second g.1 in
        indexes_read at z x back more k.1 (index_read a z key known (goes key d.second.front d.second.first m.0) f)

    -- a kind that is WORD is there as such
    some_kind : (k : Kind) → ◌≡◌ {A = Option Kind} (prelude.Some k) (prelude.Some kind.Word) → k ≡ kind.Word
    some_kind k e = cc

    -- an operand that begins with a WORD may stand, read as a variable
    postfix_read : (x : Expr) (ts : List Lexeme) → PostfixOf G x ts → Fine U ts → kind_of_first ts ≡ prelude.Some kind.Word → ReadGoes U x
    postfix_read x [] d h first = cc
    postfix_read x (t ∷ rest) d h first =
        let k = halves_sound d.front d.back (t ∷ rest) d.whole h in
        let s = single G d.operand d.front d.back rest t d.primary d.whole (some_kind t.kind first) in
        indexes_read (place_of (t ∷ rest)) d.operand x d.back d.suffixes k.1 (word_read d.operand s.0 s.1 (token_sound kind.Word s.0 d.operand.at d.front s.2 k.0))

  -- ---- expressions at any depth

  -- what stands within `${` and `}` may stand
  inner_takes : (E : Rule) → Known U E → (y : Expr) (ts : List Lexeme) → InnerOf E y ts → Fine U ts → Takes U is_free is_done (expr_words y)
  inner_takes E known y ts (rule.variable x first d r) h = loosen is_done closed_done (known.read x y ts d h first r)
  inner_takes E known y ts (rule.other d n) h = (known.goes y ts d h).words

  -- what is known of expressions in brackets is known of expressions
  deeper : (E : Rule) → Known U E → Known U (ExprOf E)
  deeper E known = record {
    goes = expr_goes E (unary_goes E known.goes (inner_takes E known));
    read = λ x y ts d h first r. postfix_read E known.goes x ts (unwrap E x y ts r d) h first y r;
  }

  -- it is known at each depth
  known_at : (m : ℕ) → Known U (IsExprAt m)
  known_at zero = record { goes = λ x ts d h. absurd d; read = λ x y ts d h first r. absurd d }
  known_at (suc m) = deeper (IsExprAt m) (known_at m)

  -- an expression may stand
  pub expression_goes : (x : Expr) (ts : List Lexeme) → IsExpr x ts → Fine U ts → Goes U x
  expression_goes x ts d h = (known_at d.0).goes x ts d.1 h

  -- and its words may
  pub expression_takes : (x : Expr) (ts : List Lexeme) → IsExpr x ts → Fine U ts → Takes U is_free is_done (expr_words x)
  expression_takes x ts d h = (expression_goes x ts d h).words

  -- the words of what stands within `${` and `}` may stand
  inner_words : (y : Expr) (ts : List Lexeme) → InnerOf IsExpr y ts → Fine U ts → Takes U is_free is_done (expr_words y)
  inner_words y ts (rule.variable x first d r) h = inner_takes (IsExprAt d.0) (known_at d.0) y ts (rule.variable x first d.1 r) h
  inner_words y ts (rule.other d n) h = expression_takes y ts d h

  -- the operand of a comparison
  pub postfix_takes : (y : Expr) (ts : List Lexeme) → PostfixOf IsExpr y ts → Fine U ts → Takes U is_free is_done (at_level 8 (printed y))
  postfix_takes y ts d h = at_level_goes 8 y (postfix_goes IsExpr expression_goes inner_words y ts d h)
