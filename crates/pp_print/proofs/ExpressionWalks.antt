-- The words of an expression that tokens of a text spell may stand one behind the other.
use Rattle.std.proofs.Common.{◌≡◌, ℕ, ◌+◌, Bool, true, false, cond, nat_le, List, [], ◌∷◌, ◌++◌, refl, ap, subst, ◌∙◌, sym}
use Rattle.std.specs.Prelude.{pos, Option, codes}
use Rattle.std.specs.Prelude as prelude
use Rattle.std.specs.List.{flat_map}
use Rattle.std.proofs.lemmas.Bool.{both_ways}
use Rattle.pp_syntax.specs.declared.token.Kind.TheVariants as kind
use Rattle.pp_syntax.specs.declared.tree.Expr.{Expr}
use Rattle.pp_syntax.specs.declared.tree.Form.{Form}
use Rattle.pp_syntax.specs.declared.tree.Form.TheVariants as form
use Rattle.pp_syntax.specs.declared.tree.Op.{Op}
use Rattle.pp_syntax.specs.declared.tree.Op.TheVariants as op
use Rattle.pp_syntax.specs.Tokens.{Lexeme, Spelling, int_value}
use Rattle.pp_syntax.specs.Phrases.{place_of}
use Rattle.pp_syntax.specs.Derivation.{Rule, Operations, ChainOf, index, InnerOf, MemberOf, Members, PlainOf, StringOf, ReferenceOf, PairOf, OptionOf, ChoiceOf, PrimaryOf, SuffixOf, SuffixesOf, PostfixOf, UnaryOf, ExprOf, AndOf, ComparisonOf, EqualityOf, SumOf, ProductOf, InOf}
use Rattle.pp_syntax.specs.Derivation as rule
use Rattle.pp_print.specs.declared.words.Word.{Word}
use Rattle.pp_print.specs.Words.{word, variable, has_dash, in_parens}
use Rattle.pp_print.specs.Expressions.{Printed, operand, printed, printed_form, expr_words, at_level, indexed, option_by, operator, pair_by, choice_by, hole_by, operation_by, level_in, refer_by}
use Rattle.pp_print.proofs.Forms.{printed_int, printed_str, printed_var, printed_bool, printed_undef, printed_list, printed_map, printed_refer, printed_join, printed_chain, printed_prefix, printed_at, printed_select}
use Rattle.pp_print.proofs.Postfixes.{variable_words}
use Rattle.pp_print.proofs.Standing.{sound_stands}
use Rattle.pp_print.proofs.Walks.{Mark, InText, InHole, Last, Held, Closed, Other, any, is_free, is_closed, is_done, Walks, join, AllGood, both_good, Takes, seq, nothing, loosen, by_words, closed_done, sign_takes, arrow_takes, keyword_takes, quoted_takes, reference_takes, variable_takes, in_parens_takes, in_tight_takes, in_loose_takes, in_braces_takes}
use Rattle.pp_print.proofs.WordLists.{Fine, token_good, parts_sound, halves_sound, token_sound, listed_takes, maybe_listed_takes, number_takes}

-- An expression may stand behind any word behind which a `(` may; where it can be indexed, a `[` behind it is tight.
pub record Goes (U : List ℕ → Type 0) (x : Expr) : Type 0 where
  pub words : Takes U is_free is_done (expr_words x)
  pub ends : (printed x).indexable ≡ true → Takes U is_free is_closed (expr_words x)

-- Within double quotes these words may stand, and leave nothing open; and what is quoted is good.
record InQuotes (U : List ℕ → Type 0) (ws : List Word) : Type 0 where
  walk : (st : List Mark) → Walks (InText ∷ st) Held ws (InText ∷ st) Held
  good : AllGood U ws

module _ {U : List ℕ → Type 0} where
  -- ---- one expression, by its words

  -- an expression that is printed as an operand behind which a `[` is tight may stand
  closed_goes : (x : Expr) (ws : List Word) (b : Bool) → printed x ≡ operand ws b → Takes U is_free is_closed ws → Goes U x
  closed_goes x ws b is h =
      let words : expr_words x ≡ ws = ap (λ (p : Printed). p.words) is in
      record { words = by_words words (loosen is_done closed_done h); ends = λ i. by_words words h }

  -- so may one that can't be indexed
  open_goes : (x : Expr) (p : Printed) → printed x ≡ p → p.indexable ≡ false → Takes U is_free is_done p.words → Goes U x
  open_goes x p is n h = record {
    words = by_words (ap (λ (q : Printed). q.words) is) h;
    ends = λ i. absurd (both_ways (printed x).indexable (ap (λ (q : Printed). q.indexable) is ∙ n) i);
  }

  -- an expression may stand where operators need brackets round it
  pub at_level_goes : (n : ℕ) (x : Expr) → Goes U x → Takes U is_free is_done (at_level n (printed x))
  at_level_goes n x g = by_level (nat_le n (printed x).level)
    where
      by_level : (b : Bool) → Takes U is_free is_done (cond b (expr_words x) (in_parens (expr_words x)))
      by_level true = g.words
      by_level false = in_parens_takes is_done g.words refl refl

  -- an expression before an index ends so that a `[` is tight
  indexed_goes : (x : Expr) → Goes U x → Takes U is_free is_closed (indexed (printed x))
  indexed_goes x g = by_index (printed x).indexable g.ends
    where
      by_index : (b : Bool) → (b ≡ true → Takes U is_free is_closed (expr_words x)) → Takes U is_free is_closed (cond b (expr_words x) (in_parens (expr_words x)))
      by_index true h = h refl
      by_index false h = in_parens_takes is_closed g.words refl refl

  -- an operator may stand behind any word, and a `(` behind it
  operator_takes : (P : Last → Bool) (o : Op) → Takes U P is_free (operator o)
  operator_takes P op.Or = keyword_takes P is_free (codes "or") refl refl
  operator_takes P op.And = keyword_takes P is_free (codes "and") refl refl
  operator_takes P op.In = keyword_takes P is_free (codes "in") refl refl
  operator_takes P op.Less = sign_takes P is_free (codes "<") (refl, refl, refl, refl, refl, refl) refl
  operator_takes P op.Greater = sign_takes P is_free (codes ">") (refl, refl, refl, refl, refl, refl) refl
  operator_takes P op.AtMost = sign_takes P is_free (codes "<=") (refl, refl, refl, refl, refl, refl) refl
  operator_takes P op.AtLeast = sign_takes P is_free (codes ">=") (refl, refl, refl, refl, refl, refl) refl
  operator_takes P op.Same = sign_takes P is_free (codes "==") (refl, refl, refl, refl, refl, refl) refl
  operator_takes P op.NotSame = sign_takes P is_free (codes "!=") (refl, refl, refl, refl, refl, refl) refl
  operator_takes P op.Plus = sign_takes P is_free (codes "+") (refl, refl, refl, refl, refl, refl) refl
  operator_takes P op.Minus = sign_takes P is_free (codes "-") (refl, refl, refl, refl, refl, refl) refl
  operator_takes P op.Times = sign_takes P is_free (codes "*") (refl, refl, refl, refl, refl, refl) refl
  operator_takes P op.Not = sign_takes P is_free (codes "!") (refl, refl, refl, refl, refl, refl) refl

  -- so may several operators
  operators_take : (ops : List Op) → Takes U is_free is_free (flat_map operator ops)
  operators_take [] = nothing is_free is_free (λ l p. p)
  operators_take (o ∷ ops) = seq (operator_takes is_free o) (operators_take ops)

  -- ---- texts in double quotes

  -- an expression in `${` may stand within double quotes
  hole_in_quotes : (x : Expr) → Takes U is_free is_done (expr_words x) → InQuotes U (hole_by printed x)
  hole_in_quotes x h = record {
    walk = λ st.
        let w = h.walk (InHole ∷ InText ∷ st) refl Other refl in
        ((refl, refl, refl), join (InHole ∷ InText ∷ st) Other (expr_words x) (word kind.HoleEnd (codes "}")) (InHole ∷ InText ∷ st) w.0 (InText ∷ st) Held w.2 ((refl, refl), (refl, refl)));
    good = (tt, both_good U (expr_words x) (word kind.HoleEnd (codes "}")) h.good (tt, tt));
  }

  -- words that may stand within double quotes may stand with these
  joined_takes : (ws : List Word) → InQuotes U ws → Takes U is_free is_closed (word kind.DqOpen (codes "\"") ++ (ws ++ word kind.DqClose (codes "\"")))
  joined_takes ws h = record {
    walk = λ st out l p. (Closed, refl, ((out, refl), join (InText ∷ st) Held ws (word kind.DqClose (codes "\"")) (InText ∷ st) Held st Closed (h.walk st) ((refl, refl, refl), (refl, refl))));
    good = (tt, both_good U ws (word kind.DqClose (codes "\"")) h.good (tt, tt));
  }

  -- the name of a variable, where it is spelled as one
  plain_variable : (name : List ℕ) → Spelling kind.Var (36 ∷ name) → has_dash name ≡ false → Takes U is_free is_closed (variable name)
  plain_variable name h n = by_words (variable_words name n) (variable_takes is_free (36 ∷ name) h)

  -- text in double quotes, without variables and expressions
  pub plain_good : (value : List ℕ) (ts : List Lexeme) → PlainOf value ts → Fine U ts → U value
  plain_good value ts (rule.empty e n) h = subst U (sym e) h.empty
  plain_good value ts (rule.text raw at t v) h = token_good kind.DqText raw at ts t h value v

  -- ---- operands

  module _ (E : Rule) (goes : (x : Expr) (ts : List Lexeme) → E x ts → Fine U ts → Goes U x) where
    -- the words of an expression in brackets may stand
    inside : (x : Expr) (ts : List Lexeme) → E x ts → Fine U ts → Takes U is_free is_done (expr_words x)
    inside x ts d h = (goes x ts d h).words

    -- so may those of a pair
    pair_takes : (p : Expr × Expr) (ts : List Lexeme) → PairOf E p ts → Fine U ts → Takes U is_free is_done (pair_by printed p)
    pair_takes p ts d h =
        let g = parts_sound d h in
        let k = parts_sound d.second g.1 in
        seq (inside p.0 d.front d.first g.0) (seq (arrow_takes is_free refl) (inside p.1 d.second.back d.second.second k.1))

    -- so may those of an option
    pub option_takes : (o : Option Expr) (ts : List Lexeme) → OptionOf E o ts → Fine U ts → Takes U is_free is_done (option_by expr_words o)
    option_takes prelude.None ts d h = keyword_takes is_free is_done (codes "default") refl refl
    option_takes (prelude.Some x) ts d h = inside x ts d h

    -- so may those of a choice
    choice_takes : (c : Option Expr × Expr) (ts : List Lexeme) → ChoiceOf E c ts → Fine U ts → Takes U is_free is_done (choice_by printed c)
    choice_takes c ts d h =
        let g = parts_sound d h in
        let k = parts_sound d.second g.1 in
        seq (option_takes c.0 d.front d.first g.0) (seq (arrow_takes is_free refl) (inside c.1 d.second.back d.second.second k.1))

    -- the words of a type's name and titles may stand behind any word
    refer_takes : (P : Last → Bool) (y : Expr) (ts : List Lexeme) (r : ReferenceOf E y ts) → Fine U ts → Takes U P is_closed (refer_by printed r.name r.titles)
    refer_takes P y ts r h =
        let d = r.spelled in
        let g = parts_sound d h in
        let k = parts_sound d.second g.1 in
        let m = parts_sound d.second.second k.1 in
        seq (reference_takes P r.name (token_sound kind.Ref r.name y.at d.front d.first g.0)) (in_tight_takes is_closed (listed_takes E expr_words is_free is_done inside refl r.titles d.second.second.front d.second.second.first m.0) refl refl)

    -- A reference may stand behind any word.
    pub reference_words : (P : Last → Bool) (y : Expr) (ts : List Lexeme) → ReferenceOf E y ts → Fine U ts → Takes U P is_closed (expr_words y)
    reference_words P y ts r h = by_words (ap (λ (f : Form). (printed_form f).words) r.form_is ∙ ap (λ (p : Printed). p.words) (printed_refer r.name r.titles)) (refer_takes P y ts r h)

    -- a reference may stand
    reference_goes : (y : Expr) (ts : List Lexeme) → ReferenceOf E y ts → Fine U ts → Goes U y
    reference_goes y ts r h = closed_goes y _ true (ap printed_form r.form_is ∙ printed_refer r.name r.titles) (refer_takes is_free y ts r h)

    module _ (inner : (y : Expr) (ts : List Lexeme) → InnerOf E y ts → Fine U ts → Takes U is_free is_done (expr_words y)) where
      -- a member may stand within double quotes
      member_in_quotes : (y : Expr) (ts : List Lexeme) → MemberOf E y ts → Fine U ts → InQuotes U (hole_by printed y)
      member_in_quotes y ts (rule.text value raw d v f) h = hole_in_quotes y (closed_goes y _ true (ap printed_form f ∙ printed_str value) (quoted_takes is_free value (token_good kind.DqText raw y.at ts d h value v))).words
      member_in_quotes y ts (rule.variable name d f) h =
          let s = token_sound kind.DqVar (36 ∷ name) y.at ts d h in
          hole_in_quotes y (closed_goes y _ true (ap printed_form f ∙ printed_var name) (plain_variable name s (sound_stands kind.DqVar (36 ∷ name) s))).words
      member_in_quotes y ts (rule.hole d) h =
          let g = parts_sound d h in
          let k = parts_sound d.second g.1 in
          hole_in_quotes y (inner y d.second.front d.second.first k.0)

      -- so may members
      members_in_quotes : (ms : List Expr) (ts : List Lexeme) → Members E ms ts → Fine U ts → InQuotes U (flat_map (hole_by printed) ms)
      members_in_quotes [] ts d h = record { walk = λ st. (refl, refl); good = tt }
      members_in_quotes (y ∷ ms) ts d h =
          let g = parts_sound d h in
          let here = member_in_quotes y d.front d.first g.0 in
          let rest = members_in_quotes ms d.back d.second g.1 in
          record {
            walk = λ st. join (InText ∷ st) Held (hole_by printed y) (flat_map (hole_by printed) ms) (InText ∷ st) Held (InText ∷ st) Held (here.walk st) (rest.walk st);
            good = both_good U (hole_by printed y) (flat_map (hole_by printed) ms) here.good rest.good;
          }

      -- a string may stand
      string_goes : (y : Expr) (ts : List Lexeme) → StringOf E y ts → Fine U ts → Goes U y
      string_goes y ts (rule.single value raw t v f) h = closed_goes y _ true (ap printed_form f ∙ printed_str value) (quoted_takes is_free value (token_good kind.Sq raw y.at ts t h value v))
      string_goes y ts (rule.plain value d f) h =
          let g = parts_sound d h in
          let k = parts_sound d.second g.1 in
          closed_goes y _ true (ap printed_form f ∙ printed_str value) (quoted_takes is_free value (plain_good value d.second.front d.second.first k.0))
      string_goes y ts (rule.joined ms d f) h =
          let g = parts_sound d h in
          let k = parts_sound d.second g.1 in
          closed_goes y _ true (ap printed_form f ∙ printed_join ms) (joined_takes (flat_map (hole_by printed) ms) (members_in_quotes ms d.second.front d.second.first.0 k.0))

      -- an operand may stand
      primary_goes : (y : Expr) (ts : List Lexeme) → PrimaryOf E y ts → Fine U ts → Goes U y
      primary_goes y ts (rule.int raw t f) h = open_goes y _ (ap printed_form f ∙ printed_int (pos (int_value raw))) refl (number_takes is_free (int_value raw) (token_sound kind.Int raw y.at ts t h))
      primary_goes y ts (rule.string d) h = string_goes y ts d h
      primary_goes y ts (rule.word name t f) h = closed_goes y _ true (ap printed_form f ∙ printed_str name) (quoted_takes is_free name (token_good kind.Word name y.at ts t h))
      primary_goes y ts (rule.variable name t f) h =
          let s = token_sound kind.Var (36 ∷ name) y.at ts t h in
          closed_goes y _ true (ap printed_form f ∙ printed_var name) (plain_variable name s (sound_stands kind.Var (36 ∷ name) s))
      primary_goes y ts (rule.truth t f) h = open_goes y _ (ap printed_form f ∙ printed_bool true) refl (keyword_takes is_free is_done (codes "true") refl refl)
      primary_goes y ts (rule.falsehood t f) h = open_goes y _ (ap printed_form f ∙ printed_bool false) refl (keyword_takes is_free is_done (codes "false") refl refl)
      primary_goes y ts (rule.undefined t f) h = open_goes y _ (ap printed_form f ∙ printed_undef) refl (keyword_takes is_free is_done (codes "undef") refl refl)
      primary_goes y ts (rule.enclosed d) h =
          let g = parts_sound d h in
          let k = parts_sound d.second g.1 in
          goes y d.second.front d.second.first k.0
      primary_goes y ts (rule.list members d f) h =
          let g = parts_sound d h in
          let k = parts_sound d.second g.1 in
          closed_goes y _ true (ap printed_form f ∙ printed_list members) (in_loose_takes is_free is_closed (maybe_listed_takes E expr_words is_free is_done inside refl refl members d.second.front d.second.first k.0) refl refl)
      primary_goes y ts (rule.map pairs d f) h =
          let g = parts_sound d h in
          let k = parts_sound d.second g.1 in
          open_goes y _ (ap printed_form f ∙ printed_map pairs) refl (in_braces_takes is_free is_done (maybe_listed_takes (PairOf E) (pair_by printed) is_free is_done pair_takes refl refl pairs d.second.front d.second.first k.0) refl refl)
      primary_goes y ts (rule.reference r) h = reference_goes y ts r h

      -- ---- indexes and selections

      -- an operand with an index may stand
      index_goes : (x z key : Expr) → Goes U x → Goes U key → z.form ≡ form.Index x key → Goes U z
      index_goes x z key gx gk f = closed_goes z _ true (ap printed_form f ∙ printed_at x key) (seq (indexed_goes x gx) (in_tight_takes is_closed gk.words refl refl))

      -- so may one with an index or a selection
      suffix_goes : (x z : Expr) (ts : List Lexeme) → Goes U x → SuffixOf E x z ts → Fine U ts → Goes U z
      suffix_goes x z ts gx (rule.index key d f) h =
          let g = parts_sound d h in
          let k = parts_sound d.second g.1 in
          index_goes x z key gx (goes key d.second.front d.second.first k.0) f
      suffix_goes x z ts gx (rule.selection choices d f) h =
          let g = parts_sound d h in
          let k = parts_sound d.second g.1 in
          let m = parts_sound d.second.second k.1 in
          open_goes z _ (ap printed_form f ∙ printed_select x choices) refl
          (seq (at_level_goes 8 x gx)
          (seq (sign_takes is_done any (codes "?") (refl, refl, refl, refl, refl, refl) refl) (in_braces_takes any is_done (listed_takes (ChoiceOf E) (choice_by printed) is_free is_done choice_takes refl choices d.second.second.front d.second.second.first m.0) refl refl)))

      -- so may one with several
      suffixes_go : (at : ℕ) (x y : Expr) (ts : List Lexeme) → SuffixesOf E at x y ts → Goes U x → Fine U ts → Goes U y
      suffixes_go at x y ts (rule.none e n) g h = subst (λ (z : Expr). Goes U z) e g
      suffixes_go at x y ts (rule.one z front back e d z_at more) g h =
          let k = halves_sound front back ts e h in
          suffixes_go at z y back more (suffix_goes x z front g d k.0) k.1

      -- an operand with indexes and selections may stand
      pub postfix_goes : (y : Expr) (ts : List Lexeme) → PostfixOf E y ts → Fine U ts → Goes U y
      postfix_goes y ts d h =
          let k = halves_sound d.front d.back ts d.whole h in
          suffixes_go (place_of ts) d.operand y d.back d.suffixes (primary_goes d.operand d.front d.primary k.0) k.1

      -- ---- operators

      -- an operand with prefixes may stand
      pub unary_goes : (y : Expr) (ts : List Lexeme) → UnaryOf E y ts → Fine U ts → Goes U y
      unary_goes y ts (rule.operand d) h = postfix_goes y ts d h
      unary_goes y ts (rule.prefixed o ops x f at d) h =
          let g = parts_sound d h in
          open_goes y _ (ap printed_form f ∙ printed_prefix (o ∷ ops) x) refl (seq (operators_take (o ∷ ops)) (at_level_goes 8 x (postfix_goes x d.back d.second g.1)))

  -- ---- chains of one level

  module _ (A : Rule) (level : ℕ) (goes : (x : Expr) (ts : List Lexeme) → A x ts → Fine U ts → Goes U x) where
    -- operators with their right operands may stand behind an operand
    operations_take : (n : ℕ) (os : List (Op × Expr)) (ts : List Lexeme) → Operations level A os ts → Fine U ts → Takes U is_done is_done (flat_map (operation_by printed n) os)
    operations_take n [] ts d h = nothing is_done is_done (λ l p. p)
    operations_take n (o ∷ os) ts d h =
        let g = parts_sound d h in
        let k = parts_sound d.first.1 g.0 in
        seq (seq (operator_takes is_done o.0) (at_level_goes (n + 1) o.1 (goes o.1 d.first.1.back d.first.1.second k.1))) (operations_take n os d.back d.second g.1)

    -- a chain of operands that may stand may stand
    chain_goes : (y : Expr) (ts : List Lexeme) → ChainOf level A y ts → Fine U ts → Goes U y
    chain_goes y ts (rule.operand d) h = goes y ts d h
    chain_goes y ts (rule.chain x o os f at d) h =
        let g = parts_sound d h in
        let n = level_in (o ∷ os) in
        open_goes y _ (ap printed_form f ∙ printed_chain x (o ∷ os)) refl (seq (at_level_goes (n + 1) x (goes x d.front d.first g.0)) (operations_take n (o ∷ os) d.back d.second g.1))

  module _ (E : Rule) (unary : (x : Expr) (ts : List Lexeme) → UnaryOf E x ts → Fine U ts → Goes U x) where
    -- an expression may stand where each operand may
    pub expr_goes : (y : Expr) (ts : List Lexeme) → ExprOf E y ts → Fine U ts → Goes U y
    expr_goes = chain_goes (AndOf E) 0 (chain_goes (ComparisonOf E) 1 (chain_goes (EqualityOf E) 2 (chain_goes (SumOf E) 3 (chain_goes (ProductOf E) 4 (chain_goes (InOf E) 5 (chain_goes (UnaryOf E) 6 unary))))))
