-- The words of an operand with its indexes and selections spell it again, places aside.
use Rattle.std.proofs.Common.{◌≡◌, ◌≢◌, inl, ℕ, zero, suc, ◌+◌, ◌-◌, ◌≤◌, ◌<◌, ◌^◌, Bool, true, false, cond, ◌||◌, List, [], ◌∷◌, ◌++◌, length, map, refl, sym, ap, subst, ◌∙◌, append_assoc, append-nil, length-append, arith}
use Rattle.std.specs.Prelude.{pos, Option, codes, decimal}
use Rattle.std.specs.Option.{option_map}
use Rattle.std.specs.Prelude as prelude
use Rattle.std.specs.List.{flat_map, list_any}
use Rattle.pp_syntax.specs.declared.token.Kind.{Kind}
use Rattle.pp_syntax.specs.declared.token.Kind.TheVariants as kind
use Rattle.pp_syntax.specs.declared.tree.Expr.{Expr}
use Rattle.pp_syntax.specs.declared.tree.Form.{Form, Form-F, out-Form, roll-out-Form}
use Rattle.pp_syntax.specs.declared.tree.Form.TheVariants as form
use Rattle.pp_syntax.specs.declared.tree.Form.TheOpen as plain
use Rattle.pp_syntax.specs.Tokens.{Lexeme, int_value}
use Rattle.pp_syntax.specs.Phrases.{◌then◌, Some, Token, Sign, Tight, Listed, MaybeListed, place_of}
use Rattle.pp_syntax.specs.Derivation.{Rule, is_part, has_part, kind_of_first, InnerOf, MemberOf, Members, StringOf, ReferenceOf, PairOf, OptionOf, ChoiceOf, PrimaryOf, SuffixOf, SuffixesOf, PostfixOf, ExprOf, IsExprAt}
use Rattle.pp_syntax.specs.Derivation as rule
use Rattle.pp_print.specs.declared.words.Word.{Word}
use Rattle.pp_print.specs.Words.{word, sign, keyword, variable, has_dash, escaped, in_parens, in_tight, in_loose, in_braces, listed}
use Rattle.pp_print.specs.Expressions.{Printed, operand, printed, printed_form, expr_words, at_level, indexed, option_by, form_by, pair_by, choice_by, hole_by, joined_by, refer_by, index_by, select_by}
use Rattle.pp_print.specs.Places.{unplaced, unplaced_form}
use Rattle.pp_print.proofs.Forms.{printed_rolled, printed_int, printed_str, printed_var, printed_bool, printed_undef, printed_list, printed_map, printed_refer, printed_join, printed_at, printed_select}
use Rattle.pp_print.proofs.Unplaced.{unplaced_pair, unplaced_choice, unplaced_list, unplaced_map, unplaced_refer, unplaced_join, unplaced_at, unplaced_select}
use Rattle.pp_print.proofs.Escapes.{quoted_is}
use Rattle.pp_print.proofs.Decimals.{int_decimal}
use Rattle.pp_print.proofs.Phrases.{words_in, parts, no_word, one_word, together, AllStand, Small, both_small, parts_stand, listed_again, maybe_listed_again}
use Rattle.pp_print.proofs.Reprints.{Again, RuleAt, Reprint, looser_to, at_level_again, enclosed_again, expr_again}

-- ---- what can be indexed is an operand

-- a form behind which a `[` is tight is an operand
indexable_form : (d : Form-F Form Expr) → (form_by printed d).indexable ≡ true → (form_by printed d).level ≡ 8
indexable_form (plain.Int n) h = refl
indexable_form (plain.Str text) h = refl
indexable_form (plain.Var name) h = refl
indexable_form (plain.Bool b) h = refl
indexable_form plain.Undef h = refl
indexable_form (plain.List members) h = refl
indexable_form (plain.Map pairs) h = refl
indexable_form (plain.Refer name titles) h = refl
indexable_form (plain.Join members) h = refl
indexable_form (plain.Chain first more) h = cc
indexable_form (plain.Prefix ops x) h = cc
indexable_form (plain.Index base key) h = refl
indexable_form (plain.Select base choices) h = refl

-- so is an expression
indexable_level : (x : Expr) → (printed x).indexable ≡ true → (printed x).level ≡ 8
indexable_level x h =
    let is : printed x ≡ form_by printed {Y = Form} (out-Form x.form) = ap printed_form (sym (roll-out-Form x.form)) ∙ printed_rolled (out-Form x.form) in
    ap (λ (p : Printed). p.level) is ∙ indexable_form (out-Form x.form) (sym (ap (λ (p : Printed). p.indexable) is) ∙ h)

-- ---- forms without places

-- expressions whose forms are the same, places aside, are
same_form : (y : Expr) (f g : Form) (at : ℕ) → y.form ≡ f → unplaced_form f ≡ unplaced_form g → unplaced y ≡ unplaced (record { at = at; form = g })
same_form y f g at e h = ap (λ (k : Form). record { at = 0; form = k }) (ap unplaced_form e ∙ h)

-- an operand that is one token
abbrev Leaf : Rule → Form → Kind → List ℕ → Type 0
Leaf F f k s = (at : ℕ) (us : List Lexeme) → Token k s at us → PrimaryOf F (record { at = at; form = f }) us

-- an operand by itself is one with nothing behind it
pub primary_postfix : (F : Rule) (y : Expr) (us : List Lexeme) → PrimaryOf F y us → PostfixOf F y us
primary_postfix F y us h = record { operand = y; front = us; back = []; primary = h; suffixes = rule.none refl refl; whole = sym (append-nil us) }

-- an operand whose words spell it again does so at its own level
solid_reprint : (F : Rule) (y : Expr) (ws : List Word) (b : Bool) → printed y ≡ operand ws b → ((us : List Lexeme) → words_in us ≡ ws → (z : Expr) × PostfixOf F z us × (unplaced y ≡ unplaced z)) → Reprint F 8 y
solid_reprint F y ws b is again =
    let level_is : (printed y).level ≡ 8 = ap (λ (p : Printed). p.level) is in
    record {
      below = omega (arith, level_is);
      own = λ us w. let r = again us (w ∙ ap (λ (p : Printed). p.words) is) in (r.0, subst (λ n. RuleAt F n r.0 us) (sym level_is) r.1, r.2);
      needs = inl (omega (arith, level_is));
    }

-- so does an operand of one token
leaf_reprint : (F : Rule) (y : Expr) (f g : Form) (k : Kind) (s : List ℕ) (b : Bool) → y.form ≡ f → unplaced_form f ≡ unplaced_form g → printed y ≡ operand (word k s) b → Leaf F g k s → Reprint F 8 y
leaf_reprint F y f g k s b e same is leaf = solid_reprint F y (word k s) b is (λ us w.
    let t = one_word k s us w in
    (record { at = t.0; form = g }, primary_postfix F (record { at = t.0; form = g }) us (leaf t.0 us t.1), same_form y f g t.0 e same))

-- a text in single quotes is an operand of one token
text_leaf : (F : Rule) (value : List ℕ) → Leaf F (form.Str value) kind.Sq (39 ∷ (escaped value ++ 39 ∷ []))
text_leaf F value at us t = rule.string (rule.single value (39 ∷ (escaped value ++ 39 ∷ [])) t (quoted_is value) refl)

-- the word of a text spells it again
text_reprint : (F : Rule) (y : Expr) (value : List ℕ) → y.form ≡ form.Str value → Reprint F 8 y
text_reprint F y value e = leaf_reprint F y (form.Str value) (form.Str value) kind.Sq (39 ∷ (escaped value ++ 39 ∷ [])) true e refl (ap printed_form e ∙ printed_str value) (text_leaf F value)

-- a variable whose name has no dash is written as one
pub variable_words : (name : List ℕ) → has_dash name ≡ false → variable name ≡ word kind.Var (36 ∷ name)
variable_words name h = ap (λ v. cond v (word kind.Word name) (word kind.Var (36 ∷ name))) h

-- its word spells it again
variable_reprint : (F : Rule) (y : Expr) (name : List ℕ) → y.form ≡ form.Var name → has_dash name ≡ false → Reprint F 8 y
variable_reprint F y name e h = leaf_reprint F y (form.Var name) (form.Var name) kind.Var (36 ∷ name) true e refl (ap printed_form e ∙ printed_var name ∙ ap (λ (ws : List Word). operand ws true) (variable_words name h)) (λ at us t. rule.variable name t refl)

-- The name of a variable that stands in a text has no dash.
one_variable : (name : List ℕ) (at : ℕ) (ts : List Lexeme) (n : ℕ) → Token kind.Var (36 ∷ name) at ts → Small n ts → has_dash name ≡ false
one_variable name at ts n e good = (subst (λ (r : List Lexeme). AllStand r) e good.0).0

-- the number of a small token fits 64 bits with a sign
one_number : (raw : List ℕ) (at : ℕ) (ts : List Lexeme) (n : ℕ) → Token kind.Int raw at ts → Small n ts → int_value raw < 2 ^ 63
one_number raw at ts n e good = (subst (λ (r : List Lexeme). AllStand r) e good.0).0

-- ---- operands

-- what is known of the expressions within brackets
pub record Nested (e : ℕ) (x : Expr) : Type 0 where
  pub own : Reprint (IsExprAt (suc e)) 8 x
  pub inside : Again (IsExprAt (suc e)) x (expr_words x)

module _ (E : Rule) (e : ℕ) (nested : (x : Expr) (ts : List Lexeme) → E x ts → Small e ts → Nested e x) where
  -- expressions with brackets nested less deep than this
  abbrev F : Rule
  F = IsExprAt (suc e)

  -- the words of an expression in brackets spell it again
  inside_again : (x : Expr) (ts : List Lexeme) → E x ts → Small e ts → (us : List Lexeme) → words_in us ≡ expr_words x → (y : Expr) × F y us × (unplaced x ≡ unplaced y)
  inside_again x ts d good us w = (nested x ts d good).inside us w

  -- the words of a pair spell it again
  pair_again : (p : Expr × Expr) (ts : List Lexeme) → PairOf E p ts → Small e ts → (us : List Lexeme) → words_in us ≡ pair_by printed p → (q : Expr × Expr) × PairOf F q us × (unplaced_pair p ≡ unplaced_pair q)
  pair_again p ts d good us w =
      let a = parts us (expr_words p.0) (sign (codes "=>") ++ expr_words p.1) w in
      let b = parts a.back (sign (codes "=>")) (expr_words p.1) a.second in
      let g = parts_stand e (E p.0) (Sign (codes "=>") then E p.1) ts d good in
      let k = parts_stand e (Sign (codes "=>")) (E p.1) d.back d.second g.1 in
      let x = inside_again p.0 d.front d.first g.0 a.front a.first in
      let y = inside_again p.1 d.second.back d.second.second k.1 b.back b.second in (
        (x.0, y.0),
        together (F x.0) (Sign (codes "=>") then F y.0) us (expr_words p.0) (sign (codes "=>") ++ expr_words p.1) a x.1
            (together (Sign (codes "=>")) (F y.0) a.back (sign (codes "=>")) (expr_words p.1) b (one_word kind.Sign (codes "=>") b.front b.first) y.1),
        ap (λ (z : Expr). record { 0 = z; 1 = unplaced p.1 }) x.2 ∙ ap (λ (z : Expr). record { 0 = unplaced x.0; 1 = z }) y.2,
      )

  -- the words of expressions in a tight bracket spell them again
  in_tight_again : (xs : List Expr) (ts : List Lexeme) → Listed E xs ts → Small e ts → (us : List Lexeme) → words_in us ≡ in_tight (listed expr_words xs) → (ys : List Expr) × (Tight then Listed F ys then Sign (codes "]")) us × (map unplaced xs ≡ map unplaced ys)
  in_tight_again xs ts d good us w =
      let p = parts us (word kind.Tight (codes "[")) (listed expr_words xs ++ sign (codes "]")) w in
      let q = parts p.back (listed expr_words xs) (sign (codes "]")) p.second in
      let r = listed_again e E F expr_words unplaced inside_again xs ts d good q.front q.first in (
        r.0,
        together Tight (Listed F r.0 then Sign (codes "]")) us (word kind.Tight (codes "[")) (listed expr_words xs ++ sign (codes "]")) p (one_word kind.Tight (codes "[") p.front p.first)
            (together (Listed F r.0) (Sign (codes "]")) p.back (listed expr_words xs) (sign (codes "]")) q r.1 (one_word kind.Sign (codes "]") q.back q.second)),
        r.2,
      )

  -- the words of a list spell it again
  list_reprint : (y : Expr) (members : List Expr) (ts : List Lexeme) → y.form ≡ form.List members → MaybeListed E members ts → Small e ts → Reprint F 8 y
  list_reprint y members ts f d good = solid_reprint F y (in_loose (listed expr_words members)) true (ap printed_form f ∙ printed_list members) (λ us w.
      let p = parts us (word kind.Loose (codes "[")) (listed expr_words members ++ sign (codes "]")) w in
      let q = parts p.back (listed expr_words members) (sign (codes "]")) p.second in
      let t = one_word kind.Loose (codes "[") p.front p.first in
      let r = maybe_listed_again e E F expr_words unplaced inside_again members ts d good q.front q.first in
      let z : Expr = record { at = t.0; form = form.List r.0 } in (
        z,
        primary_postfix F z us (rule.list r.0 (together (Token kind.Loose (codes "[") t.0) (MaybeListed F r.0 then Sign (codes "]")) us (word kind.Loose (codes "[")) (listed expr_words members ++ sign (codes "]")) p t.1
            (together (MaybeListed F r.0) (Sign (codes "]")) p.back (listed expr_words members) (sign (codes "]")) q r.1 (one_word kind.Sign (codes "]") q.back q.second))) refl),
        same_form y (form.List members) (form.List r.0) t.0 f (unplaced_list members ∙ ap (λ (xs : List Expr). form.List xs) r.2 ∙ sym (unplaced_list r.0)),
      ))

  -- the words of a map spell it again
  map_reprint : (y : Expr) (pairs : List (Expr × Expr)) (ts : List Lexeme) → y.form ≡ form.Map pairs → MaybeListed (PairOf E) pairs ts → Small e ts → Reprint F 8 y
  map_reprint y pairs ts f d good = solid_reprint F y (in_braces (listed (pair_by printed) pairs)) false (ap printed_form f ∙ printed_map pairs) (λ us w.
      let p = parts us (sign (codes "{")) (listed (pair_by printed) pairs ++ sign (codes "}")) w in
      let q = parts p.back (listed (pair_by printed) pairs) (sign (codes "}")) p.second in
      let t = one_word kind.Sign (codes "{") p.front p.first in
      let r = maybe_listed_again e (PairOf E) (PairOf F) (pair_by printed) unplaced_pair pair_again pairs ts d good q.front q.first in
      let z : Expr = record { at = t.0; form = form.Map r.0 } in (
        z,
        primary_postfix F z us (rule.map r.0 (together (Token kind.Sign (codes "{") t.0) (MaybeListed (PairOf F) r.0 then Sign (codes "}")) us (sign (codes "{")) (listed (pair_by printed) pairs ++ sign (codes "}")) p t.1
            (together (MaybeListed (PairOf F) r.0) (Sign (codes "}")) p.back (listed (pair_by printed) pairs) (sign (codes "}")) q r.1 (one_word kind.Sign (codes "}") q.back q.second))) refl),
        same_form y (form.Map pairs) (form.Map r.0) t.0 f (unplaced_map pairs ∙ ap (λ (xs : List (Expr × Expr)). form.Map xs) r.2 ∙ sym (unplaced_map r.0)),
      ))

  -- the words of a type's name and titles spell a reference again
  pub refer_again : (y : Expr) (name : List ℕ) (titles : List Expr) (ts : List Lexeme) → y.form ≡ form.Refer name titles → Listed E titles ts → Small e ts → (us : List Lexeme) → words_in us ≡ refer_by printed name titles
      → (z : Expr) × ReferenceOf F z us × (unplaced y ≡ unplaced z)
  refer_again y name titles ts f d good us w =
      let p = parts us (word kind.Ref name) (in_tight (listed expr_words titles)) w in
      let t = one_word kind.Ref name p.front p.first in
      let r = in_tight_again titles ts d good p.back p.second in (
        record { at = t.0; form = form.Refer name r.0 },
        record {
          name = name;
          titles = r.0;
          spelled = together (Token kind.Ref name t.0) (Tight then Listed F r.0 then Sign (codes "]")) us (word kind.Ref name) (in_tight (listed expr_words titles)) p t.1 r.1;
          form_is = refl;
        },
        same_form y (form.Refer name titles) (form.Refer name r.0) t.0 f (unplaced_refer name titles ∙ ap (λ (xs : List Expr). form.Refer name xs) r.2 ∙ sym (unplaced_refer name r.0)),
      )

  -- the words of a reference spell it again as an operand
  refer_reprint : (y : Expr) (name : List ℕ) (titles : List Expr) (ts : List Lexeme) → y.form ≡ form.Refer name titles → Listed E titles ts → Small e ts → Reprint F 8 y
  refer_reprint y name titles ts f d good = solid_reprint F y (refer_by printed name titles) true (ap printed_form f ∙ printed_refer name titles) (λ us w.
      let r = refer_again y name titles ts f d good us w in
      (r.0, primary_postfix F r.0 us (rule.reference r.1), r.2))

  -- ---- texts in double quotes

  module _ (inner : (y : Expr) (ts : List Lexeme) → InnerOf E y ts → Small e ts → (us : List Lexeme) → words_in us ≡ expr_words y → (z : Expr) × InnerOf F z us × (unplaced y ≡ unplaced z)) where
    -- the words of an expression in `${` spell it again as a member
    hole_again : (y : Expr) → ((us : List Lexeme) → words_in us ≡ expr_words y → (z : Expr) × InnerOf F z us × (unplaced y ≡ unplaced z)) → (us : List Lexeme) → words_in us ≡ hole_by printed y → (z : Expr) × MemberOf F z us × (unplaced y ≡ unplaced z)
    hole_again y again us w =
        let p = parts us (word kind.Hole (codes "${")) (expr_words y ++ word kind.HoleEnd (codes "}")) w in
        let q = parts p.back (expr_words y) (word kind.HoleEnd (codes "}")) p.second in
        let r = again q.front q.first in (
          r.0,
          rule.hole (together (Some kind.Hole (codes "${")) (InnerOf F r.0 then Some kind.HoleEnd (codes "}")) us (word kind.Hole (codes "${")) (expr_words y ++ word kind.HoleEnd (codes "}")) p (one_word kind.Hole (codes "${") p.front p.first)
              (together (InnerOf F r.0) (Some kind.HoleEnd (codes "}")) p.back (expr_words y) (word kind.HoleEnd (codes "}")) q r.1 (one_word kind.HoleEnd (codes "}") q.back q.second))),
          r.2,
        )

    -- one token in a hole, which is no word
    leaf_inner : (y : Expr) (f : Form) (k : Kind) (s : List ℕ) (b : Bool) → y.form ≡ f → printed_form f ≡ operand (word k s) b → k ≢ kind.Word → Leaf (IsExprAt e) f k s
        → (us : List Lexeme) → words_in us ≡ expr_words y → (z : Expr) × InnerOf F z us × (unplaced y ≡ unplaced z)
    leaf_inner y f k s b form_is is n leaf us w =
        let t = one_word k s us (w ∙ ap (λ (g : Form). (printed_form g).words) form_is ∙ ap (λ (p : Printed). p.words) is) in
        let z : Expr = record { at = t.0; form = f } in
        (z, rule.other (looser_to (IsExprAt e) 0 8 z us (omega arith) (primary_postfix (IsExprAt e) z us (leaf t.0 us t.1))) (λ first x r. n (kinds us t.0 t.1 first)), same_form y f f t.0 form_is refl)
      where
        kinds : (us : List Lexeme) (at : ℕ) → Token k s at us → kind_of_first us ≡ prelude.Some kind.Word → k ≡ kind.Word
        kinds us at e first = let g : ◌≡◌ {A = Option Kind} (prelude.Some k) (prelude.Some kind.Word) = sym (ap kind_of_first e) ∙ first in cc

    -- the words of a member spell it again
    member_again : (y : Expr) (ts : List Lexeme) → MemberOf E y ts → Small e ts → (us : List Lexeme) → words_in us ≡ hole_by printed y → (z : Expr) × MemberOf F z us × (unplaced y ≡ unplaced z)
    member_again y ts (rule.text value raw d v f) good = hole_again y (leaf_inner y (form.Str value) kind.Sq (39 ∷ (escaped value ++ 39 ∷ [])) true f (printed_str value) (λ e. cc) (text_leaf (IsExprAt e) value))
    member_again y ts (rule.variable name d f) good =
        let h : has_dash name ≡ false = (subst (λ (r : List Lexeme). AllStand r) d good.0).0 in
        hole_again y (leaf_inner y (form.Var name) kind.Var (36 ∷ name) true f (printed_var name ∙ ap (λ (ws : List Word). operand ws true) (variable_words name h)) (λ e. cc) (λ at us t. rule.variable name t refl))
    member_again y ts (rule.hole d) good =
        let g = parts_stand e (Some kind.Hole (codes "${")) (InnerOf E y then Some kind.HoleEnd (codes "}")) ts d good in
        let k = parts_stand e (InnerOf E y) (Some kind.HoleEnd (codes "}")) d.back d.second g.1 in
        hole_again y (inner y d.second.front d.second.first k.0)

    -- the words of members spell them again
    members_again : (ms : List Expr) (ts : List Lexeme) → Members E ms ts → Small e ts → (us : List Lexeme) → words_in us ≡ flat_map (hole_by printed) ms → (ns : List Expr) × Members F ns us × (map unplaced ms ≡ map unplaced ns)
    members_again [] ts d good us w = ([], no_word us w, refl)
    members_again (y ∷ ms) ts d good us w =
        let p = parts us (hole_by printed y) (flat_map (hole_by printed) ms) w in
        let g = parts_stand e (MemberOf E y) (Members E ms) ts d good in
        let here = member_again y d.front d.first g.0 p.front p.first in
        let rest = members_again ms d.back d.second g.1 p.back p.second in (
          here.0 ∷ rest.0,
          together (MemberOf F here.0) (Members F rest.0) us (hole_by printed y) (flat_map (hole_by printed) ms) p here.1 rest.1,
          ap (λ (x : Expr). x ∷ map unplaced ms) here.2 ∙ ap (λ (r : List Expr). unplaced here.0 ∷ r) rest.2,
        )

    -- tokens that begin with a `${` have an expression among them
    hole_part : (us : List Lexeme) (ws : List Word) → words_in us ≡ word kind.Hole (codes "${") ++ ws → has_part us ≡ true
    hole_part [] ws h = cc
    hole_part (t ∷ us) ws h =
        let same : ◌≡◌ {A = Word} (record { kind = t.kind; text = t.text }) (record { kind = kind.Hole; text = codes "${" }) = cc in
        ap (λ (w : Word). is_part w.kind || list_any (λ (u : Lexeme). is_part u.kind) us) same

    -- where a variable or an expression is among members, it is so in what their words spell
    some_part : (ms : List Expr) (ts us : List Lexeme) → Members E ms ts → has_part ts ≡ true → words_in us ≡ flat_map (hole_by printed) ms → has_part us ≡ true
    some_part [] ts us d h w = let g : false ≡ true = sym (ap has_part d) ∙ h in cc
    some_part (y ∷ ms) ts us d h w = hole_part us ((expr_words y ++ word kind.HoleEnd (codes "}")) ++ flat_map (hole_by printed) ms) w

    -- members with a variable or an expression among them
    abbrev Joined : Rule → List Expr → List Lexeme → Type 0
    Joined G ms ts = Members G ms ts × (has_part ts ≡ true)

    -- the words of a text in double quotes spell it again
    join_reprint : (y : Expr) (ms : List Expr) (ts : List Lexeme) → y.form ≡ form.Join ms → Joined E ms ts → Small e ts → Reprint F 8 y
    join_reprint y ms ts f d good = solid_reprint F y (joined_by printed ms) true (ap printed_form f ∙ printed_join ms) (λ us w.
        let p = parts us (word kind.DqOpen (codes "\"")) (flat_map (hole_by printed) ms ++ word kind.DqClose (codes "\"")) w in
        let q = parts p.back (flat_map (hole_by printed) ms) (word kind.DqClose (codes "\"")) p.second in
        let t = one_word kind.DqOpen (codes "\"") p.front p.first in
        let r = members_again ms ts d.0 good q.front q.first in
        let z : Expr = record { at = t.0; form = form.Join r.0 } in (
          z,
          primary_postfix F z us (rule.string (rule.joined r.0 (together (Token kind.DqOpen (codes "\"") t.0) (Joined F r.0 then Some kind.DqClose (codes "\"")) us (word kind.DqOpen (codes "\"")) (flat_map (hole_by printed) ms ++ word kind.DqClose (codes "\"")) p t.1
              (together (Joined F r.0) (Some kind.DqClose (codes "\"")) p.back (flat_map (hole_by printed) ms) (word kind.DqClose (codes "\"")) q (r.1, some_part ms ts q.front d.0 d.1 q.first) (one_word kind.DqClose (codes "\"") q.back q.second))) refl)),
          same_form y (form.Join ms) (form.Join r.0) t.0 f (unplaced_join ms ∙ ap (λ (xs : List Expr). form.Join xs) r.2 ∙ sym (unplaced_join r.0)),
        ))

    -- ---- all of them

    -- behind one token fewer are left
    behind_one : (A B : List Lexeme → Type 0) (ts : List Lexeme) (d : (A then B) ts) → length d.front ≡ 1 → Small (suc e) ts → Small e d.back
    behind_one A B ts d one good = let g = parts_stand (suc e) A B ts d good in (g.1.0, omega (arith, good.1, one, ap length d.whole, length-append d.front d.back))

    -- the word of `true`, `false` or `undef` spells it again
    keyword_reprint : (y : Expr) (f : Form) (s : List ℕ) → y.form ≡ f → printed_form f ≡ operand (keyword s) false → Leaf F f kind.Keyword s → Reprint F 8 y
    keyword_reprint y f s form_is is leaf = leaf_reprint F y f f kind.Keyword s false form_is refl (ap printed_form form_is ∙ is) leaf

    -- the word of a number spells it again
    int_reprint : (y : Expr) (n : ℕ) → y.form ≡ form.Int (pos n) → n < 2 ^ 63 → Reprint F 8 y
    int_reprint y n f h = leaf_reprint F y (form.Int (pos n)) (form.Int (pos n)) kind.Int (decimal n) false f refl (ap printed_form f ∙ printed_int (pos n))
        (λ at us t. rule.int (decimal n) t (ap (λ (m : ℕ). form.Int (pos m)) (sym (int_decimal n h))))

    -- the words of a string spell it again
    string_reprint : (y : Expr) (ts : List Lexeme) → StringOf E y ts → Small (suc e) ts → Reprint F 8 y
    string_reprint y ts (rule.single value raw t v f) good = text_reprint F y value f
    string_reprint y ts (rule.plain value d f) good = text_reprint F y value f
    string_reprint y ts (rule.joined ms d f) good =
        let g = behind_one (Token kind.DqOpen (codes "\"") y.at) (Joined E ms then Some kind.DqClose (codes "\"")) ts d (ap length d.first) good in
        let k = parts_stand e (Joined E ms) (Some kind.DqClose (codes "\"")) d.back d.second g in
        join_reprint y ms d.second.front f d.second.first k.0

    -- the words of an operand spell it again
    pub primary_again : (y : Expr) (ts : List Lexeme) → PrimaryOf E y ts → Small (suc e) ts → Reprint F 8 y
    primary_again y ts (rule.int raw t f) good = int_reprint y (int_value raw) f (one_number raw y.at ts (suc e) t good)
    primary_again y ts (rule.string d) good = string_reprint y ts d good
    primary_again y ts (rule.word name t f) good = text_reprint F y name f
    primary_again y ts (rule.variable name t f) good = variable_reprint F y name f (one_variable name y.at ts (suc e) t good)
    primary_again y ts (rule.truth t f) good = keyword_reprint y (form.Bool true) (codes "true") f (printed_bool true) (λ at us u. rule.truth u refl)
    primary_again y ts (rule.falsehood t f) good = keyword_reprint y (form.Bool false) (codes "false") f (printed_bool false) (λ at us u. rule.falsehood u refl)
    primary_again y ts (rule.undefined t f) good = keyword_reprint y form.Undef (codes "undef") f printed_undef (λ at us u. rule.undefined u refl)
    primary_again y ts (rule.enclosed d) good =
        let g = behind_one (Sign (codes "(")) (E y then Sign (codes ")")) ts d (ap length d.first.1) good in
        let k = parts_stand e (E y) (Sign (codes ")")) d.back d.second g in
        (nested y d.second.front d.second.first k.0).own
    primary_again y ts (rule.list members d f) good =
        let g = behind_one (Token kind.Loose (codes "[") y.at) (MaybeListed E members then Sign (codes "]")) ts d (ap length d.first) good in
        let k = parts_stand e (MaybeListed E members) (Sign (codes "]")) d.back d.second g in
        list_reprint y members d.second.front f d.second.first k.0
    primary_again y ts (rule.map pairs d f) good =
        let g = behind_one (Token kind.Sign (codes "{") y.at) (MaybeListed (PairOf E) pairs then Sign (codes "}")) ts d (ap length d.first) good in
        let k = parts_stand e (MaybeListed (PairOf E) pairs) (Sign (codes "}")) d.back d.second g in
        map_reprint y pairs d.second.front f d.second.first k.0
    primary_again y ts (rule.reference r) good =
        let d = r.spelled in
        let g = behind_one (Token kind.Ref r.name y.at) (Tight then Listed E r.titles then Sign (codes "]")) ts d (ap length d.first) good in
        let k = parts_stand e Tight (Listed E r.titles then Sign (codes "]")) d.back d.second g in
        let m = parts_stand e (Listed E r.titles) (Sign (codes "]")) d.second.back d.second.second k.1 in
        refer_reprint y r.name r.titles d.second.second.front r.form_is d.second.second.first m.0

-- ---- nothing is spelled by no token

-- a token is no empty list of tokens
token_some : (k : Kind) (s : List ℕ) (at : ℕ) (ts : List Lexeme) → Token k s at ts → ts ≢ []
token_some k s at ts d e = let f : ◌≡◌ {A = List Lexeme} (record { kind = k; text = s; at = at } ∷ []) [] = sym d ∙ e in cc

-- nor are two phrases of which the first is none
then_some : (A B : List Lexeme → Type 0) (ts : List Lexeme) (d : (A then B) ts) → d.front ≢ [] → ts ≢ []
then_some A B ts d n e = n (front_none d.front d.back (sym d.whole ∙ e))
  where
    front_none : (xs ys : List Lexeme) → xs ++ ys ≡ [] → xs ≡ []
    front_none [] ys h = refl
    front_none (x ∷ xs) ys h = cc

-- nor is a string
string_some : (F : Rule) (y : Expr) (ts : List Lexeme) → StringOf F y ts → ts ≢ []
string_some F y ts (rule.single value raw t v f) = token_some kind.Sq raw y.at ts t
string_some F y ts (rule.plain value d f) = then_some _ _ ts d (token_some kind.DqOpen (codes "\"") y.at d.front d.first)
string_some F y ts (rule.joined ms d f) = then_some _ _ ts d (token_some kind.DqOpen (codes "\"") y.at d.front d.first)

-- nor is an operand
primary_some : (F : Rule) (y : Expr) (ts : List Lexeme) → PrimaryOf F y ts → ts ≢ []
primary_some F y ts (rule.int raw t f) = token_some kind.Int raw y.at ts t
primary_some F y ts (rule.string d) = string_some F y ts d
primary_some F y ts (rule.word name t f) = token_some kind.Word name y.at ts t
primary_some F y ts (rule.variable name t f) = token_some kind.Var (36 ∷ name) y.at ts t
primary_some F y ts (rule.truth t f) = token_some kind.Keyword (codes "true") y.at ts t
primary_some F y ts (rule.falsehood t f) = token_some kind.Keyword (codes "false") y.at ts t
primary_some F y ts (rule.undefined t f) = token_some kind.Keyword (codes "undef") y.at ts t
primary_some F y ts (rule.enclosed d) = then_some _ _ ts d (token_some kind.Sign (codes "(") d.first.0 d.front d.first.1)
primary_some F y ts (rule.list members d f) = then_some _ _ ts d (token_some kind.Loose (codes "[") y.at d.front d.first)
primary_some F y ts (rule.map pairs d f) = then_some _ _ ts d (token_some kind.Sign (codes "{") y.at d.front d.first)
primary_some F y ts (rule.reference r) = then_some _ _ ts r.spelled (token_some kind.Ref r.name y.at r.spelled.front r.spelled.first)

-- tokens with others behind them begin where they do
place_front : (xs ys : List Lexeme) → xs ≢ [] → place_of (xs ++ ys) ≡ place_of xs
place_front [] ys n = absurd (n refl)
place_front (x ∷ xs) ys n = refl

-- ---- one more index or selection

-- with one more index or selection, they are indexes and selections
one_more : (F : Rule) (at : ℕ) (x y z : Expr) (ts us : List Lexeme) → SuffixesOf F at x y ts → SuffixOf F y z us → z.at ≡ at → SuffixesOf F at x z (ts ++ us)
one_more F at x y z ts us (rule.none e none) d is = subst (λ (v : Expr). SuffixesOf F at v z (ts ++ us)) (sym e) (subst (λ (r : List Lexeme). SuffixesOf F at y z (r ++ us)) (sym none) (rule.one z us [] (sym (append-nil us)) d is (rule.none refl refl)))
one_more F at x y z ts us (rule.one v front back e s v_at more) d is = rule.one v front (back ++ us) (ap (λ (r : List Lexeme). r ++ us) e ∙ append_assoc front back us) s v_at (one_more F at v y z back us more d is)

-- an operand with one more index or selection is one with several
extend : (F : Rule) (x z : Expr) (front back us : List Lexeme) → PostfixOf F x front → SuffixOf F x z back → us ≡ front ++ back → z.at ≡ place_of us → PostfixOf F z us
extend F x z front back us h d whole is =
    let parts_is : us ≡ h.front ++ (h.back ++ back) = whole ∙ ap (λ (r : List Lexeme). r ++ back) h.whole ∙ append_assoc h.front h.back back in
    let some = primary_some F h.operand h.front h.primary in
    let place : place_of front ≡ place_of us = ap place_of h.whole ∙ place_front h.front h.back some ∙ sym (place_front h.front (h.back ++ back) some) ∙ sym (ap place_of parts_is) in
    record {
      operand = h.operand;
      front = h.front;
      back = h.back ++ back;
      primary = h.primary;
      suffixes = one_more F (place_of us) h.operand x z h.back back (subst (λ at. SuffixesOf F at h.operand x h.back) place h.suffixes) d is;
      whole = parts_is;
    }

-- within brackets
pub inside_of : (G : Rule) (n : ℕ) (x : Expr) → Reprint G n x → Again (ExprOf G) x (expr_words x)
inside_of G n x r us w = let a = r.own us w in (a.0, looser_to G (8 - (printed x).level) 8 a.0 us (omega arith) a.1, a.2)

-- the words of what stands before an index spell it again
indexed_again : (G : Rule) (x : Expr) → Reprint (ExprOf G) 8 x → Reprint G 8 x → (us : List Lexeme) → words_in us ≡ indexed (printed x) → (y : Expr) × PostfixOf (ExprOf G) y us × (unplaced x ≡ unplaced y)
indexed_again G x r s us w = elim (printed x).indexable as (λ v. (printed x).indexable ≡ v → words_in us ≡ cond v (expr_words x) (in_parens (expr_words x)) → (y : Expr) × PostfixOf (ExprOf G) y us × (unplaced x ≡ unplaced y)) [
  | true ↦ λ e k. let a = r.own us k in (a.0, subst (λ n. RuleAt (ExprOf G) n a.0 us) (indexable_level x e) a.1, a.2)
  | false ↦ λ e k. enclosed_again (ExprOf G) x us (inside_of G 8 x s) k
] refl w

-- ---- indexes and selections

module _ (E : Rule) (nested : (e : ℕ) (x : Expr) (ts : List Lexeme) → E x ts → Small e ts → Nested e x)
    (inner : (e : ℕ) (y : Expr) (ts : List Lexeme) → InnerOf E y ts → Small e ts → (us : List Lexeme) → words_in us ≡ expr_words y → (z : Expr) × InnerOf (IsExprAt (suc e)) z us × (unplaced y ≡ unplaced z)) where
  -- from this number of tokens on
  abbrev From : ℕ → Expr → Type 0
  From n x = (e : ℕ) → n ≤ e → Reprint (IsExprAt (suc e)) 8 x

  -- the words of an option spell it again
  option_again : (e : ℕ) (o : Option Expr) (ts : List Lexeme) → OptionOf E o ts → Small e ts → (us : List Lexeme) → words_in us ≡ option_by expr_words o → (p : Option Expr) × OptionOf (IsExprAt (suc e)) p us × (option_map unplaced o ≡ option_map unplaced p)
  option_again e prelude.None ts d good us w = (prelude.None, one_word kind.Keyword (codes "default") us w, refl)
  option_again e (prelude.Some x) ts d good us w = let r = (nested e x ts d good).inside us w in (prelude.Some r.0, r.1, ap (λ (y : Expr). prelude.Some y) r.2)

  -- the choice of `default`
  abbrev default_with : Expr → Option Expr × Expr
  default_with z = (prelude.None, z)

  -- choices are the same, places aside, where both parts are
  choice_same : (c d : Option Expr × Expr) → option_map unplaced c.0 ≡ option_map unplaced d.0 → unplaced c.1 ≡ unplaced d.1 → unplaced_choice c ≡ unplaced_choice d
  choice_same (prelude.None, x) (prelude.None, y) h k = ap default_with k
  choice_same (prelude.None, x) (prelude.Some b, y) h k = cc
  choice_same (prelude.Some a, x) (prelude.None, y) h k = cc
  choice_same (prelude.Some a, x) (prelude.Some b, y) h k = ap (λ (z : Option Expr). record { 0 = z; 1 = unplaced x }) h ∙ ap (λ (z : Expr). record { 0 = prelude.Some (unplaced b); 1 = z }) k

  -- the words of a choice spell it again
  choice_again : (e : ℕ) (c : Option Expr × Expr) (ts : List Lexeme) → ChoiceOf E c ts → Small e ts → (us : List Lexeme) → words_in us ≡ choice_by printed c → (d : Option Expr × Expr) × ChoiceOf (IsExprAt (suc e)) d us × (unplaced_choice c ≡ unplaced_choice d)
  choice_again e c ts d good us w =
      let a = parts us (option_by expr_words c.0) (sign (codes "=>") ++ expr_words c.1) w in
      let b = parts a.back (sign (codes "=>")) (expr_words c.1) a.second in
      let g = parts_stand e (OptionOf E c.0) (Sign (codes "=>") then E c.1) ts d good in
      let k = parts_stand e (Sign (codes "=>")) (E c.1) d.back d.second g.1 in
      let o = option_again e c.0 d.front d.first g.0 a.front a.first in
      let x = (nested e c.1 d.second.back d.second.second k.1).inside b.back b.second in (
        (o.0, x.0),
        together (OptionOf (IsExprAt (suc e)) o.0) (Sign (codes "=>") then IsExprAt (suc e) x.0) us (option_by expr_words c.0) (sign (codes "=>") ++ expr_words c.1) a o.1
            (together (Sign (codes "=>")) (IsExprAt (suc e) x.0) a.back (sign (codes "=>")) (expr_words c.1) b (one_word kind.Sign (codes "=>") b.front b.first) x.1),
        choice_same c (o.0, x.0) o.2 x.2,
      )

  -- the words of an operand with one more index spell it again
  index_again : (e : ℕ) (x z key : Expr) (ts : List Lexeme) → Reprint (IsExprAt (suc (suc e))) 8 x → Reprint (IsExprAt (suc e)) 8 x → (Tight then E key then Sign (codes "]")) ts → Small (suc (suc e)) ts → z.form ≡ form.Index x key → Reprint (IsExprAt (suc (suc e))) 8 z
  index_again e x z key ts r s d good f =
      let g = parts_stand (suc (suc e)) Tight (E key then Sign (codes "]")) ts d good in
      let back_small : Small (suc e) d.back = (g.1.0, omega (arith, good.1, ap length d.first.1, ap length d.whole, length-append d.front d.back)) in
      let k = parts_stand (suc e) (E key) (Sign (codes "]")) d.back d.second back_small in
      let key_known = nested (suc e) key d.second.front d.second.first k.0 in
      solid_reprint (IsExprAt (suc (suc e))) z (index_by printed x key) true (ap printed_form f ∙ printed_at x key) (λ us w.
      let p = parts us (indexed (printed x)) (in_tight (expr_words key)) w in
      let q = parts p.back (word kind.Tight (codes "[")) (expr_words key ++ sign (codes "]")) p.second in
      let t = parts q.back (expr_words key) (sign (codes "]")) q.second in
      let base = indexed_again (IsExprAt (suc e)) x r s p.front p.first in
      let inside = key_known.inside t.front t.first in
      let y : Expr = record { at = place_of us; form = form.Index base.0 inside.0 } in
      let suffix : SuffixOf (IsExprAt (suc (suc e))) base.0 y p.back = rule.index inside.0 (together Tight (IsExprAt (suc (suc e)) inside.0 then Sign (codes "]")) p.back (word kind.Tight (codes "[")) (expr_words key ++ sign (codes "]")) q (one_word kind.Tight (codes "[") q.front q.first)
      (together (IsExprAt (suc (suc e)) inside.0) (Sign (codes "]")) q.back (expr_words key) (sign (codes "]")) t inside.1 (one_word kind.Sign (codes "]") t.back t.second))) refl in (
        y,
        extend (IsExprAt (suc (suc e))) base.0 y p.front p.back us base.1 suffix p.whole refl,
        same_form z (form.Index x key) (form.Index base.0 inside.0) (place_of us) f (unplaced_at x key ∙ ap (λ (v : Expr). form.Index v (unplaced key)) base.2 ∙ ap (λ (v : Expr). form.Index (unplaced base.0) v) inside.2 ∙ sym (unplaced_at base.0 inside.0)),
      ))

  -- the words of a selection's choices spell them again
  selection_again : (e : ℕ) (choices : List (Option Expr × Expr)) (ts : List Lexeme) → (Sign (codes "?") then Sign (codes "{") then Listed (ChoiceOf E) choices then Sign (codes "}")) ts → Small e ts → (us : List Lexeme)
      → words_in us ≡ sign (codes "?") ++ in_braces (listed (choice_by printed) choices)
      → (cs : List (Option Expr × Expr)) × (Sign (codes "?") then Sign (codes "{") then Listed (ChoiceOf (IsExprAt (suc e))) cs then Sign (codes "}")) us × (map unplaced_choice choices ≡ map unplaced_choice cs)
  selection_again e choices ts d good us w =
      let p = parts us (sign (codes "?")) (in_braces (listed (choice_by printed) choices)) w in
      let q = parts p.back (sign (codes "{")) (listed (choice_by printed) choices ++ sign (codes "}")) p.second in
      let t = parts q.back (listed (choice_by printed) choices) (sign (codes "}")) q.second in
      let g = parts_stand e (Sign (codes "?")) (Sign (codes "{") then Listed (ChoiceOf E) choices then Sign (codes "}")) ts d good in
      let k = parts_stand e (Sign (codes "{")) (Listed (ChoiceOf E) choices then Sign (codes "}")) d.back d.second g.1 in
      let m = parts_stand e (Listed (ChoiceOf E) choices) (Sign (codes "}")) d.second.back d.second.second k.1 in
      let r = listed_again e (ChoiceOf E) (ChoiceOf (IsExprAt (suc e))) (choice_by printed) unplaced_choice (choice_again e) choices d.second.second.front d.second.second.first m.0 t.front t.first in (
        r.0,
        together (Sign (codes "?")) (Sign (codes "{") then Listed (ChoiceOf (IsExprAt (suc e))) r.0 then Sign (codes "}")) us (sign (codes "?")) (in_braces (listed (choice_by printed) choices)) p (one_word kind.Sign (codes "?") p.front p.first)
            (together (Sign (codes "{")) (Listed (ChoiceOf (IsExprAt (suc e))) r.0 then Sign (codes "}")) p.back (sign (codes "{")) (listed (choice_by printed) choices ++ sign (codes "}")) q (one_word kind.Sign (codes "{") q.front q.first)
            (together (Listed (ChoiceOf (IsExprAt (suc e))) r.0) (Sign (codes "}")) q.back (listed (choice_by printed) choices) (sign (codes "}")) t r.1 (one_word kind.Sign (codes "}") t.back t.second))),
        r.2,
      )

  -- the words of an operand with one more selection spell it again
  select_again : (e : ℕ) (x z : Expr) (choices : List (Option Expr × Expr)) (ts : List Lexeme) → Reprint (IsExprAt (suc e)) 8 x → (Sign (codes "?") then Sign (codes "{") then Listed (ChoiceOf E) choices then Sign (codes "}")) ts → Small e ts → z.form ≡ form.Select x choices → Reprint (IsExprAt (suc e)) 8 z
  select_again e x z choices ts r d good f = solid_reprint (IsExprAt (suc e)) z (select_by printed x choices) false (ap printed_form f ∙ printed_select x choices) (λ us w.
      let p = parts us (at_level 8 (printed x)) (sign (codes "?") ++ in_braces (listed (choice_by printed) choices)) w in
      let base = at_level_again (IsExprAt (suc e)) 8 x (omega arith) r p.front p.first in
      let more = selection_again e choices ts d good p.back p.second in
      let y : Expr = record { at = place_of us; form = form.Select base.0 more.0 } in (
        y,
        extend (IsExprAt (suc e)) base.0 y p.front p.back us base.1 (rule.selection more.0 more.1 refl) p.whole refl,
        same_form z (form.Select x choices) (form.Select base.0 more.0) (place_of us) f
            (unplaced_select x choices ∙ ap (λ (v : Expr). form.Select v (map unplaced_choice choices)) base.2 ∙ ap (λ (v : List (Option Expr × Expr)). form.Select (unplaced base.0) v) more.2 ∙ sym (unplaced_select base.0 more.0)),
      ))

  -- the words of an operand with an index or a selection spell it again, from more tokens on
  suffix_again : (n : ℕ) (x z : Expr) (ts : List Lexeme) → From n x → SuffixOf E x z ts → AllStand ts → 1 ≤ n → (e : ℕ) → n + length ts ≤ e → Reprint (IsExprAt (suc e)) 8 z
  suffix_again n x z ts base (rule.index key d f) good some zero most = absurd (omega (arith, some, most))
  suffix_again n x z ts base (rule.index key d f) good some (suc e) most =
      let long : 1 ≤ length ts = omega (arith, ap length d.first.1, ap length d.whole, length-append d.front d.back) in
      index_again e x z key ts (base (suc e) (omega (arith, most))) (base e (omega (arith, most, long))) d (good, omega (arith, most, some)) f
  suffix_again n x z ts base (rule.selection choices d f) good some e most = select_again e x z choices ts (base e (omega (arith, most))) d (good, omega (arith, most, some)) f

  -- of tokens that stand so do both parts
  stand_parts : (xs ys ts : List Lexeme) → ts ≡ xs ++ ys → AllStand ts → AllStand xs × AllStand ys
  stand_parts xs ys ts e h = let g = both_small (length ts + 1) xs ys ts e (h, omega arith) in (g.0.0, g.1.0)

  -- the words of an operand with several spell it again, from as many more tokens on
  suffixes_again : (at n : ℕ) (x y : Expr) (ts : List Lexeme) → SuffixesOf E at x y ts → From n x → AllStand ts → 1 ≤ n → From (n + length ts) y
  suffixes_again at n x y ts (rule.none e none) base good some k most = subst (λ (v : Expr). Reprint (IsExprAt (suc k)) 8 v) e (base k (omega (arith, most)))
  suffixes_again at n x y ts (rule.one z front back e d z_at more) base good some k most =
      let g = stand_parts front back ts e good in
      suffixes_again at (n + length front) z y back more (suffix_again n x z front base d g.0 some) g.1 (omega (arith, some)) k (omega (arith, most, ap length e, length-append front back))

  -- tokens that aren't none are one or more
  some_long : (ts : List Lexeme) → ts ≢ [] → 1 ≤ length ts
  some_long [] n = absurd (n refl)
  some_long (t ∷ ts) n = omega arith

  -- the words of an operand with indexes and selections spell it again
  pub postfix_again : (e : ℕ) (y : Expr) (ts : List Lexeme) → PostfixOf E y ts → Small (suc e) ts → Reprint (IsExprAt (suc e)) 8 y
  postfix_again e y ts h good =
      let g = both_small (suc e) h.front h.back ts h.whole good in
      suffixes_again (place_of ts) (length h.front) h.operand y h.back h.suffixes (λ k most. primary_again E k (nested k) (inner k) h.operand h.front h.primary (g.0.0, omega (arith, most))) g.1.0
      (some_long h.front (primary_some E h.operand h.front h.primary)) e (omega (arith, good.1, ap length h.whole, length-append h.front h.back))

  -- An expression is spelled again where those within brackets are.
  pub expression_again : (e : ℕ) (y : Expr) (ts : List Lexeme) → ExprOf E y ts → Small (suc e) ts → Reprint (IsExprAt (suc e)) 0 y
  expression_again e = expr_again (suc e) (IsExprAt (suc e)) E (postfix_again e)
