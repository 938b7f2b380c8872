-- The words of what stands in resources spell it again, places aside.
use Rattle.std.proofs.Common.{◌≡◌, inl, ℕ, suc, true, false, cond, List, [], ◌++◌, length, map, refl, sym, ap, subst, ◌∙◌, append-nil, arith}
use Rattle.std.specs.Prelude.{Option, codes}
use Rattle.std.specs.Prelude as prelude
use Rattle.std.specs.Option.{option_map}
use Rattle.pp_syntax.specs.declared.token.Kind.TheVariants as kind
use Rattle.pp_syntax.specs.declared.tree.Expr.{Expr}
use Rattle.pp_syntax.specs.declared.tree.Attr.{Attr}
use Rattle.pp_syntax.specs.declared.tree.Body.{Body}
use Rattle.pp_syntax.specs.Tokens.{Lexeme, is_among, keywords}
use Rattle.pp_syntax.specs.Phrases.{◌then◌, Sign, Maybe, MaybeListed, Separated, place_of}
use Rattle.pp_syntax.specs.Derivation.{InnerOf, PostfixOf, OptionOf, IsExprAt, IsExpr}
use Rattle.pp_syntax.specs.Derivation as rule
use Rattle.pp_syntax.specs.Statements.{NameOf, AttrOf, BodyOf, BodiesOf}
use Rattle.pp_syntax.specs.Statements as statement
use Rattle.pp_print.specs.Words.{word, sign, named, listed}
use Rattle.pp_print.specs.Expressions.{printed, expr_words, at_level, option_by}
use Rattle.pp_print.specs.Statements.{attr_words, body_words, bodies_words}
use Rattle.pp_print.specs.Places.{unplaced, unplaced_attr, unplaced_body}
use Rattle.pp_print.proofs.Phrases.{words_in, parts, one_word, together, AllStand, Small, parts_stand, separated_again, maybe_listed_again}
use Rattle.pp_print.proofs.Reprints.{at_level_again}
use Rattle.pp_print.proofs.Postfixes.{Nested, postfix_again}
use Rattle.pp_print.proofs.Inners.{inner_again, spelled_again, expression_reads}
use Rattle.pp_print.proofs.Widening.{postfix_wide}

-- ---- expressions

-- what is known of expressions within brackets holds of each small one
pub nested_expr : (e : ℕ) (x : Expr) (ts : List Lexeme) → IsExpr x ts → Small e ts → Nested e x
nested_expr e x ts d good = spelled_again d.0 e x ts d.1 good

-- the words of what stands within `${` and `}` spell it again
inner_expr : (e : ℕ) (y : Expr) (ts : List Lexeme) → InnerOf IsExpr y ts → Small e ts → (us : List Lexeme) → words_in us ≡ expr_words y → (z : Expr) × InnerOf (IsExprAt (suc e)) z us × (unplaced y ≡ unplaced z)
inner_expr e y ts (rule.variable x first d r) good us w = inner_again d.0 (spelled_again d.0) e y ts (rule.variable x first d.1 r) good us w
inner_expr e y ts (rule.other d n) good us w = inner_again d.0 (spelled_again d.0) e y ts (rule.other d.1 n) good us w

-- an expression at some depth is an expression
pub widen : (k : ℕ) (x : Expr) (us : List Lexeme) → IsExprAt k x us → IsExpr x us
widen k x us d = (k, d)

-- the operand of a comparison
pub postfix_reads : (n : ℕ) (y : Expr) (ts : List Lexeme) → PostfixOf IsExpr y ts → Small n ts → (us : List Lexeme) → words_in us ≡ at_level 8 (printed y) → (z : Expr) × PostfixOf IsExpr z us × (unplaced y ≡ unplaced z)
postfix_reads n y ts d good us w =
    let e = length ts in
    let r = at_level_again (IsExprAt (suc e)) 8 y (omega arith) (postfix_again IsExpr nested_expr inner_expr e y ts d (good.0, omega arith)) us w in
    (r.0, postfix_wide (IsExprAt (suc e)) IsExpr (widen (suc e)) r.0 us r.1, r.2)

-- the words of an expression spell it again
pub expr_reads : (n : ℕ) (x : Expr) (ts : List Lexeme) → IsExpr x ts → Small n ts → (us : List Lexeme) → words_in us ≡ expr_words x → (y : Expr) × IsExpr y us × (unplaced x ≡ unplaced y)
expr_reads n x ts d good us w = expression_reads x ts d good.0 us w

-- the words of an option spell it again
pub option_reads : (n : ℕ) (o : Option Expr) (ts : List Lexeme) → OptionOf IsExpr o ts → Small n ts → (us : List Lexeme) → words_in us ≡ option_by expr_words o → (p : Option Expr) × OptionOf IsExpr p us × (option_map unplaced o ≡ option_map unplaced p)
option_reads n prelude.None ts d good us w = (prelude.None, one_word kind.Keyword (codes "default") us w, refl)
option_reads n (prelude.Some x) ts d good us w = let r = expr_reads n x ts d good us w in (prelude.Some r.0, r.1, ap (λ (y : Expr). prelude.Some y) r.2)

-- ---- attributes and bodies

-- the word of a name spells it again
pub name_reads : (n : ℕ) (name : List ℕ) (ts : List Lexeme) → NameOf name ts → Small n ts → (us : List Lexeme) → words_in us ≡ named name → NameOf name us
name_reads n name ts (statement.word d c) good us w =
    let h : is_among keywords name ≡ false = (subst (λ (r : List Lexeme). AllStand r) d.1 good.0).0 in
    statement.word (one_word kind.Word name us (w ∙ ap (λ b. word (cond b kind.Keyword kind.Word) name) h)) c
name_reads n name ts (statement.keyword d) good us w =
    let h : is_among keywords name ≡ true = (subst (λ (r : List Lexeme). AllStand r) d.1 good.0).0 in
    statement.keyword (one_word kind.Keyword name us (w ∙ ap (λ b. word (cond b kind.Keyword kind.Word) name) h))

-- the words of an attribute spell it again
attr_reads : (n : ℕ) (a : Attr) (ts : List Lexeme) → AttrOf IsExpr a ts → Small n ts → (us : List Lexeme) → words_in us ≡ attr_words a → (b : Attr) × AttrOf IsExpr b us × (unplaced_attr a ≡ unplaced_attr b)
attr_reads n a ts d good us w =
    let p = parts us (named a.name) (sign (codes "=>") ++ expr_words a.value) w in
    let q = parts p.back (sign (codes "=>")) (expr_words a.value) p.second in
    let g = parts_stand n (NameOf a.name) (Sign (codes "=>") then IsExpr a.value) ts d.1 good in
    let k = parts_stand n (Sign (codes "=>")) (IsExpr a.value) d.1.back d.1.second g.1 in
    let r = expr_reads n a.value d.1.second.back d.1.second.second k.1 q.back q.second in (
      record { at = place_of us; name = a.name; value = r.0 },
      (
        refl,
        together (NameOf a.name) (Sign (codes "=>") then IsExpr r.0) us (named a.name) (sign (codes "=>") ++ expr_words a.value) p (name_reads n a.name d.1.front d.1.first g.0 p.front p.first)
            (together (Sign (codes "=>")) (IsExpr r.0) p.back (sign (codes "=>")) (expr_words a.value) q (one_word kind.Sign (codes "=>") q.front q.first) r.1),
      ),
      ap (λ (v : Expr). record { at = 0; name = a.name; value = v }) r.2,
    )

-- the words of attributes spell them again
pub attrs_read : (n : ℕ) (xs : List Attr) (ts : List Lexeme) → MaybeListed (AttrOf IsExpr) xs ts → Small n ts → (us : List Lexeme) → words_in us ≡ listed attr_words xs → (bs : List Attr) × MaybeListed (AttrOf IsExpr) bs us × (map unplaced_attr xs ≡ map unplaced_attr bs)
attrs_read n xs ts d good us w = maybe_listed_again n (AttrOf IsExpr) (AttrOf IsExpr) attr_words unplaced_attr (attr_reads n) xs ts d good us w

-- the words of a body spell it again
body_reads : (n : ℕ) (b : Body) (ts : List Lexeme) → BodyOf IsExpr b ts → Small n ts → (us : List Lexeme) → words_in us ≡ body_words b → (c : Body) × BodyOf IsExpr c us × (unplaced_body b ≡ unplaced_body c)
body_reads n b ts d good us w =
    let p = parts us (expr_words b.title) (sign (codes ":") ++ listed attr_words b.attrs) w in
    let q = parts p.back (sign (codes ":")) (listed attr_words b.attrs) p.second in
    let g = parts_stand n (IsExpr b.title) (Sign (codes ":") then MaybeListed (AttrOf IsExpr) b.attrs) ts d good in
    let k = parts_stand n (Sign (codes ":")) (MaybeListed (AttrOf IsExpr) b.attrs) d.back d.second g.1 in
    let r = expr_reads n b.title d.front d.first g.0 p.front p.first in
    let s = attrs_read n b.attrs d.second.back d.second.second k.1 q.back q.second in (
      record { title = r.0; attrs = s.0 },
      together (IsExpr r.0) (Sign (codes ":") then MaybeListed (AttrOf IsExpr) s.0) us (expr_words b.title) (sign (codes ":") ++ listed attr_words b.attrs) p r.1
          (together (Sign (codes ":")) (MaybeListed (AttrOf IsExpr) s.0) p.back (sign (codes ":")) (listed attr_words b.attrs) q (one_word kind.Sign (codes ":") q.front q.first) s.1),
      ap (λ (v : Expr). record { title = v; attrs = map unplaced_attr b.attrs }) r.2 ∙ ap (λ (v : List Attr). record { title = unplaced r.0; attrs = v }) s.2,
    )

-- The `;` at the end is left out.
pub bodies_read : (n : ℕ) (bs : List Body) (ts : List Lexeme) → BodiesOf IsExpr bs ts → Small n ts → (us : List Lexeme) → words_in us ≡ bodies_words bs → (cs : List Body) × BodiesOf IsExpr cs us × (map unplaced_body bs ≡ map unplaced_body cs)
bodies_read n bs ts d good us w =
    let g = parts_stand n (Separated (Sign (codes ";")) (BodyOf IsExpr) bs) (Maybe (Sign (codes ";"))) ts d good in
    let r = separated_again n (BodyOf IsExpr) (BodyOf IsExpr) body_words unplaced_body (body_reads n) (Sign (codes ";")) (Sign (codes ";")) (sign (codes ";")) (λ vs k. one_word kind.Sign (codes ";") vs k) bs d.front d.first g.0 us w in
    (r.0, record { front = us; back = []; first = r.1; second = inl refl; whole = sym (append-nil us) }, r.2)
