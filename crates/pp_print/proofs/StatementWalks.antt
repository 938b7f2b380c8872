-- The words of statements and of manifests may stand one behind the other.
use Rattle.std.proofs.Common.{◌≡◌, ℕ, zero, suc, Bool, true, List, [], ◌∷◌, ◌++◌, refl, ap, ◌∙◌, sym, subst}
use Rattle.std.specs.Prelude.{Option, codes}
use Rattle.std.specs.Prelude as prelude
use Rattle.std.specs.List.{AllByRecursion, flat_map}
use Rattle.pp_syntax.specs.declared.token.Kind.TheVariants as kind
use Rattle.pp_syntax.specs.declared.token.Kind.{Kind}
use Rattle.pp_syntax.specs.declared.tree.Expr.{Expr}
use Rattle.pp_syntax.specs.declared.tree.Form.{Form, Form-F}
use Rattle.pp_syntax.specs.declared.tree.Form.TheVariants as form
use Rattle.pp_syntax.specs.declared.tree.Form.TheVariants.{outs-Str, outs-Join}
use Rattle.pp_syntax.specs.declared.tree.Form.TheOpen as plain
use Rattle.pp_syntax.specs.declared.tree.Func.{Func}
use Rattle.pp_syntax.specs.declared.tree.Func.TheVariants as func
use Rattle.pp_syntax.specs.declared.tree.Stmt.{Stmt}
use Rattle.pp_syntax.specs.declared.tree.Stmt.TheVariants as stmt
use Rattle.pp_syntax.specs.declared.tree.Arm.{Arm, out-Arm}
use Rattle.pp_syntax.specs.declared.tree.CaseArm.{CaseArm, out-CaseArm}
use Rattle.pp_syntax.specs.declared.tree.TypeName.{TypeName}
use Rattle.pp_syntax.specs.declared.tree.Param.{Param}
use Rattle.pp_syntax.specs.declared.tree.Item.{Item}
use Rattle.pp_syntax.specs.declared.tree.Item.TheVariants as item
use Rattle.pp_syntax.specs.declared.tree.Manifest.{Manifest}
use Rattle.pp_syntax.specs.Tokens.{Lexeme, is_among}
use Rattle.pp_syntax.specs.Phrases.{◌then◌, Token, Some, Keyword, Comma, Each}
use Rattle.pp_syntax.specs.Derivation.{OptionOf, StringOf, IsExpr}
use Rattle.pp_syntax.specs.Derivation as derivation
use Rattle.pp_syntax.specs.Statements.{word_of, functions, InBraces, ArgsOf, Statements, BlockOf, ElseOf, ArmOf, CaseArmOf, CaseArms, StmtOf, IsStmtAt, MaybeType, DefaultOf, ParamOf, ParamsOf, ParentOf, NodeNameOf, ItemOf, Items, IsManifest}
use Rattle.pp_syntax.specs.Statements as rule
use Rattle.pp_print.specs.Words.{keyword, comma, quoted, in_parens, listed}
use Rattle.pp_print.specs.Expressions.{expr_words, option_by}
use Rattle.pp_print.specs.Statements.{stmt_words, arm_words, case_arm_words, block_by, block_words, else_by, maybe_type, default_words, param_words, params_words, parent_words, item_words, manifest_words}
use Rattle.pp_print.proofs.Blocks.{words_chain, words_assign, words_call, words_if, words_unless, words_case}
use Rattle.pp_print.proofs.Inners.{str_no}
use Rattle.pp_print.proofs.Standing.{AllSound}
use Rattle.pp_print.proofs.Walks.{Last, Held, Other, any, is_free, is_closed, is_done, is_heading, Walks, AllGood, Takes, seq, nothing, narrow, loosen, by_words, closed_done, sign_takes, keyword_takes, comma_takes, quoted_takes, reference_takes, variable_takes, word_takes, function_takes, heading_takes, in_parens_takes, in_braces_takes}
use Rattle.pp_print.proofs.WordLists.{Fine, GoodToken, token_good, parts_sound, token_sound, some_sound, each_takes, separated_takes, listed_takes}
use Rattle.pp_print.proofs.ExpressionWalks.{option_takes, plain_good}
use Rattle.pp_print.proofs.ReadAsWords.{expression_goes, expression_takes}
use Rattle.pp_print.proofs.ResourceWalks.{type_goes, attrs_take, chain_takes}

-- the word of a function is among the functions
is_function : (f : Func) → is_among functions (word_of f) ≡ true
is_function func.Include = refl
is_function func.Require = refl
is_function func.Contain = refl
is_function func.Realize = refl
is_function func.Fail = refl
is_function func.Notice = refl
is_function func.Warning = refl

-- a form is one text
same_text : (x : Expr) (value name : List ℕ) → x.form ≡ form.Str value → x.form ≡ form.Str name → value ≡ name
same_text x value name f g =
    let same : ◌≡◌ {A = Form-F Form Expr} (plain.Str value) (plain.Str name) = str_no value (form.Str name) (plain.Str name) (sym f ∙ g) (outs-Str name) in cc

module _ {U : List ℕ → Type 0} where
  -- ---- calls

  -- the arguments of a call may stand in parentheses
  args_take : (args : List Expr) (ts : List Lexeme) → ArgsOf IsExpr args ts → Fine U ts → Takes U is_free is_done (in_parens (listed expr_words args))
  args_take args ts (rule.bracketed d) h =
      let g = parts_sound d h in
      let k = parts_sound d.second g.1 in
      in_parens_takes is_done (listed_takes IsExpr expr_words is_free is_done expression_takes refl args d.second.front d.second.first k.0) refl refl
  args_take args ts (rule.bare d free) h = in_parens_takes is_done (separated_takes IsExpr expr_words is_free is_done expression_takes Comma comma (comma_takes is_done is_free refl) args ts d h) refl refl

  -- ---- statements, where those in blocks may stand

  module _ (S : Stmt → List Lexeme → Type 0) (goes : (s : Stmt) (ts : List Lexeme) → S s ts → Fine U ts → Takes U any is_done (stmt_words s)) where
    -- statements one behind the other may stand
    body_takes : (body : List Stmt) (ts : List Lexeme) → Statements S body ts → Fine U ts → Takes U is_done is_done (flat_map stmt_words body)
    body_takes [] ts d h = nothing is_done is_done (λ l p. p)
    body_takes (s ∷ body) ts d h =
        let g = parts_sound d h in
        seq (narrow is_done (λ l p. refl) (goes s d.front d.first g.0)) (body_takes body d.back d.second g.1)

    -- a block may stand behind any word
    pub block_takes : (P Q : Last → Bool) → Q Other ≡ true → (body : List Stmt) (ts : List Lexeme) → BlockOf S body ts → Fine U ts → Takes U P Q (block_by stmt_words body)
    block_takes P Q next body ts d h =
        let g = parts_sound d h in
        let k = parts_sound d.second g.1 in
        in_braces_takes P Q (body_takes body d.second.front d.second.first k.0) refl next

    -- an `else`, or none, may stand
    else_takes : (other : List Stmt) (ts : List Lexeme) → ElseOf S other ts → Fine U ts → Takes U is_done is_done (else_by stmt_words other)
    else_takes [] ts d h = nothing is_done is_done (λ l p. p)
    else_takes (s ∷ more) ts d h = seq (keyword_takes is_done any (codes "else") refl refl) (block_takes any is_done refl (s ∷ more) d.back d.second (parts_sound d h).1)

    -- an expression and the block behind it
    tested : (x : Expr) (body : List Stmt) (ts : List Lexeme) → (IsExpr x then BlockOf S body) ts → Fine U ts → Takes U is_free is_done (expr_words x ++ block_by stmt_words body)
    tested x body ts d h =
        let g = parts_sound d h in
        seq (expression_takes x d.front d.first g.0) (block_takes is_done is_done refl body d.back d.second g.1)

    -- a test and its block may stand
    arm_takes : (a : Arm) (ts : List Lexeme) → ArmOf IsExpr S a ts → Fine U ts → Takes U is_free is_done (arm_words a)
    arm_takes a ts d h = tested (out-Arm a).test (out-Arm a).body ts d h

    -- an arm of a `case` may stand
    case_arm_takes : (a : CaseArm) (ts : List Lexeme) → CaseArmOf IsExpr S a ts → Fine U ts → Takes U is_free is_free (case_arm_words a)
    case_arm_takes a ts d h =
        let g = parts_sound d h in
        let k = parts_sound d.second g.1 in
        seq (listed_takes (OptionOf IsExpr) (option_by expr_words) is_free is_done (option_takes IsExpr expression_goes) refl (out-CaseArm a).options d.front d.first g.0)
        (seq (sign_takes is_done any (codes ":") (refl, refl, refl, refl, refl, refl) refl) (block_takes any is_free refl (out-CaseArm a).body d.second.back d.second.second k.1))

    -- so may its arms
    case_arms_take : (arms : List CaseArm) (ts : List Lexeme) → CaseArms IsExpr S arms ts → Fine U ts → Takes U is_free is_free (flat_map case_arm_words arms)
    case_arms_take [] ts d h = nothing is_free is_free (λ l p. p)
    case_arms_take (a ∷ arms) ts d h =
        let g = parts_sound d h in
        seq (case_arm_takes a d.front d.first g.0) (case_arms_take arms d.back d.second g.1)

    -- ---- each statement

    -- an `if` may stand behind any word
    if_takes : (at : ℕ) (first : Arm) (others : List Arm) (other : List Stmt) (ts : List Lexeme) → (Token kind.Keyword (codes "if") at then ArmOf IsExpr S first then Each (Keyword (codes "elsif")) (ArmOf IsExpr S) others then ElseOf S other) ts → Fine U ts
        → Takes U any is_done (stmt_words (stmt.If at (first ∷ others) other))
    if_takes at first others other ts d h =
        let g = parts_sound d h in
        let k = parts_sound d.second g.1 in
        let m = parts_sound d.second.second k.1 in
        by_words (words_if at (first ∷ others) other)
        (seq (keyword_takes any is_free (codes "if") refl refl)
        (seq (seq (arm_takes first d.second.front d.second.first k.0)
        (each_takes (ArmOf IsExpr S) arm_words is_free is_done arm_takes (Keyword (codes "elsif")) (keyword (codes "elsif")) (keyword_takes is_done is_free (codes "elsif") refl refl) others d.second.second.front d.second.second.first m.0))
        (else_takes other d.second.second.back d.second.second.second m.1)))

    -- so may an `unless`
    unless_takes : (at : ℕ) (test : Expr) (body other : List Stmt) (ts : List Lexeme) → (Token kind.Keyword (codes "unless") at then IsExpr test then BlockOf S body then ElseOf S other) ts → Fine U ts → Takes U any is_done (stmt_words (stmt.Unless at test body other))
    unless_takes at test body other ts d h =
        let g = parts_sound d h in
        let k = parts_sound d.second g.1 in
        let m = parts_sound d.second.second k.1 in
        by_words (words_unless at test body other)
        (seq (keyword_takes any is_free (codes "unless") refl refl)
        (seq (expression_takes test d.second.front d.second.first k.0)
        (seq (block_takes is_done is_done refl body d.second.second.front d.second.second.first m.0) (else_takes other d.second.second.back d.second.second.second m.1))))

    -- so may a `case`
    case_takes : (at : ℕ) (value : Expr) (arms : List CaseArm) (ts : List Lexeme) → (Token kind.Keyword (codes "case") at then IsExpr value then InBraces (CaseArms IsExpr S arms)) ts → Fine U ts → Takes U any is_done (stmt_words (stmt.Case at value arms))
    case_takes at value arms ts d h =
        let g = parts_sound d h in
        let k = parts_sound d.second g.1 in
        let m = parts_sound d.second.second k.1 in
        let n = parts_sound d.second.second.second m.1 in
        by_words (words_case at value arms)
        (seq (keyword_takes any is_free (codes "case") refl refl)
        (seq (expression_takes value d.second.front d.second.first k.0) (in_braces_takes is_done is_done (case_arms_take arms d.second.second.second.front d.second.second.second.first n.0) refl refl)))

    -- a statement may stand, where those in its blocks may
    stmt_takes : (s : Stmt) (ts : List Lexeme) → StmtOf IsExpr S s ts → Fine U ts → Takes U any is_done (stmt_words s)
    stmt_takes s ts (rule.chain at first others arrows is at_is d alone) h = by_words (ap stmt_words is ∙ words_chain at (first ∷ others) arrows) (chain_takes first others arrows ts d h)
    stmt_takes s ts (rule.assign at name value is at_is d) h =
        let g = parts_sound d h in
        let k = parts_sound d.second g.1 in
        by_words (ap stmt_words is ∙ words_assign at name value)
        (seq (variable_takes any (36 ∷ name) (some_sound kind.Var (36 ∷ name) d.front d.first.0 g.0))
        (seq (sign_takes is_closed is_free (codes "=") (refl, refl, refl, refl, refl, refl) refl) (expression_takes value d.second.back d.second.second k.1)))
    stmt_takes s ts (rule.call at f args is d) h =
        let g = parts_sound d h in
        by_words (ap stmt_words is ∙ words_call at f args) (seq (function_takes any (word_of f) (token_sound kind.Word (word_of f) at d.front d.first g.0) (is_function f)) (args_take args d.back d.second g.1))
    stmt_takes s ts (rule.if at first others other is d) h = by_words (ap stmt_words is) (if_takes at first others other ts d h)
    stmt_takes s ts (rule.unless at test body other is d) h = by_words (ap stmt_words is) (unless_takes at test body other ts d h)
    stmt_takes s ts (rule.case at value arms is d) h = by_words (ap stmt_words is) (case_takes at value arms ts d h)

  -- so may one with blocks nested less deep than this
  statement_takes : (m : ℕ) (s : Stmt) (ts : List Lexeme) → IsStmtAt IsExpr m s ts → Fine U ts → Takes U any is_done (stmt_words s)
  statement_takes zero s ts d h = absurd d
  statement_takes (suc m) s ts d h = stmt_takes (IsStmtAt IsExpr m) (statement_takes m) s ts d h

  -- ---- parameters

  -- a type, or none, may stand before a parameter
  maybe_type_takes : (o : Option TypeName) (ts : List Lexeme) → MaybeType o ts → Fine U ts → Takes U any any (maybe_type o)
  maybe_type_takes prelude.None ts d h = nothing any any (λ l p. p)
  maybe_type_takes (prelude.Some t) ts d h = loosen any (λ l p. refl) (type_goes t ts d h)

  -- a default, or none, may stand behind it
  default_takes : (o : Option Expr) (ts : List Lexeme) → DefaultOf IsExpr o ts → Fine U ts → Takes U is_closed is_done (default_words o)
  default_takes prelude.None ts d h = nothing is_closed is_done closed_done
  default_takes (prelude.Some x) ts d h = seq (sign_takes is_closed is_free (codes "=") (refl, refl, refl, refl, refl, refl) refl) (expression_takes x d.back d.second (parts_sound d h).1)

  -- a parameter may stand
  param_takes : (x : Param) (ts : List Lexeme) → ParamOf IsExpr x ts → Fine U ts → Takes U any is_done (param_words x)
  param_takes x ts d h =
      let g = parts_sound d h in
      let k = parts_sound d.second g.1 in
      seq (maybe_type_takes x.kind d.front d.first g.0)
      (seq (variable_takes any (36 ∷ x.name) (some_sound kind.Var (36 ∷ x.name) d.second.front d.second.first.0 k.0)) (default_takes x.default d.second.back d.second.second k.1))

  -- parameters in brackets, or none, may stand
  params_take : (xs : List Param) (ts : List Lexeme) → ParamsOf IsExpr xs ts → Fine U ts → Takes U is_free is_free (params_words xs)
  params_take [] ts d h = nothing is_free is_free (λ l p. p)
  params_take (x ∷ more) ts d h =
      let g = parts_sound d h in
      let k = parts_sound d.second g.1 in
      in_parens_takes is_free (listed_takes (ParamOf IsExpr) param_words any is_done param_takes refl (x ∷ more) d.second.front d.second.first k.0) refl refl

  -- a parent, or none, may stand
  parent_takes : (o : Option (List ℕ)) (ts : List Lexeme) → ParentOf o ts → Fine U ts → Takes U is_free any (parent_words o)
  parent_takes prelude.None ts d h = nothing is_free any (λ l p. refl)
  parent_takes (prelude.Some name) ts d h =
      seq (keyword_takes is_free any (codes "inherits") refl refl) (loosen any (λ l p. refl) (word_takes any name (some_sound kind.Word name d.back d.second (parts_sound d h).1)))

  -- the text that a string is is good, where the tokens stand for good ones
  text_good : (x : Expr) (name : List ℕ) (ts : List Lexeme) → StringOf IsExpr x ts → x.form ≡ form.Str name → Fine U ts → U name
  text_good x name ts (derivation.single value raw t v f) g h = subst U (same_text x value name f g) (token_good kind.Sq raw x.at ts t h value v)
  text_good x name ts (derivation.plain value d f) g h =
      let k = parts_sound d h in
      let m = parts_sound d.second k.1 in
      subst U (same_text x value name f g) (plain_good value d.second.front d.second.first m.0)
  text_good x name ts (derivation.joined ms d f) g h =
      let bad : ◌≡◌ {A = Form-F Form Expr} (plain.Str name) (plain.Join ms) = str_no name (form.Join ms) (plain.Join ms) (sym g ∙ f) (outs-Join ms) in cc

  -- so is the name of a node
  node_name_good : (name : List ℕ) (ts : List Lexeme) → NodeNameOf IsExpr (prelude.Some name) ts → Fine U ts → U name
  node_name_good name ts (rule.default e d) h = cc
  node_name_good name ts (rule.word n e d) h = let same : n ≡ name = cc in subst U same (token_good kind.Word n d.0 ts d.1 h)
  node_name_good name ts (rule.text n x e d f) h = let same : n ≡ name = cc in subst U same (text_good x n ts d f h)

  -- the name of a node may stand
  node_name_takes : (o : Option (List ℕ)) (ts : List Lexeme) → NodeNameOf IsExpr o ts → Fine U ts → Takes U any is_done (option_by quoted o)
  node_name_takes prelude.None ts d h = keyword_takes any is_done (codes "default") refl refl
  node_name_takes (prelude.Some name) ts d h = loosen is_done closed_done (quoted_takes any name (node_name_good name ts d h))

  -- ---- items

  module _ (m : ℕ) where
    -- a block may stand
    block : (P : Last → Bool) (body : List Stmt) (ts : List Lexeme) → BlockOf (IsStmtAt IsExpr m) body ts → Fine U ts → Takes U P is_done (block_words body)
    block P = block_takes (IsStmtAt IsExpr m) (statement_takes m) P is_done refl

    -- a class may stand
    class_takes : (at : ℕ) (name : List ℕ) (params : List Param) (parent : Option (List ℕ)) (body : List Stmt) (ts : List Lexeme) → (Token kind.Keyword (codes "class") at then Some kind.Word name then ParamsOf IsExpr params then ParentOf parent then BlockOf (IsStmtAt IsExpr m) body) ts → Fine U ts
        → Takes U any is_done (item_words (item.Class at name params parent body))
    class_takes at name params parent body ts d h =
        let g = parts_sound d h in
        let k = parts_sound d.second g.1 in
        let l = parts_sound d.second.second k.1 in
        let o = parts_sound d.second.second.second l.1 in
        seq (keyword_takes any is_heading (codes "class") refl refl)
        (seq (heading_takes name (some_sound kind.Word name d.second.front d.second.first k.0))
        (seq (params_take params d.second.second.front d.second.second.first l.0)
        (seq (parent_takes parent d.second.second.second.front d.second.second.second.first o.0) (block any body d.second.second.second.back d.second.second.second.second o.1))))

    -- a defined type may stand
    define_takes : (at : ℕ) (name : List ℕ) (params : List Param) (body : List Stmt) (ts : List Lexeme) → (Token kind.Keyword (codes "define") at then Some kind.Word name then ParamsOf IsExpr params then BlockOf (IsStmtAt IsExpr m) body) ts → Fine U ts → Takes U any is_done (item_words (item.Define at name params body))
    define_takes at name params body ts d h =
        let g = parts_sound d h in
        let k = parts_sound d.second g.1 in
        let l = parts_sound d.second.second k.1 in
        seq (keyword_takes any is_heading (codes "define") refl refl)
        (seq (heading_takes name (some_sound kind.Word name d.second.front d.second.first k.0))
        (seq (params_take params d.second.second.front d.second.second.first l.0) (block is_free body d.second.second.back d.second.second.second l.1)))

    -- an item may stand behind any word
    item_takes : (x : Item) (ts : List Lexeme) → ItemOf IsExpr (IsStmtAt IsExpr m) x ts → Fine U ts → Takes U any is_done (item_words x)
    item_takes x ts (rule.class at name params parent body is d) h = by_words (ap item_words is) (class_takes at name params parent body ts d h)
    item_takes x ts (rule.define at name params body is d) h = by_words (ap item_words is) (define_takes at name params body ts d h)
    item_takes x ts (rule.node at names body is d) h =
        let g = parts_sound d h in
        let k = parts_sound d.second g.1 in
        by_words (ap item_words is)
        (seq (keyword_takes any any (codes "node") refl refl)
        (seq (listed_takes (NodeNameOf IsExpr) (option_by quoted) any is_done node_name_takes refl names d.second.front d.second.first k.0) (block is_done body d.second.back d.second.second k.1)))
    item_takes x ts (rule.defaults at name attrs is d) h =
        let g = parts_sound d h in
        let k = parts_sound d.second g.1 in
        let l = parts_sound d.second.second k.1 in
        by_words (ap item_words is) (seq (reference_takes any name (token_sound kind.Ref name at d.front d.first g.0)) (in_braces_takes is_closed is_done (attrs_take attrs d.second.second.front d.second.second.first l.0) refl refl))
    item_takes x ts (rule.plain s is d) h = by_words (ap item_words is) (statement_takes m s ts d h)

    -- items may stand one behind the other
    items_take : (xs : List Item) (ts : List Lexeme) → Items IsExpr (IsStmtAt IsExpr m) xs ts → Fine U ts → Takes U is_done is_done (flat_map item_words xs)
    items_take [] ts d h = nothing is_done is_done (λ l p. p)
    items_take (x ∷ xs) ts d h =
        let g = parts_sound d h in
        seq (narrow is_done (λ l p. refl) (item_takes x d.front d.first g.0)) (items_take xs d.back d.second g.1)

  -- the words of a manifest may stand
  manifest_takes : (m : Manifest) (ts : List Lexeme) → IsManifest m ts → Fine U ts → Takes U is_done is_done (manifest_words m)
  manifest_takes m ts d h = items_take d.0 m.items ts d.1 h

-- all that tokens stand for is good, where everything is
all_units : (ts : List Lexeme) → AllByRecursion (λ t. GoodToken (λ s. Unit {0}) t.kind t.text) ts
all_units [] = tt
all_units (t ∷ ts) = (unit t.kind t.text, all_units ts)
  where
    unit : (k : Kind) (s : List ℕ) → GoodToken (λ s. Unit {0}) k s
    unit kind.Word s = tt
    unit kind.Ref s = tt
    unit kind.Var s = tt
    unit kind.Int s = tt
    unit kind.Float s = tt
    unit kind.Sq s = λ value v. tt
    unit kind.DqOpen s = tt
    unit kind.DqText s = λ value v. tt
    unit kind.DqVar s = tt
    unit kind.Hole s = tt
    unit kind.HoleEnd s = tt
    unit kind.DqClose s = tt
    unit kind.Tight s = tt
    unit kind.Loose s = tt
    unit kind.Keyword s = tt
    unit kind.Sign s = tt
    unit kind.LeftOut s = tt

-- The words of a manifest that sound tokens spell may stand one behind the other, from the beginning on, and leave nothing open.
pub manifest_walks : (m : Manifest) (ts : List Lexeme) → IsManifest m ts → AllSound ts → (l2 : Last) × Walks [] Held (manifest_words m) [] l2
manifest_walks m ts d h =
    let w = (manifest_takes {U = λ s. Unit {0}} m ts d (record { sound = h; good = all_units ts; empty = tt })).walk [] refl Held refl in
    (w.0, w.2)

-- What is quoted in them is good, where all is that the tokens stand for.
pub manifest_good : (U : List ℕ → Type 0) (m : Manifest) (ts : List Lexeme) → IsManifest m ts → Fine U ts → ((l2 : Last) × Walks [] Held (manifest_words m) [] l2) × AllGood U (manifest_words m)
manifest_good U m ts d h =
    let takes = manifest_takes m ts d h in
    let w = takes.walk [] refl Held refl in
    ((w.0, w.2), takes.good)
