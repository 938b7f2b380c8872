-- The words of a manifest spell it again, places aside.
use Rattle.std.proofs.Common.{◌≡◌, inl, ℕ, ◌+◌, List, [], ◌∷◌, ◌++◌, length, map, refl, sym, ap, subst, ◌∙◌, arith}
use Rattle.std.specs.Prelude.{Option, codes}
use Rattle.std.specs.Prelude as prelude
use Rattle.std.specs.Option.{option_map}
use Rattle.std.specs.List.{flat_map}
use Rattle.pp_syntax.specs.declared.token.Kind.TheVariants as kind
use Rattle.pp_syntax.specs.declared.tree.Expr.{Expr}
use Rattle.pp_syntax.specs.declared.tree.Form.TheVariants as form
use Rattle.pp_syntax.specs.declared.tree.Attr.{Attr}
use Rattle.pp_syntax.specs.declared.tree.Stmt.{Stmt}
use Rattle.pp_syntax.specs.declared.tree.TypeName.{TypeName}
use Rattle.pp_syntax.specs.declared.tree.Param.{Param}
use Rattle.pp_syntax.specs.declared.tree.Item.{Item}
use Rattle.pp_syntax.specs.declared.tree.Item.TheVariants as item
use Rattle.pp_syntax.specs.declared.tree.Manifest.{Manifest}
use Rattle.pp_syntax.specs.Tokens.{Lexeme}
use Rattle.pp_syntax.specs.Phrases.{◌then◌, Some, Token, Sign, Keyword, Listed, MaybeListed}
use Rattle.pp_syntax.specs.Derivation.{IsExpr}
use Rattle.pp_syntax.specs.Derivation as derivation
use Rattle.pp_syntax.specs.Statements.{VariableOf, AttrOf, InBraces, BlockOf, IsStmtAt, MaybeType, DefaultOf, ParamOf, ParamsOf, ParentOf, NodeNameOf, ItemOf, Items, IsManifest}
use Rattle.pp_syntax.specs.Statements as rule
use Rattle.pp_print.specs.Words.{word, sign, keyword, quoted, escaped, in_braces, listed}
use Rattle.pp_print.specs.Expressions.{expr_words, option_by}
use Rattle.pp_print.specs.Statements.{attr_words, block_words, maybe_type, default_words, param_words, params_words, parent_words, item_words, manifest_words}
use Rattle.pp_print.specs.Places.{unplaced, unplaced_stmt, unplaced_param, unplaced_item, SameButPlaces}
use Rattle.pp_print.proofs.Escapes.{quoted_is}
use Rattle.pp_print.proofs.TypeLaws.{type_reads}
use Rattle.pp_print.proofs.Phrases.{words_in, Parts, parts, no_word, one_word, together, AllStand, Small, parts_stand, listed_again}
use Rattle.pp_print.proofs.Bodies.{expr_reads, attrs_read}
use Rattle.pp_print.proofs.Chains.{braced, braces_small}
use Rattle.pp_print.proofs.StatementLaws.{stmt_reads, block_reads}

-- ---- parameters

-- the words of a type, or none, spell it again
type_again : (n : ℕ) (o : Option TypeName) (ts : List Lexeme) → MaybeType o ts → Small n ts → (us : List Lexeme) → words_in us ≡ maybe_type o → MaybeType o us
type_again n prelude.None ts d good us w = no_word us w
type_again n (prelude.Some t) ts d good us w = type_reads t ts d good.0 us w

-- the words of a default, or none, spell it again
default_reads : (n : ℕ) (o : Option Expr) (ts : List Lexeme) → DefaultOf IsExpr o ts → Small n ts → (us : List Lexeme) → words_in us ≡ default_words o → (p : Option Expr) × DefaultOf IsExpr p us × (option_map unplaced o ≡ option_map unplaced p)
default_reads n prelude.None ts d good us w = (prelude.None, no_word us w, refl)
default_reads n (prelude.Some x) ts d good us w =
    let p = parts us (sign (codes "=")) (expr_words x) w in
    let g = parts_stand n (Sign (codes "=")) (IsExpr x) ts d good in
    let r = expr_reads n x d.back d.second g.1 p.back p.second in
    (prelude.Some r.0, together (Sign (codes "=")) (IsExpr r.0) us (sign (codes "=")) (expr_words x) p (one_word kind.Sign (codes "=") p.front p.first) r.1, ap (λ (y : Expr). prelude.Some y) r.2)

-- the words of a parameter spell it again
param_reads : (n : ℕ) (x : Param) (ts : List Lexeme) → ParamOf IsExpr x ts → Small n ts → (us : List Lexeme) → words_in us ≡ param_words x → (y : Param) × ParamOf IsExpr y us × (unplaced_param x ≡ unplaced_param y)
param_reads n x ts d good us w =
    let p = parts us (maybe_type x.kind) (word kind.Var (36 ∷ x.name) ++ default_words x.default) w in
    let q = parts p.back (word kind.Var (36 ∷ x.name)) (default_words x.default) p.second in
    let g = parts_stand n (MaybeType x.kind) (VariableOf x.name then DefaultOf IsExpr x.default) ts d good in
    let k = parts_stand n (VariableOf x.name) (DefaultOf IsExpr x.default) d.back d.second g.1 in
    let r = default_reads n x.default d.second.back d.second.second k.1 q.back q.second in (
      record { kind = x.kind; name = x.name; default = r.0 },
      together (MaybeType x.kind) (VariableOf x.name then DefaultOf IsExpr r.0) us (maybe_type x.kind) (word kind.Var (36 ∷ x.name) ++ default_words x.default) p (type_again n x.kind d.front d.first g.0 p.front p.first)
          (together (VariableOf x.name) (DefaultOf IsExpr r.0) p.back (word kind.Var (36 ∷ x.name)) (default_words x.default) q (one_word kind.Var (36 ∷ x.name) q.front q.first, d.second.first.1) r.1),
      ap (λ (o : Option Expr). record { kind = x.kind; name = x.name; default = o }) r.2,
    )

-- brackets round parameters make parameters in brackets
some_params : (x : Param) (more : List Param) (us : List Lexeme) (p : Parts us (sign (codes "(")) (listed param_words (x ∷ more) ++ sign (codes ")"))) (q : Parts p.back (listed param_words (x ∷ more)) (sign (codes ")")))
    → (ys : List Param) × Listed (ParamOf IsExpr) ys q.front × (map unplaced_param (x ∷ more) ≡ map unplaced_param ys) → (ys : List Param) × ParamsOf IsExpr ys us × (map unplaced_param (x ∷ more) ≡ map unplaced_param ys)
some_params x more us p q ([], d, same) = cc
some_params x more us p q (y ∷ ys, d, same) = (
  y ∷ ys,
  together (Sign (codes "(")) (Listed (ParamOf IsExpr) (y ∷ ys) then Sign (codes ")")) us (sign (codes "(")) (listed param_words (x ∷ more) ++ sign (codes ")")) p (one_word kind.Sign (codes "(") p.front p.first)
      (together (Listed (ParamOf IsExpr) (y ∷ ys)) (Sign (codes ")")) p.back (listed param_words (x ∷ more)) (sign (codes ")")) q d (one_word kind.Sign (codes ")") q.back q.second)),
  same,
)

-- the words of parameters spell them again
params_read : (n : ℕ) (xs : List Param) (ts : List Lexeme) → ParamsOf IsExpr xs ts → Small n ts → (us : List Lexeme) → words_in us ≡ params_words xs → (ys : List Param) × ParamsOf IsExpr ys us × (map unplaced_param xs ≡ map unplaced_param ys)
params_read n [] ts d good us w = ([], inl (no_word us w), refl)
params_read n (x ∷ more) ts d good us w =
    let p = parts us (sign (codes "(")) (listed param_words (x ∷ more) ++ sign (codes ")")) w in
    let q = parts p.back (listed param_words (x ∷ more)) (sign (codes ")")) p.second in
    let g = parts_stand n (Sign (codes "(")) (Listed (ParamOf IsExpr) (x ∷ more) then Sign (codes ")")) ts d good in
    let k = parts_stand n (Listed (ParamOf IsExpr) (x ∷ more)) (Sign (codes ")")) d.back d.second g.1 in
    some_params x more us p q (listed_again n (ParamOf IsExpr) (ParamOf IsExpr) param_words unplaced_param (param_reads n) (x ∷ more) d.second.front d.second.first k.0 q.front q.first)

-- the words of a parent, or none, spell it again
parent_again : (o : Option (List ℕ)) (us : List Lexeme) → words_in us ≡ parent_words o → ParentOf o us
parent_again prelude.None us w = no_word us w
parent_again (prelude.Some name) us w =
    let p = parts us (keyword (codes "inherits")) (word kind.Word name) w in
    together (Keyword (codes "inherits")) (Some kind.Word name) us (keyword (codes "inherits")) (word kind.Word name) p (one_word kind.Keyword (codes "inherits") p.front p.first) (one_word kind.Word name p.back p.second)

-- ---- node names

-- the words of a node's name spell it again
name_by : (o : Option (List ℕ)) (us : List Lexeme) → words_in us ≡ option_by quoted o → NodeNameOf IsExpr o us
name_by prelude.None us w = rule.default refl (one_word kind.Keyword (codes "default") us w)
name_by (prelude.Some name) us w =
    let t = one_word kind.Sq (39 ∷ (escaped name ++ 39 ∷ [])) us w in
    rule.text name (record { at = t.0; form = form.Str name }) refl (derivation.single name (39 ∷ (escaped name ++ 39 ∷ [])) t.1 (quoted_is name) refl) refl

-- and no other name
node_name_reads : (n : ℕ) (o : Option (List ℕ)) (ts : List Lexeme) → NodeNameOf IsExpr o ts → Small n ts → (us : List Lexeme) → words_in us ≡ option_by quoted o → (p : Option (List ℕ)) × NodeNameOf IsExpr p us × (o ≡ p)
node_name_reads n o ts d good us w = (o, name_by o us w, refl)

-- a list in which nothing is changed is the same
map_same : (xs : List (Option (List ℕ))) → map (λ (x : Option (List ℕ)). x) xs ≡ xs
map_same [] = refl
map_same (x ∷ xs) = ap (λ (r : List (Option (List ℕ))). x ∷ r) (map_same xs)

-- the words of the names of a node spell them again
names_read : (n : ℕ) (xs : List (Option (List ℕ))) (ts : List Lexeme) → Listed (NodeNameOf IsExpr) xs ts → Small n ts → (us : List Lexeme) → words_in us ≡ listed (option_by quoted) xs → Listed (NodeNameOf IsExpr) xs us
names_read n xs ts d good us w =
    let r = listed_again n (NodeNameOf IsExpr) (NodeNameOf IsExpr) (option_by quoted) (λ (x : Option (List ℕ)). x) (node_name_reads n) xs ts d good us w in
    subst (λ (l : List (Option (List ℕ))). Listed (NodeNameOf IsExpr) l us) (sym (sym (map_same xs) ∙ r.2 ∙ map_same r.0)) r.1

-- ---- items

module _ (n m : ℕ) where
  -- a statement with blocks nested less deep than this
  abbrev S : Stmt → List Lexeme → Type 0
  S = IsStmtAt IsExpr m

  -- tokens with the words of this item spell it again
  abbrev Reads : Item → List Lexeme → Type 0
  Reads x us = words_in us ≡ item_words x → (y : Item) × ItemOf IsExpr S y us × (unplaced_item x ≡ unplaced_item y)

  -- the words of a block spell it again
  body_again : (body : List Stmt) (ts : List Lexeme) → BlockOf S body ts → Small n ts → (us : List Lexeme) → words_in us ≡ block_words body → (b : List Stmt) × BlockOf S b us × (map unplaced_stmt body ≡ map unplaced_stmt b)
  body_again = block_reads n S (stmt_reads n m)

  -- the words of a class spell it again
  class_reads : (at : ℕ) (name : List ℕ) (params : List Param) (parent : Option (List ℕ)) (body : List Stmt) (ts : List Lexeme) → (Token kind.Keyword (codes "class") at then Some kind.Word name then ParamsOf IsExpr params then ParentOf parent then BlockOf S body) ts → Small n ts
      → (us : List Lexeme) → Reads (item.Class at name params parent body) us
  class_reads at name params parent body ts d good us w =
      let p = parts us (keyword (codes "class")) (word kind.Word name ++ (params_words params ++ (parent_words parent ++ block_words body))) w in
      let q = parts p.back (word kind.Word name) (params_words params ++ (parent_words parent ++ block_words body)) p.second in
      let v = parts q.back (params_words params) (parent_words parent ++ block_words body) q.second in
      let z = parts v.back (parent_words parent) (block_words body) v.second in
      let t = one_word kind.Keyword (codes "class") p.front p.first in
      let g = parts_stand n (Token kind.Keyword (codes "class") at) (Some kind.Word name then ParamsOf IsExpr params then ParentOf parent then BlockOf S body) ts d good in
      let k = parts_stand n (Some kind.Word name) (ParamsOf IsExpr params then ParentOf parent then BlockOf S body) d.back d.second g.1 in
      let l = parts_stand n (ParamsOf IsExpr params) (ParentOf parent then BlockOf S body) d.second.back d.second.second k.1 in
      let o = parts_stand n (ParentOf parent) (BlockOf S body) d.second.second.back d.second.second.second l.1 in
      let x = params_read n params d.second.second.front d.second.second.first l.0 v.front v.first in
      let b = body_again body d.second.second.second.back d.second.second.second.second o.1 z.back z.second in (
        item.Class t.0 name x.0 parent b.0,
        rule.class t.0 name x.0 parent b.0 refl
            (together (Token kind.Keyword (codes "class") t.0) (Some kind.Word name then ParamsOf IsExpr x.0 then ParentOf parent then BlockOf S b.0) us (keyword (codes "class")) (word kind.Word name ++ (params_words params ++ (parent_words parent ++ block_words body))) p t.1
            (together (Some kind.Word name) (ParamsOf IsExpr x.0 then ParentOf parent then BlockOf S b.0) p.back (word kind.Word name) (params_words params ++ (parent_words parent ++ block_words body)) q (one_word kind.Word name q.front q.first)
            (together (ParamsOf IsExpr x.0) (ParentOf parent then BlockOf S b.0) q.back (params_words params) (parent_words parent ++ block_words body) v x.1
            (together (ParentOf parent) (BlockOf S b.0) v.back (parent_words parent) (block_words body) z (parent_again parent z.front z.first) b.1)))),
        ap (λ (c : List Param). item.Class 0 name c parent (map unplaced_stmt body)) x.2 ∙ ap (λ (c : List Stmt). item.Class 0 name (map unplaced_param x.0) parent c) b.2,
      )

  -- the words of a defined type spell it again
  define_reads : (at : ℕ) (name : List ℕ) (params : List Param) (body : List Stmt) (ts : List Lexeme) → (Token kind.Keyword (codes "define") at then Some kind.Word name then ParamsOf IsExpr params then BlockOf S body) ts → Small n ts → (us : List Lexeme) → Reads (item.Define at name params body) us
  define_reads at name params body ts d good us w =
      let p = parts us (keyword (codes "define")) (word kind.Word name ++ (params_words params ++ block_words body)) w in
      let q = parts p.back (word kind.Word name) (params_words params ++ block_words body) p.second in
      let v = parts q.back (params_words params) (block_words body) q.second in
      let t = one_word kind.Keyword (codes "define") p.front p.first in
      let g = parts_stand n (Token kind.Keyword (codes "define") at) (Some kind.Word name then ParamsOf IsExpr params then BlockOf S body) ts d good in
      let k = parts_stand n (Some kind.Word name) (ParamsOf IsExpr params then BlockOf S body) d.back d.second g.1 in
      let l = parts_stand n (ParamsOf IsExpr params) (BlockOf S body) d.second.back d.second.second k.1 in
      let x = params_read n params d.second.second.front d.second.second.first l.0 v.front v.first in
      let b = body_again body d.second.second.back d.second.second.second l.1 v.back v.second in (
        item.Define t.0 name x.0 b.0,
        rule.define t.0 name x.0 b.0 refl
            (together (Token kind.Keyword (codes "define") t.0) (Some kind.Word name then ParamsOf IsExpr x.0 then BlockOf S b.0) us (keyword (codes "define")) (word kind.Word name ++ (params_words params ++ block_words body)) p t.1
            (together (Some kind.Word name) (ParamsOf IsExpr x.0 then BlockOf S b.0) p.back (word kind.Word name) (params_words params ++ block_words body) q (one_word kind.Word name q.front q.first)
            (together (ParamsOf IsExpr x.0) (BlockOf S b.0) q.back (params_words params) (block_words body) v x.1 b.1))),
        ap (λ (c : List Param). item.Define 0 name c (map unplaced_stmt body)) x.2 ∙ ap (λ (c : List Stmt). item.Define 0 name (map unplaced_param x.0) c) b.2,
      )

  -- the words of a node spell it again
  node_reads : (at : ℕ) (names : List (Option (List ℕ))) (body : List Stmt) (ts : List Lexeme) → (Token kind.Keyword (codes "node") at then Listed (NodeNameOf IsExpr) names then BlockOf S body) ts → Small n ts → (us : List Lexeme) → Reads (item.Node at names body) us
  node_reads at names body ts d good us w =
      let p = parts us (keyword (codes "node")) (listed (option_by quoted) names ++ block_words body) w in
      let q = parts p.back (listed (option_by quoted) names) (block_words body) p.second in
      let t = one_word kind.Keyword (codes "node") p.front p.first in
      let g = parts_stand n (Token kind.Keyword (codes "node") at) (Listed (NodeNameOf IsExpr) names then BlockOf S body) ts d good in
      let k = parts_stand n (Listed (NodeNameOf IsExpr) names) (BlockOf S body) d.back d.second g.1 in
      let b = body_again body d.second.back d.second.second k.1 q.back q.second in (
        item.Node t.0 names b.0,
        rule.node t.0 names b.0 refl
            (together (Token kind.Keyword (codes "node") t.0) (Listed (NodeNameOf IsExpr) names then BlockOf S b.0) us (keyword (codes "node")) (listed (option_by quoted) names ++ block_words body) p t.1
            (together (Listed (NodeNameOf IsExpr) names) (BlockOf S b.0) p.back (listed (option_by quoted) names) (block_words body) q (names_read n names d.second.front d.second.first k.0 q.front q.first) b.1)),
        ap (λ (c : List Stmt). item.Node 0 names c) b.2,
      )

  -- the words of defaults spell them again
  defaults_reads : (at : ℕ) (name : List ℕ) (attrs : List Attr) (ts : List Lexeme) → (Token kind.Ref name at then InBraces (MaybeListed (AttrOf IsExpr) attrs)) ts → Small n ts → (us : List Lexeme) → Reads (item.Defaults at name attrs) us
  defaults_reads at name attrs ts d good us w =
      let p = parts us (word kind.Ref name) (in_braces (listed attr_words attrs)) w in
      let b = braced p.back (listed attr_words attrs) p.second in
      let t = one_word kind.Ref name p.front p.first in
      let g = parts_stand n (Token kind.Ref name at) (InBraces (MaybeListed (AttrOf IsExpr) attrs)) ts d good in
      let r = attrs_read n attrs d.second.second.front d.second.second.first (braces_small n (MaybeListed (AttrOf IsExpr) attrs) d.back d.second g.1) b.inner b.words in (
        item.Defaults t.0 name r.0,
        rule.defaults t.0 name r.0 refl (together (Token kind.Ref name t.0) (InBraces (MaybeListed (AttrOf IsExpr) r.0)) us (word kind.Ref name) (in_braces (listed attr_words attrs)) p t.1 (b.build (MaybeListed (AttrOf IsExpr) r.0) r.1)),
        ap (λ (c : List Attr). item.Defaults 0 name c) r.2,
      )

  -- the words of an item spell it again
  item_reads : (x : Item) (ts : List Lexeme) → ItemOf IsExpr S x ts → Small n ts → (us : List Lexeme) → Reads x us
  item_reads x ts (rule.class at name params parent body is d) good us = subst (λ (y : Item). Reads y us) (sym is) (class_reads at name params parent body ts d good us)
  item_reads x ts (rule.define at name params body is d) good us = subst (λ (y : Item). Reads y us) (sym is) (define_reads at name params body ts d good us)
  item_reads x ts (rule.node at names body is d) good us = subst (λ (y : Item). Reads y us) (sym is) (node_reads at names body ts d good us)
  item_reads x ts (rule.defaults at name attrs is d) good us = subst (λ (y : Item). Reads y us) (sym is) (defaults_reads at name attrs ts d good us)
  item_reads x ts (rule.plain s is d) good us = subst (λ (y : Item). Reads y us) (sym is) (λ w. let r = stmt_reads n m s ts d good us w in (item.Plain r.0, rule.plain r.0 refl r.1, ap (λ (t : Stmt). item.Plain t) r.2))

  -- the words of items spell them again
  items_read : (xs : List Item) (ts : List Lexeme) → Items IsExpr S xs ts → Small n ts → (us : List Lexeme) → words_in us ≡ flat_map item_words xs → (ys : List Item) × Items IsExpr S ys us × (map unplaced_item xs ≡ map unplaced_item ys)
  items_read [] ts d good us w = ([], no_word us w, refl)
  items_read (x ∷ xs) ts d good us w =
      let p = parts us (item_words x) (flat_map item_words xs) w in
      let g = parts_stand n (ItemOf IsExpr S x) (Items IsExpr S xs) ts d good in
      let here = item_reads x d.front d.first g.0 p.front p.first in
      let rest = items_read xs d.back d.second g.1 p.back p.second in (
        here.0 ∷ rest.0,
        together (ItemOf IsExpr S here.0) (Items IsExpr S rest.0) us (item_words x) (flat_map item_words xs) p here.1 rest.1,
        ap (λ (z : Item). z ∷ map unplaced_item xs) here.2 ∙ ap (λ (r : List Item). unplaced_item here.0 ∷ r) rest.2,
      )

-- Any tokens with the words of a manifest that tokens of a text spell, spell one that is the same, places aside.
pub manifest_reads : (m : Manifest) (ts : List Lexeme) → IsManifest m ts → AllStand ts → (us : List Lexeme) → words_in us ≡ manifest_words m → (k : Manifest) × IsManifest k us × SameButPlaces m k
manifest_reads m ts d good us w =
    let r = items_read (length ts + 1) d.0 m.items ts d.1 (good, omega arith) us w in
    (record { items = r.0 }, (d.0, r.1), ap (λ (xs : List Item). record { items = xs }) r.2)
