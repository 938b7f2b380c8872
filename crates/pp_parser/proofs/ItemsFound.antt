-- What is read is spelled: parameters, definitions, and whole manifests.
use Rattle.std.proofs.Common.{◌≡◌, ◌≢◌, inl, inr, ℕ, ◌+◌, Bool, true, false, cond, List, [], ◌∷◌, ◌++◌, length, Option, Some, None, refl, sym, ap, subst, ◌∙◌}
use Rattle.std.specs.Prelude.{codes}
use Rattle.std.specs.Str.{bytes_eq}
use Rattle.pp_syntax.specs.declared.token.Kind.{Kind}
use Rattle.pp_syntax.specs.declared.token.Kind.TheVariants as kind
use Rattle.pp_syntax.specs.declared.tree.Expr.{Expr}
use Rattle.pp_syntax.specs.declared.tree.Form.{Form}
use Rattle.pp_syntax.specs.declared.tree.Form.TheVariants as form
use Rattle.pp_syntax.specs.declared.tree.Form.TheBlock as block
use Rattle.pp_syntax.specs.declared.tree.Stmt.{Stmt}
use Rattle.pp_syntax.specs.declared.tree.TypeName.{TypeName}
use Rattle.pp_syntax.specs.declared.tree.Param.{Param}
use Rattle.pp_syntax.specs.declared.tree.Item.TheVariants as item
use Rattle.pp_syntax.specs.Tokens.{Lexeme}
use Rattle.pp_syntax.specs.Phrases as phrases
use Rattle.pp_syntax.specs.Phrases.{◌then◌, Sign, Keyword, Listed, MaybeListed, place_of}
use Rattle.pp_syntax.specs.Derivation.{StringOf}
use Rattle.pp_syntax.specs.Statements.{AttrOf, InBraces, BlockOf, IsType, MaybeType, VariableOf, DefaultOf, ParamOf, ParamsOf, ParentOf, NodeNameOf, ItemOf, Items}
use Rattle.pp_syntax.specs.Statements as grammar
use Rattle.pp_readers.specs.Marks.{mark}
use Rattle.rh_base.specs.Reading.{◌>>=◌}
use Rattle.pp_readers.specs.Parsed.{Begins}
use Rattle.pp_readers.specs.Expressions.{string_with}
use Rattle.pp_readers.proofs.Tokens.{maps, marked}
use Rattle.pp_readers.proofs.Finding.{Finds, maybe_items_found}
use Rattle.pp_readers.specs.Combining.{Reader, both, behind, begins, listed}
use Rattle.pp_readers.specs.Names.{taken, variable_by, ref_by}
use Rattle.pp_readers.specs.Statements.{attributes_with, block_with}
use Rattle.pp_readers.proofs.Combining.{Spells, both_found, behind_found, placed_found, first_token, some_token, taken_found, many_found, ListedBy, listed_found, listed_some}
use Rattle.pp_readers.proofs.Names.{variable_found, ref_found}
use Rattle.pp_parser.specs.ItemReading.{begins_type, param_of, maybe_type, default_with, param_with, params_in, params_with, word_by, parent_with, class_of, class_with, define_of, define_with, text_of, text_name, default_name, word_name, node_name_by, node_name_with, unopened, node_names_with, node_of, node_with, defaults_of, defaults_with, plain_with, class_or_plain, keyed_with, defaults_or_plain, item_by, item_with, has_token, items_with}
use Rattle.pp_parser.proofs.TypesFound.{Perhaps, optional_found, shaped_found}
use Rattle.rh_base.proofs.Options.{bind_some}

-- a token that is a word is spelled as it
word_is : (k : Kind) (s x : List ℕ) (at : ℕ) → word_by k s ≡ Some x → phrases.Some kind.Word x (record { kind = k; text = s; at = at } ∷ [])
word_is kind.Word s x at h = let e : s ≡ x = cc in (at, ap (λ (u : List ℕ). record { kind = kind.Word; text = u; at = at } ∷ []) e)
word_is k s x at h = cc

-- what is read as a word is spelled so
pub word_found : Finds (taken word_by) (phrases.Some kind.Word)
word_found = taken_found word_by (phrases.Some kind.Word) word_is

-- what is read as `inherits` and a word, or nothing, is spelled so
parent_found : Finds parent_with ParentOf
parent_found ts x h = maps (is_parent x.0) (optional_found (begins kind.Keyword (codes "inherits")) (behind kind.Keyword (codes "inherits") (taken word_by)) (λ name. Keyword (codes "inherits") then phrases.Some kind.Word name)
    (behind_found (taken word_by) (phrases.Some kind.Word) word_found kind.Keyword (codes "inherits")) ts x h)
  where
    is_parent : (o : Option (List ℕ)) (us : List Lexeme) → Perhaps (λ name. Keyword (codes "inherits") then phrases.Some kind.Word name) o us → ParentOf o us
    is_parent None us n = n
    is_parent (Some name) us p = p

-- a form that has a name as its text is that text
text_name_is : (f : Form) (name : List ℕ) → text_of f ≡ Some name → f ≡ form.Str name
text_name_is (form.Str s) name h = cc
text_name_is (form.Int n) name h = cc
text_name_is (form.Var s) name h = cc
text_name_is (form.Bool b) name h = cc
text_name_is form.Undef name h = cc
text_name_is (block.List' u r) name h = cc
text_name_is (block.Map' u r) name h = cc
text_name_is (block.Refer' k u r) name h = cc
text_name_is (block.Join' u r) name h = cc
text_name_is (block.Chain' u r v q) name h = cc
text_name_is (block.Prefix' ops u r) name h = cc
text_name_is (block.Select' u r v q) name h = cc
text_name_is (block.Index' u r v q) name h = cc

module _ (e : Reader Expr) (E : Spells Expr) (finds : Finds e E) (strings : Finds (string_with e) (StringOf E)) (t : Reader TypeName) (T : Spells TypeName) (types : Finds t T) (typed : (y : TypeName) (us : List Lexeme) → T y us → IsType y us)
    (s : Reader Stmt) (S : Spells Stmt) (inner : Finds s S) (blocks : Finds (block_with s) (BlockOf S)) (attributes : Finds (attributes_with e) (λ ys. InBraces (MaybeListed (AttrOf E) ys))) where
  -- ---- parameters

  -- what is read as `=` and an expression, or nothing, is spelled so
  default_found : Finds (default_with e) (DefaultOf E)
  default_found ts x h = maps (is_default x.0) (optional_found (begins kind.Sign (codes "=")) (behind kind.Sign (codes "=") e) (λ v. Sign (codes "=") then E v) (behind_found e E finds kind.Sign (codes "=")) ts x h)
    where
      is_default : (o : Option Expr) (us : List Lexeme) → Perhaps (λ v. Sign (codes "=") then E v) o us → DefaultOf E o us
      is_default None us n = n
      is_default (Some v) us p = p

  -- what is read as a type, or nothing, is spelled so
  type_found : Finds (maybe_type t) MaybeType
  type_found ts x h = maps (is_type x.0) (optional_found begins_type t T types ts x h)
    where
      is_type : (o : Option TypeName) (us : List Lexeme) → Perhaps T o us → MaybeType o us
      is_type None us n = n
      is_type (Some y) us p = typed y us p

  -- what is read as a parameter is spelled so
  param_found : Finds (param_with e t) (ParamOf E)
  param_found = shaped_found param_of (both (maybe_type t) (both (taken variable_by) (default_with e))) (λ p. MaybeType p.0 then (VariableOf p.1.0 then DefaultOf E p.1.1)) (ParamOf E)
      (both_found (maybe_type t) (both (taken variable_by) (default_with e)) MaybeType (λ p. VariableOf p.0 then DefaultOf E p.1) type_found
      (both_found (taken variable_by) (default_with e) VariableOf (DefaultOf E) variable_found default_found)) (λ p us h. h)

  -- what is read as parameters in brackets, or nothing, is spelled so
  params_found : Finds (params_with e t) (ParamsOf E)
  params_found ts x h = by_test (begins kind.Sign (codes "(") ts) h
    where
      are_params : (ps : List Param) (us : List Lexeme) → (Sign (codes "(") then (MaybeListed (ParamOf E) ps then Sign (codes ")"))) us → ParamsOf E ps us
      are_params [] us p = inr (record { front = p.front; back = p.back; first = p.first; second = subst (Sign (codes ")")) (sym (p.second.whole ∙ ap (λ r. r ++ p.second.back) p.second.first)) p.second.second; whole = p.whole })
      are_params (q ∷ ps) us p = p

      by_test : (v : Bool) → cond v (behind kind.Sign (codes "(") (params_in e t) ts) (Some ([], ts)) ≡ Some x → Begins (ParamsOf E x.0) ts x.1
      by_test true k = maps (are_params x.0) (behind_found (params_in e t) (λ ps. MaybeListed (ParamOf E) ps then Sign (codes ")"))
          (λ ts x h. maybe_items_found (param_with e t) (ParamOf E) param_found (codes ")") (length ts + 1) ts x h) kind.Sign (codes "(") ts x k)
      by_test false k =
          let same : ◌≡◌ {A = List Param × List Lexeme} ([], ts) x = cc in
          subst (λ (y : List Param × List Lexeme). Begins (ParamsOf E y.0) ts y.1) same (record { front = []; spelled = inl refl; whole = refl })

  -- ---- definitions

  -- `class`, its name, parameters, parent and block
  abbrev ClassParts : List ℕ × (List Param × (Option (List ℕ) × List Stmt)) → List Lexeme → Type 0
  ClassParts p = Keyword (codes "class") then (phrases.Some kind.Word p.0 then (ParamsOf E p.1.0 then (ParentOf p.1.1.0 then BlockOf S p.1.1.1)))

  -- what is read as a class is an item spelled so
  class_found : Finds (class_with e t s) (ItemOf E S)
  class_found = placed_found class_of (behind kind.Keyword (codes "class") (both (taken word_by) (both (params_with e t) (both parent_with (block_with s))))) ClassParts (ItemOf E S)
      (behind_found (both (taken word_by) (both (params_with e t) (both parent_with (block_with s)))) (λ p. phrases.Some kind.Word p.0 then (ParamsOf E p.1.0 then (ParentOf p.1.1.0 then BlockOf S p.1.1.1)))
      (both_found (taken word_by) (both (params_with e t) (both parent_with (block_with s))) (phrases.Some kind.Word) (λ p. ParamsOf E p.0 then (ParentOf p.1.0 then BlockOf S p.1.1)) word_found
      (both_found (params_with e t) (both parent_with (block_with s)) (ParamsOf E) (λ p. ParentOf p.0 then BlockOf S p.1) params_found (both_found parent_with (block_with s) ParentOf (BlockOf S) parent_found blocks))) kind.Keyword (codes "class"))
      (λ p. some_token kind.Keyword (codes "class") (phrases.Some kind.Word p.0 then (ParamsOf E p.1.0 then (ParentOf p.1.1.0 then BlockOf S p.1.1.1))))
      (λ p us h. grammar.ItemOf.class (place_of us) p.0 p.1.0 p.1.1.0 p.1.1.1 refl (first_token kind.Keyword (codes "class") (phrases.Some kind.Word p.0 then (ParamsOf E p.1.0 then (ParentOf p.1.1.0 then BlockOf S p.1.1.1))) us h))

  -- what is read as a defined type is an item spelled so
  define_found : Finds (define_with e t s) (ItemOf E S)
  define_found = placed_found define_of (behind kind.Keyword (codes "define") (both (taken word_by) (both (params_with e t) (block_with s)))) (λ p. Keyword (codes "define") then (phrases.Some kind.Word p.0 then (ParamsOf E p.1.0 then BlockOf S p.1.1))) (ItemOf E S)
      (behind_found (both (taken word_by) (both (params_with e t) (block_with s))) (λ p. phrases.Some kind.Word p.0 then (ParamsOf E p.1.0 then BlockOf S p.1.1))
      (both_found (taken word_by) (both (params_with e t) (block_with s)) (phrases.Some kind.Word) (λ p. ParamsOf E p.0 then BlockOf S p.1) word_found
      (both_found (params_with e t) (block_with s) (ParamsOf E) (BlockOf S) params_found blocks)) kind.Keyword (codes "define"))
      (λ p. some_token kind.Keyword (codes "define") (phrases.Some kind.Word p.0 then (ParamsOf E p.1.0 then BlockOf S p.1.1)))
      (λ p us h. grammar.ItemOf.define (place_of us) p.0 p.1.0 p.1.1 refl (first_token kind.Keyword (codes "define") (phrases.Some kind.Word p.0 then (ParamsOf E p.1.0 then BlockOf S p.1.1)) us h))

  -- ---- nodes

  -- a text that is read as the name of a node is spelled so
  text_name_found : Finds (text_name e) (NodeNameOf E)
  text_name_found ts x h =
      let p = bind_some (string_with e ts) (λ x. text_of x.0.form >>= λ n. Some (Some n, x.1)) x h in
      let n = bind_some (text_of p.0.0.form) (λ n. Some (Some n, p.0.1)) x p.2 in
      let same : ◌≡◌ {A = Option (List ℕ) × List Lexeme} (Some n.0, p.0.1) x = cc in
      subst (λ (y : Option (List ℕ) × List Lexeme). Begins (NodeNameOf E y.0) ts y.1) same
      (maps (λ us k. grammar.NodeNameOf.text n.0 p.0.0 refl k (text_name_is p.0.0.form n.0 n.1)) (strings ts p.0 p.1))

  -- `default` that is read as the name of a node is spelled so
  default_name_found : Finds default_name (NodeNameOf E)
  default_name_found ts x h =
      let p = bind_some (mark kind.Keyword (codes "default") ts) (λ o. Some (None, o.1)) x h in
      let same : ◌≡◌ {A = Option (List ℕ) × List Lexeme} (None, p.0.1) x = cc in
      subst (λ (y : Option (List ℕ) × List Lexeme). Begins (NodeNameOf E y.0) ts y.1) same (maps (λ us k. grammar.NodeNameOf.default refl k) (marked kind.Keyword (codes "default") ts p.0 p.1))

  -- a word that is read as the name of a node is spelled so
  word_name_found : Finds word_name (NodeNameOf E)
  word_name_found = shaped_found Some (taken word_by) (phrases.Some kind.Word) (NodeNameOf E) word_found (λ name us k. grammar.NodeNameOf.word name refl k)

  -- what is read as the name of a node by its kind is spelled so
  node_name_by_found : (k : Kind) → Finds (node_name_by e k) (NodeNameOf E)
  node_name_by_found kind.Keyword = default_name_found
  node_name_by_found kind.Word = word_name_found
  node_name_by_found k = text_name_found

  -- what is read as the name of a node is spelled so
  node_name_found : Finds (node_name_with e) (NodeNameOf E)
  node_name_found [] x h = cc
  node_name_found (t ∷ ts) x h = node_name_by_found t.kind (t ∷ ts) x h

  -- one name or more with commas between them are the names of a node
  are_names : (xs : List (Option (List ℕ))) (us : List Lexeme) → xs ≢ [] → ListedBy (codes ",") (NodeNameOf E) xs us → Listed (NodeNameOf E) xs us
  are_names [] us n p = absurd (n refl)
  are_names (x ∷ xs) us n p = p

  -- what is read as the names of a node is spelled so
  node_names_found : Finds (node_names_with e) (Listed (NodeNameOf E))
  node_names_found ts x h = by_test (unopened ts) refl h
    where
      by_test : (v : Bool) → unopened ts ≡ v → cond v (listed (codes ",") unopened (node_name_with e) (length ts + 1) ts) None ≡ Some x → Begins (Listed (NodeNameOf E) x.0) ts x.1
      by_test true p k = maps (λ us l. are_names x.0 us (listed_some (codes ",") unopened (node_name_with e) (NodeNameOf E) node_name_found (length ts + 1) ts x p k) l)
          (listed_found (codes ",") unopened (node_name_with e) (NodeNameOf E) node_name_found (length ts + 1) ts x k)
      by_test false p k = cc

  -- what is read as a node is an item spelled so
  node_found : Finds (node_with e s) (ItemOf E S)
  node_found = placed_found node_of (behind kind.Keyword (codes "node") (both (node_names_with e) (block_with s))) (λ p. Keyword (codes "node") then (Listed (NodeNameOf E) p.0 then BlockOf S p.1)) (ItemOf E S)
      (behind_found (both (node_names_with e) (block_with s)) (λ p. Listed (NodeNameOf E) p.0 then BlockOf S p.1) (both_found (node_names_with e) (block_with s) (Listed (NodeNameOf E)) (BlockOf S) node_names_found blocks) kind.Keyword (codes "node"))
      (λ p. some_token kind.Keyword (codes "node") (Listed (NodeNameOf E) p.0 then BlockOf S p.1))
      (λ p us h. grammar.ItemOf.node (place_of us) p.0 p.1 refl (first_token kind.Keyword (codes "node") (Listed (NodeNameOf E) p.0 then BlockOf S p.1) us h))

  -- ---- items

  -- what is read as defaults of a type is an item spelled so
  defaults_found : Finds (defaults_with e) (ItemOf E S)
  defaults_found = placed_found defaults_of (both (taken ref_by) (attributes_with e)) (λ p. phrases.Some kind.Ref p.0 then InBraces (MaybeListed (AttrOf E) p.1)) (ItemOf E S)
      (both_found (taken ref_by) (attributes_with e) (phrases.Some kind.Ref) (λ ys. InBraces (MaybeListed (AttrOf E) ys)) ref_found attributes)
      (λ p. some_token kind.Ref p.0 (InBraces (MaybeListed (AttrOf E) p.1)))
      (λ p us h. grammar.ItemOf.defaults (place_of us) p.0 p.1 refl (first_token kind.Ref p.0 (InBraces (MaybeListed (AttrOf E) p.1)) us h))

  -- what is read as a statement is an item spelled so
  plain_found : Finds (plain_with s) (ItemOf E S)
  plain_found = shaped_found item.Plain s S (ItemOf E S) inner (λ y us h. grammar.ItemOf.plain y refl h)

  -- what is read behind `class`, with a name or without, is an item spelled so
  class_or_plain_found : (v : Bool) → Finds (class_or_plain e t s v) (ItemOf E S)
  class_or_plain_found true = class_found
  class_or_plain_found false = plain_found

  -- what is read behind a type's name, as defaults or as a statement, is an item spelled so
  defaults_or_plain_found : (v : Bool) → Finds (defaults_or_plain e s v) (ItemOf E S)
  defaults_or_plain_found true = plain_found
  defaults_or_plain_found false = defaults_found

  -- what is read behind a keyword is an item spelled so
  keyed_found : (word : List ℕ) (v : Bool) → Finds (keyed_with e t s word v) (ItemOf E S)
  keyed_found word v ts x h = by_tests (bytes_eq word (codes "class")) (bytes_eq word (codes "define")) (bytes_eq word (codes "node")) h
    where
      by_tests : (a b c : Bool) → cond a (class_or_plain e t s v ts) (cond b (define_with e t s ts) (cond c (node_with e s ts) (plain_with s ts))) ≡ Some x → Begins (ItemOf E S x.0) ts x.1
      by_tests true b c k = class_or_plain_found v ts x k
      by_tests false true c k = define_found ts x k
      by_tests false false true k = node_found ts x k
      by_tests false false false k = plain_found ts x k

  -- what is read by the kind of its first token is an item spelled so
  item_by_found : (k : Kind) (word : List ℕ) (v : Bool) → Finds (item_by e t s k word v) (ItemOf E S)
  item_by_found kind.Keyword word v = keyed_found word v
  item_by_found kind.Ref word v = defaults_or_plain_found v
  item_by_found k word v = plain_found

  -- what is read as an item is spelled so
  item_found : Finds (item_with e t s) (ItemOf E S)
  item_found [] x h = cc
  item_found (f ∷ ts) x h = item_by_found f.kind f.text (unopened ts) (f ∷ ts) x h

  -- what is read as items is spelled so
  pub items_found : Finds (items_with e t s) (Items E S)
  items_found ts x h = many_found has_token (item_with e t s) (ItemOf E S) item_found (Items E S) refl
      (λ y ys us vs p r. record { front = us; back = vs; first = p; second = r; whole = refl }) (length ts + 1) ts x h
