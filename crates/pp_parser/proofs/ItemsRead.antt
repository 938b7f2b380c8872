-- What is spelled is read: parameters, definitions, and whole manifests.
use Rattle.std.proofs.Common.{◌≡◌, ◌≢◌, inl, inr, ℕ, ◌+◌, ◌<◌, true, cond, List, [], ◌∷◌, ◌++◌, length, Option, Some, None, refl, sym, ap, subst, ◌∙◌, length-append, arith}
use Rattle.std.specs.Prelude.{codes}
use Rattle.std.proofs.lemmas.List.{append-nil}
use Rattle.pp_syntax.specs.declared.token.Kind.TheVariants as kind
use Rattle.pp_syntax.specs.declared.tree.Expr.{Expr}
use Rattle.pp_syntax.specs.declared.tree.Form.{Form}
use Rattle.pp_syntax.specs.declared.tree.Attr.{Attr}
use Rattle.pp_syntax.specs.declared.tree.Stmt.{Stmt}
use Rattle.pp_syntax.specs.declared.tree.TypeName.{TypeName}
use Rattle.pp_syntax.specs.declared.tree.Param.{Param}
use Rattle.pp_syntax.specs.declared.tree.Item.{Item}
use Rattle.pp_syntax.specs.declared.tree.Item.TheVariants as item
use Rattle.pp_syntax.specs.Tokens.{Lexeme}
use Rattle.pp_syntax.specs.Phrases as phrases
use Rattle.pp_syntax.specs.Phrases.{◌then◌, Sign, Keyword, Listed, MaybeListed}
use Rattle.pp_syntax.specs.Derivation.{StringOf}
use Rattle.pp_syntax.specs.Statements.{AttrOf, InBraces, BlockOf, IsType, MaybeType, VariableOf, DefaultOf, ParamOf, ParamsOf, ParentOf, NodeNameOf, ItemOf, Items, Statements}
use Rattle.pp_syntax.specs.Statements as grammar
use Rattle.pp_readers.specs.Marks.{mark}
use Rattle.rh_base.specs.Reading.{◌>>=◌}
use Rattle.pp_readers.specs.Expressions.{string_with}
use Rattle.pp_readers.proofs.Reading.{Fit, fits_second}
use Rattle.pp_readers.proofs.Listing.{maybe_row_read}
use Rattle.pp_readers.specs.Combining.{Reader, both, behind, begins, listed}
use Rattle.pp_readers.specs.Names.{taken, variable_by, ref_by}
use Rattle.pp_readers.specs.Leads.{NothingFollows, BeginsStatement}
use Rattle.pp_readers.specs.Statements.{attributes_with, block_with}
use Rattle.pp_readers.proofs.Combining.{Spells, ListedBy}
use Rattle.pp_readers.proofs.BodiesFound.{front_nil}
use Rattle.pp_readers.proofs.Building.{Phrase, Always, ReadsBefore, split, mark_here, both_read, behind_read, placed_read, taken_read, many_read, listed_read}
use Rattle.pp_readers.proofs.ReadBodies.{Quiet, by_first, token_solid}
use Rattle.pp_readers.proofs.ReadChains.{placeless, place_is, first_of, ref_read, variable_read}
use Rattle.pp_readers.proofs.Leads.{nothing_follows, leads_more, leads_some}
use Rattle.pp_parser.specs.ItemReading.{begins_type, param_of, maybe_type, default_with, param_with, params_in, params_with, word_by, parent_with, class_of, class_with, define_of, define_with, text_of, text_name, node_name_with, unopened, node_names_with, node_of, node_with, defaults_of, defaults_with, plain_with, item_with, has_token, items_with}
use Rattle.pp_parser.proofs.Within.{front_short, back_short, maybe_listed_within, first_within, second_within}
use Rattle.pp_parser.proofs.TypesFound.{Perhaps}
use Rattle.pp_parser.proofs.TypesRead.{Not, optional_read, shaped_read}
use Rattle.pp_readers.proofs.ReadSearch.{begins_here}
use Rattle.pp_readers.proofs.ReadBlocks.{some_long}
use Rattle.pp_readers.proofs.Quotes.{paren_closes}

-- ---- tokens

-- a word is read
word_read : ReadsBefore Always (taken word_by) (phrases.Some kind.Word)
word_read x us rest t f q = taken_read word_by kind.Word x x us rest t refl

-- no parent and no parameters stand first
abbrev NoParent : Phrase
NoParent rest = Not (begins kind.Keyword (codes "inherits")) rest

-- no parameters stand first
abbrev NoParams : Phrase
NoParams rest = Not (begins kind.Sign (codes "(")) rest

-- `inherits` and a word, or nothing, are read
parent_read : ReadsBefore NoParent parent_with ParentOf
parent_read o us rest h f q =
    optional_read (begins kind.Keyword (codes "inherits")) (behind kind.Keyword (codes "inherits") (taken word_by)) (λ name. Keyword (codes "inherits") then phrases.Some kind.Word name) Always
    (behind_read (taken word_by) (phrases.Some kind.Word) Always word_read kind.Keyword (codes "inherits")) (λ name us rest p. begins_here kind.Keyword (codes "inherits") (phrases.Some kind.Word name) us rest p) o us rest (perhaps o us h) f tt q
  where
    perhaps : (o : Option (List ℕ)) (us : List Lexeme) → ParentOf o us → Perhaps (λ name. Keyword (codes "inherits") then phrases.Some kind.Word name) o us
    perhaps None us n = n
    perhaps (Some name) us p = p

-- lists of fewer tokens than this
abbrev Short : ℕ → {X : Type 0} → Spells X → Spells X
Short n A x us = A x us × (length us < n)

module _ (n : ℕ) (e : Reader Expr) (E : Spells Expr) (reads : ReadsBefore Quiet e E) (strings : ReadsBefore Always (string_with e) (StringOf E))
    (t : Reader TypeName) (types : ReadsBefore Quiet t (Short n IsType)) (type_begins : (y : TypeName) (us rest : List Lexeme) → IsType y us → (begins_type (us ++ rest) ≡ true) × (mark kind.Sign (codes ")") (us ++ rest) ≡ None) × (us ≢ []))
    (string_begins : (y : Expr) (us rest : List Lexeme) → StringOf E y us → (node_name_with e (us ++ rest) ≡ text_name e (us ++ rest)) × (unopened (us ++ rest) ≡ true) × (us ≢ []))
    (s : Reader Stmt) (S : Spells Stmt) (inner : ReadsBefore NothingFollows s S) (leads : (y : Stmt) (us : List Lexeme) → S y us → BeginsStatement us)
    (stays : (y : Stmt) (us rest : List Lexeme) → S y us → item_with e t s (us ++ rest) ≡ plain_with s (us ++ rest))
    (blocks : ReadsBefore Always (block_with s) (BlockOf S)) (attributes : ReadsBefore Always (attributes_with e) (λ ys. InBraces (MaybeListed (AttrOf E) ys))) where
  -- ---- parameters

  -- what may follow a parameter
  abbrev EndsParam : Phrase
  EndsParam rest = Quiet rest × Not (begins kind.Sign (codes "=")) rest

  -- `=` and an expression, or nothing, are read
  default_read : ReadsBefore EndsParam (default_with e) (DefaultOf E)
  default_read o us rest h f q =
      optional_read (begins kind.Sign (codes "=")) (behind kind.Sign (codes "=") e) (λ v. Sign (codes "=") then E v) Quiet (behind_read e E Quiet reads kind.Sign (codes "="))
      (λ v us rest p. begins_here kind.Sign (codes "=") (E v) us rest p) o us rest (perhaps o us h) f q.0 q.1
    where
      perhaps : (o : Option Expr) (us : List Lexeme) → DefaultOf E o us → Perhaps (λ v. Sign (codes "=") then E v) o us
      perhaps None us n = n
      perhaps (Some v) us p = p

  -- what may follow the type of a parameter
  abbrev EndsType : Phrase
  EndsType rest = Quiet rest × Not begins_type rest

  -- a type, or nothing, is read, before the parameter that it is of
  type_read : ReadsBefore EndsType (maybe_type t) (Short n MaybeType)
  type_read o us rest h f q =
      optional_read begins_type t (Short n IsType) Quiet types (λ y us rest p. (type_begins y us rest p.0).0) o us rest (perhaps o us h) f q.0 q.1
    where
      perhaps : (o : Option TypeName) (us : List Lexeme) → Short n MaybeType o us → Perhaps (Short n IsType) o us
      perhaps None us p = p.0
      perhaps (Some y) us p = p

  -- before a parameter's name a type ends
  named_quiet : (p : List ℕ × Option Expr) (us rest : List Lexeme) → (VariableOf p.0 then DefaultOf E p.1) us → EndsType (us ++ rest)
  named_quiet p us rest h = subst EndsType (sym (split h.front h.back rest us h.whole ∙ ap (λ r. r ++ (h.back ++ rest)) h.first.0.1)) (omega arith, refl)

  -- a parameter is read
  param_read : ReadsBefore EndsParam (param_with e t) (Short n (ParamOf E))
  param_read p us rest h f q =
      shaped_read param_of (both (maybe_type t) (both (taken variable_by) (default_with e))) (λ p. Short n MaybeType p.0 then (VariableOf p.1.0 then DefaultOf E p.1.1)) EndsParam
      (both_read (maybe_type t) (both (taken variable_by) (default_with e)) (Short n MaybeType) (λ p. VariableOf p.0 then DefaultOf E p.1) EndsType EndsParam type_read
      (both_read (taken variable_by) (default_with e) VariableOf (DefaultOf E) Always EndsParam variable_read default_read (λ y us rest b g. tt)) (λ p us rest b g. named_quiet p us rest b))
      (p.kind, (p.name, p.default)) p us rest
      (first_within n (MaybeType p.kind) (VariableOf p.name then DefaultOf E p.default) (Short n MaybeType p.kind) (λ vs l k. (k, l)) us h.1 h.0) f q refl

  -- a parameter has a token, and doesn't begin with `)`
  param_first : (p : Param) (us rest : List Lexeme) → ParamOf E p us → (mark kind.Sign (codes ")") (us ++ rest) ≡ None) × (us ≢ [])
  param_first p us rest h = by_kind p.kind h.front h.back h.first h.second h.whole
    where
      by_kind : (o : Option TypeName) (front back : List Lexeme) → MaybeType o front → (VariableOf p.name then DefaultOf E p.default) back → us ≡ front ++ back → (mark kind.Sign (codes ")") (us ++ rest) ≡ None) × (us ≢ [])
      by_kind None front back m v w =
          let e : us ≡ back = w ∙ ap (λ r. r ++ back) m in (
            ap (λ r. mark kind.Sign (codes ")") (r ++ rest)) (e ∙ v.whole ∙ ap (λ r. r ++ v.back) v.first.0.1),
            λ empty. token_solid kind.Var (36 ∷ p.name) (DefaultOf E p.default) us (subst (phrases.Some kind.Var (36 ∷ p.name) then DefaultOf E p.default) (sym e)
                (record { front = v.front; back = v.back; first = v.first.0; second = v.second; whole = v.whole })) empty,
          )
      by_kind (Some y) front back m v w =
          let b = type_begins y front (back ++ rest) m in
          (ap (mark kind.Sign (codes ")")) (split front back rest us w) ∙ b.1, λ empty. b.2 (front_nil front back (sym empty ∙ w)))

  -- parameters and their `)` are read behind a `(`
  params_behind : (ps : List Param) (us rest : List Lexeme) → (Sign (codes "(") then (MaybeListed (ParamOf E) ps then Sign (codes ")"))) us → length us < n → Fit us → behind kind.Sign (codes "(") (params_in e t) (us ++ rest) ≡ Some (ps, rest)
  params_behind ps us rest h l f =
      let short = first_within n (MaybeListed (ParamOf E) ps) (Sign (codes ")")) (MaybeListed (Short n (ParamOf E)) ps) (maybe_listed_within n (ParamOf E) (Short n (ParamOf E)) (λ p vs k a. (a, k)) ps) h.back (back_short n us h.front h.back h.whole l) h.second in
      ap (behind kind.Sign (codes "(") (params_in e t)) (split h.front h.back rest us h.whole)
      ∙ ap (λ r. r >>= λ o. params_in e t o.1) (mark_here kind.Sign (codes "(") h.front (h.back ++ rest) h.first)
      ∙ maybe_row_read (codes ")") paren_closes (param_with e t) (Short n (ParamOf E)) EndsParam param_read (λ at rest. (omega arith, refl)) (λ at rest. (omega arith, refl))
      (λ p us a. some_long us (param_first p us [] a.0).1) (λ p us rest a. (param_first p us rest a.0).0) ps (length (h.back ++ rest) + 1) h.back rest short (fits_second h.front h.back h.whole f) (omega (arith, length-append h.back rest))

  -- parameters in brackets are read
  params_there : (ps : List Param) (us rest : List Lexeme) → (Sign (codes "(") then (MaybeListed (ParamOf E) ps then Sign (codes ")"))) us → length us < n → Fit us → params_with e t (us ++ rest) ≡ Some (ps, rest)
  params_there ps us rest h l f =
      ap (λ v. cond v (behind kind.Sign (codes "(") (params_in e t) (us ++ rest)) (Some ([], us ++ rest))) (begins_here kind.Sign (codes "(") (MaybeListed (ParamOf E) ps then Sign (codes ")")) us rest h)
      ∙ params_behind ps us rest h l f

  -- parameters in brackets, or nothing, are read
  params_read : ReadsBefore NoParams (params_with e t) (Short n (ParamsOf E))
  params_read [] us rest (inl none, l) f q =
      ap (λ u. params_with e t (u ++ rest)) none ∙ ap (λ v. cond v (behind kind.Sign (codes "(") (params_in e t) rest) (Some ([], rest))) q
  params_read [] us rest (inr h, l) f q =
      params_there [] us rest (record { front = h.front; back = h.back; first = h.first; second = record { front = []; back = h.back; first = refl; second = h.second; whole = refl }; whole = h.whole }) l f
  params_read (p ∷ ps) us rest (h, l) f q = params_there (p ∷ ps) us rest h l f

  -- ---- definitions

  -- what holds before a `{` holds before a block
  block_first : (G : Phrase) → ((at : ℕ) (more : List Lexeme) → G (record { kind = kind.Sign; text = codes "{"; at = at } ∷ more)) → (ys : List Stmt) (us rest : List Lexeme) → BlockOf S ys us → G (us ++ rest)
  block_first G g ys us rest h = by_first kind.Sign (codes "{") (Statements S ys then Sign (codes "}")) G g us rest h

  -- no parameters stand first in a parent and a block
  parent_first : (p : Option (List ℕ) × List Stmt) (us rest : List Lexeme) → (ParentOf p.0 then BlockOf S p.1) us → NoParams (us ++ rest)
  parent_first (None, ys) us rest h = subst (λ u. NoParams (u ++ rest)) (sym (h.whole ∙ ap (λ r. r ++ h.back) h.first)) (block_first NoParams (λ at more. refl) ys h.back rest h.second)
  parent_first (Some name, ys) us rest h = subst NoParams (sym (split h.front h.back rest us h.whole)) (by_first kind.Keyword (codes "inherits") (phrases.Some kind.Word name) NoParams (λ at more. refl) h.front (h.back ++ rest) h.first)

  -- a parent and a block are read
  tail_read : ReadsBefore Always (both parent_with (block_with s)) (λ p. ParentOf p.0 then BlockOf S p.1)
  tail_read = both_read parent_with (block_with s) ParentOf (BlockOf S) NoParent Always parent_read blocks (λ ys us rest b g. block_first NoParent (λ at more. refl) ys us rest b)

  -- a class behind `class`: its name, parameters, parent and block
  abbrev ClassTail : List ℕ × (List Param × (Option (List ℕ) × List Stmt)) → Phrase
  ClassTail p = phrases.Some kind.Word p.0 then (Short n (ParamsOf E) p.1.0 then (ParentOf p.1.1.0 then BlockOf S p.1.1.1))

  -- a class behind `class` is read
  class_tail : ReadsBefore Always (both (taken word_by) (both (params_with e t) (both parent_with (block_with s)))) ClassTail
  class_tail =
      both_read (taken word_by) (both (params_with e t) (both parent_with (block_with s))) (phrases.Some kind.Word) (λ p. Short n (ParamsOf E) p.0 then (ParentOf p.1.0 then BlockOf S p.1.1)) Always Always word_read
      (both_read (params_with e t) (both parent_with (block_with s)) (Short n (ParamsOf E)) (λ p. ParentOf p.0 then BlockOf S p.1) NoParams Always params_read tail_read (λ p us rest b g. parent_first p us rest b)) (λ p us rest b g. tt)

  -- a class with a name goes on with a word
  keyed_class : (name : List ℕ) (B : Phrase) (us rest : List Lexeme) → (Keyword (codes "class") then (phrases.Some kind.Word name then B)) us → item_with e t s (us ++ rest) ≡ class_with e t s (us ++ rest)
  keyed_class name B us rest h =
      let w : us ++ rest ≡ record { kind = kind.Keyword; text = codes "class"; at = h.first.0 } ∷ (record { kind = kind.Word; text = name; at = h.second.first.0 } ∷ (h.second.back ++ rest)) =
      first_of kind.Keyword (codes "class") (phrases.Some kind.Word name then B) us rest h ∙ ap (λ r. record { kind = kind.Keyword; text = codes "class"; at = h.first.0 } ∷ r) (first_of kind.Word name B h.back rest h.second) in
      ap (item_with e t s) w ∙ ap (class_with e t s) (sym w)

  -- a class is read as an item
  class_read : (at : ℕ) (p : List ℕ × (List Param × (Option (List ℕ) × List Stmt))) (us rest : List Lexeme)
      → (phrases.Token kind.Keyword (codes "class") at then (phrases.Some kind.Word p.0 then (ParamsOf E p.1.0 then (ParentOf p.1.1.0 then BlockOf S p.1.1.1)))) us → length us < n → Fit us → item_with e t s (us ++ rest) ≡ Some (class_of at p, rest)
  class_read at p us rest h l f =
      let B : Phrase = ParamsOf E p.1.0 then (ParentOf p.1.1.0 then BlockOf S p.1.1.1) in
      let k = placeless kind.Keyword (codes "class") at (phrases.Some kind.Word p.0 then B) us h in
      let short : (Keyword (codes "class") then ClassTail p) us = second_within n (Keyword (codes "class")) (phrases.Some kind.Word p.0 then B) (ClassTail p)
      (second_within n (phrases.Some kind.Word p.0) B (Short n (ParamsOf E) p.1.0 then (ParentOf p.1.1.0 then BlockOf S p.1.1.1)) (first_within n (ParamsOf E p.1.0) (ParentOf p.1.1.0 then BlockOf S p.1.1.1) (Short n (ParamsOf E) p.1.0) (λ vs m a. (a, m)))) us l k in
      keyed_class p.0 B us rest k
      ∙ placed_read class_of (behind kind.Keyword (codes "class") (both (taken word_by) (both (params_with e t) (both parent_with (block_with s))))) (λ p. Keyword (codes "class") then ClassTail p) Always
      (behind_read (both (taken word_by) (both (params_with e t) (both parent_with (block_with s)))) ClassTail Always class_tail kind.Keyword (codes "class")) p (class_of at p) us rest short f tt
      (token_solid kind.Keyword (codes "class") (phrases.Some kind.Word p.0 then B) us k) (ap (λ a. class_of a p) (place_is kind.Keyword (codes "class") at (phrases.Some kind.Word p.0 then B) us h))

  -- a defined type behind `define`: its name, parameters and block
  abbrev DefineTail : List ℕ × (List Param × List Stmt) → Phrase
  DefineTail p = phrases.Some kind.Word p.0 then (Short n (ParamsOf E) p.1.0 then BlockOf S p.1.1)

  -- a defined type behind `define` is read
  define_tail : ReadsBefore Always (both (taken word_by) (both (params_with e t) (block_with s))) DefineTail
  define_tail =
      both_read (taken word_by) (both (params_with e t) (block_with s)) (phrases.Some kind.Word) (λ p. Short n (ParamsOf E) p.0 then BlockOf S p.1) Always Always word_read
      (both_read (params_with e t) (block_with s) (Short n (ParamsOf E)) (BlockOf S) NoParams Always params_read blocks (λ ys us rest b g. block_first NoParams (λ at more. refl) ys us rest b)) (λ p us rest b g. tt)

  -- what begins with `define` is read as a defined type
  keyed_define : (B : Phrase) (us rest : List Lexeme) → (Keyword (codes "define") then B) us → item_with e t s (us ++ rest) ≡ define_with e t s (us ++ rest)
  keyed_define B us rest h = let w = first_of kind.Keyword (codes "define") B us rest h in ap (item_with e t s) w ∙ ap (define_with e t s) (sym w)

  -- a defined type is read as an item
  define_read : (at : ℕ) (p : List ℕ × (List Param × List Stmt)) (us rest : List Lexeme)
      → (phrases.Token kind.Keyword (codes "define") at then (phrases.Some kind.Word p.0 then (ParamsOf E p.1.0 then BlockOf S p.1.1))) us → length us < n → Fit us → item_with e t s (us ++ rest) ≡ Some (define_of at p, rest)
  define_read at p us rest h l f =
      let B : Phrase = phrases.Some kind.Word p.0 then (ParamsOf E p.1.0 then BlockOf S p.1.1) in
      let k = placeless kind.Keyword (codes "define") at B us h in
      let short : (Keyword (codes "define") then DefineTail p) us = second_within n (Keyword (codes "define")) B (DefineTail p)
      (second_within n (phrases.Some kind.Word p.0) (ParamsOf E p.1.0 then BlockOf S p.1.1) (Short n (ParamsOf E) p.1.0 then BlockOf S p.1.1) (first_within n (ParamsOf E p.1.0) (BlockOf S p.1.1) (Short n (ParamsOf E) p.1.0) (λ vs m a. (a, m)))) us l k in
      keyed_define B us rest k
      ∙ placed_read define_of (behind kind.Keyword (codes "define") (both (taken word_by) (both (params_with e t) (block_with s)))) (λ p. Keyword (codes "define") then DefineTail p) Always
      (behind_read (both (taken word_by) (both (params_with e t) (block_with s))) DefineTail Always define_tail kind.Keyword (codes "define")) p (define_of at p) us rest short f tt
      (token_solid kind.Keyword (codes "define") B us k) (ap (λ a. define_of a p) (place_is kind.Keyword (codes "define") at B us h))

  -- ---- nodes

  -- the name of a node is read
  node_name_read : ReadsBefore Always (node_name_with e) (NodeNameOf E)
  node_name_read o us rest (grammar.NodeNameOf.default y k) f q = ap (λ u. node_name_with e (u ++ rest)) k.1 ∙ ap (λ z. Some (z, rest)) (sym y)
  node_name_read o us rest (grammar.NodeNameOf.word name y k) f q = ap (λ u. node_name_with e (u ++ rest)) k.1 ∙ ap (λ z. Some (z, rest)) (sym y)
  node_name_read o us rest (grammar.NodeNameOf.text name x y h is) f q =
      (string_begins x us rest h).0
      ∙ ap (λ r. r >>= λ x. text_of x.0.form >>= λ m. Some (Some m, x.1)) (strings x us rest h f tt)
      ∙ ap (λ (g : Form). text_of g >>= λ m. Some (Some m, rest)) is ∙ ap (λ z. Some (z, rest)) (sym y)

  -- it has a token, and no block begins with it
  name_first : (o : Option (List ℕ)) (us rest : List Lexeme) → NodeNameOf E o us → (unopened (us ++ rest) ≡ true) × (us ≢ [])
  name_first o us rest (grammar.NodeNameOf.default y k) = (ap (λ u. unopened (u ++ rest)) k.1, λ empty. cc)
  name_first o us rest (grammar.NodeNameOf.word name y k) = (ap (λ u. unopened (u ++ rest)) k.1, λ empty. cc)
  name_first o us rest (grammar.NodeNameOf.text name x y h is) = let b = string_begins x us rest h in (b.1, b.2)

  -- the block of a node stands first
  abbrev Opening : Phrase
  Opening rest = (at : ℕ) × (more : List Lexeme) × (rest ≡ record { kind = kind.Sign; text = codes "{"; at = at } ∷ more)

  -- the names of a node are names with commas between them
  names_are : (xs : List (Option (List ℕ))) (us : List Lexeme) → Listed (NodeNameOf E) xs us → ListedBy (codes ",") (NodeNameOf E) xs us
  names_are [] us h = absurd h.first
  names_are (x ∷ xs) us h = h

  -- no block begins with them
  names_first : (xs : List (Option (List ℕ))) (us rest : List Lexeme) → Listed (NodeNameOf E) xs us → unopened (us ++ rest) ≡ true
  names_first [] us rest h = absurd h.first
  names_first (x ∷ xs) us rest h =
      ap unopened (split h.front h.back rest us h.whole ∙ split h.first.front h.first.back (h.back ++ rest) h.front h.first.whole) ∙ (name_first x h.first.front (h.first.back ++ (h.back ++ rest)) h.first.first).0

  -- the names of a node are read, before its block
  names_read : ReadsBefore Opening (node_names_with e) (Listed (NodeNameOf E))
  names_read xs us rest h f q =
      ap (λ v. cond v (listed (codes ",") unopened (node_name_with e) (length (us ++ rest) + 1) (us ++ rest)) None) (names_first xs us rest h)
      ∙ listed_read (codes ",") unopened (node_name_with e) (NodeNameOf E) Opening Always node_name_read (λ x us rest a. (name_first x us rest a).0) (λ x us a. (name_first x us [] a).1) (λ us rest a. tt)
      (λ rest o. ap unopened o.2) (λ rest o. ap (mark kind.Sign (codes ",")) o.2) (λ rest o. tt) xs (length (us ++ rest) + 1) us rest (names_are xs us h) f q (omega (arith, length-append us rest))

  -- a node behind `node` is read
  node_tail : ReadsBefore Always (both (node_names_with e) (block_with s)) (λ p. Listed (NodeNameOf E) p.0 then BlockOf S p.1)
  node_tail = both_read (node_names_with e) (block_with s) (Listed (NodeNameOf E)) (BlockOf S) Opening Always names_read blocks
      (λ ys us rest b g. (b.first.0, b.back ++ rest, first_of kind.Sign (codes "{") (Statements S ys then Sign (codes "}")) us rest b))

  -- what begins with `node` is read as a node
  keyed_node : (B : Phrase) (us rest : List Lexeme) → (Keyword (codes "node") then B) us → item_with e t s (us ++ rest) ≡ node_with e s (us ++ rest)
  keyed_node B us rest h = let w = first_of kind.Keyword (codes "node") B us rest h in ap (item_with e t s) w ∙ ap (node_with e s) (sym w)

  -- a node is read as an item
  node_read : (at : ℕ) (p : List (Option (List ℕ)) × List Stmt) (us rest : List Lexeme) → (phrases.Token kind.Keyword (codes "node") at then (Listed (NodeNameOf E) p.0 then BlockOf S p.1)) us → Fit us → item_with e t s (us ++ rest) ≡ Some (node_of at p, rest)
  node_read at p us rest h f =
      let B : Phrase = Listed (NodeNameOf E) p.0 then BlockOf S p.1 in
      let k = placeless kind.Keyword (codes "node") at B us h in
      keyed_node B us rest k
      ∙ placed_read node_of (behind kind.Keyword (codes "node") (both (node_names_with e) (block_with s))) (λ p. Keyword (codes "node") then (Listed (NodeNameOf E) p.0 then BlockOf S p.1)) Always
      (behind_read (both (node_names_with e) (block_with s)) (λ p. Listed (NodeNameOf E) p.0 then BlockOf S p.1) Always node_tail kind.Keyword (codes "node")) p (node_of at p) us rest k f tt
      (token_solid kind.Keyword (codes "node") B us k) (ap (λ a. node_of a p) (place_is kind.Keyword (codes "node") at B us h))

  -- ---- items

  -- a type's name with a `{` behind it is read as defaults
  keyed_defaults : (name : List ℕ) (B : Phrase) (us rest : List Lexeme) → (phrases.Some kind.Ref name then (Sign (codes "{") then B)) us → item_with e t s (us ++ rest) ≡ defaults_with e (us ++ rest)
  keyed_defaults name B us rest h =
      let w : us ++ rest ≡ record { kind = kind.Ref; text = name; at = h.first.0 } ∷ (record { kind = kind.Sign; text = codes "{"; at = h.second.first.0 } ∷ (h.second.back ++ rest)) =
      first_of kind.Ref name (Sign (codes "{") then B) us rest h ∙ ap (λ r. record { kind = kind.Ref; text = name; at = h.first.0 } ∷ r) (first_of kind.Sign (codes "{") B h.back rest h.second) in
      ap (item_with e t s) w ∙ ap (defaults_with e) (sym w)

  -- defaults of a type are read as an item
  defaults_read : (at : ℕ) (p : List ℕ × List Attr) (us rest : List Lexeme) → (phrases.Token kind.Ref p.0 at then InBraces (MaybeListed (AttrOf E) p.1)) us → Fit us → item_with e t s (us ++ rest) ≡ Some (defaults_of at p, rest)
  defaults_read at p us rest h f =
      let B : Phrase = InBraces (MaybeListed (AttrOf E) p.1) in
      let k = placeless kind.Ref p.0 at B us h in
      keyed_defaults p.0 (MaybeListed (AttrOf E) p.1 then Sign (codes "}")) us rest k
      ∙ placed_read defaults_of (both (taken ref_by) (attributes_with e)) (λ p. phrases.Some kind.Ref p.0 then InBraces (MaybeListed (AttrOf E) p.1)) Always
      (both_read (taken ref_by) (attributes_with e) (phrases.Some kind.Ref) (λ ys. InBraces (MaybeListed (AttrOf E) ys)) Always Always ref_read attributes (λ y us rest b g. tt)) p (defaults_of at p) us rest k f tt
      (token_solid kind.Ref p.0 B us k) (ap (λ a. defaults_of a p) (place_is kind.Ref p.0 at B us h))

  -- an item is read, before anything that doesn't go on with it
  item_read : ReadsBefore NothingFollows (item_with e t s) (Short n (ItemOf E S))
  item_read y us rest (grammar.ItemOf.class at name params parent body p h, l) f q = class_read at (name, (params, (parent, body))) us rest h l f ∙ ap (λ z. Some (z, rest)) (sym p)
  item_read y us rest (grammar.ItemOf.define at name params body p h, l) f q = define_read at (name, (params, body)) us rest h l f ∙ ap (λ z. Some (z, rest)) (sym p)
  item_read y us rest (grammar.ItemOf.node at names body p h, l) f q = node_read at (names, body) us rest h f ∙ ap (λ z. Some (z, rest)) (sym p)
  item_read y us rest (grammar.ItemOf.defaults at name attrs p h, l) f q = defaults_read at (name, attrs) us rest h f ∙ ap (λ z. Some (z, rest)) (sym p)
  item_read y us rest (grammar.ItemOf.plain z p h, l) f q = stays z us rest h ∙ shaped_read item.Plain s S NothingFollows inner z y us rest h f q (sym p)

  -- an item has a token, and what begins it goes on behind no other
  item_first : (y : Item) (us rest : List Lexeme) → ItemOf E S y us → NothingFollows (us ++ rest) × (us ≢ [])
  item_first y us rest (grammar.ItemOf.class at name params parent body p h) =
      let k = placeless kind.Keyword (codes "class") at (phrases.Some kind.Word name then (ParamsOf E params then (ParentOf parent then BlockOf S body))) us h in (
        by_first kind.Keyword (codes "class") (phrases.Some kind.Word name then (ParamsOf E params then (ParentOf parent then BlockOf S body))) NothingFollows (λ at more. record { no_operator = refl; no_arrow = refl; no_comma = refl; no_elsif = refl; no_else = refl }) us rest k,
        token_solid kind.Keyword (codes "class") (phrases.Some kind.Word name then (ParamsOf E params then (ParentOf parent then BlockOf S body))) us k,
      )
  item_first y us rest (grammar.ItemOf.define at name params body p h) =
      let k = placeless kind.Keyword (codes "define") at (phrases.Some kind.Word name then (ParamsOf E params then BlockOf S body)) us h in (
        by_first kind.Keyword (codes "define") (phrases.Some kind.Word name then (ParamsOf E params then BlockOf S body)) NothingFollows (λ at more. record { no_operator = refl; no_arrow = refl; no_comma = refl; no_elsif = refl; no_else = refl }) us rest k,
        token_solid kind.Keyword (codes "define") (phrases.Some kind.Word name then (ParamsOf E params then BlockOf S body)) us k,
      )
  item_first y us rest (grammar.ItemOf.node at names body p h) =
      let k = placeless kind.Keyword (codes "node") at (Listed (NodeNameOf E) names then BlockOf S body) us h in (
        by_first kind.Keyword (codes "node") (Listed (NodeNameOf E) names then BlockOf S body) NothingFollows (λ at more. record { no_operator = refl; no_arrow = refl; no_comma = refl; no_elsif = refl; no_else = refl }) us rest k,
        token_solid kind.Keyword (codes "node") (Listed (NodeNameOf E) names then BlockOf S body) us k,
      )
  item_first y us rest (grammar.ItemOf.defaults at name attrs p h) =
      let k = placeless kind.Ref name at (InBraces (MaybeListed (AttrOf E) attrs)) us h in (
        by_first kind.Ref name (InBraces (MaybeListed (AttrOf E) attrs)) NothingFollows (λ at more. record { no_operator = refl; no_arrow = refl; no_comma = refl; no_elsif = refl; no_else = refl }) us rest k,
        token_solid kind.Ref name (InBraces (MaybeListed (AttrOf E) attrs)) us k,
      )
  item_first y us rest (grammar.ItemOf.plain z p h) = (nothing_follows (us ++ rest) (leads_more us rest (leads z us h)), leads_some us (leads z us h))

  -- where a token stands, the test finds one
  some_here : (us rest : List Lexeme) → us ≢ [] → has_token (us ++ rest) ≡ true
  some_here [] rest some = absurd (some refl)
  some_here (t ∷ us) rest some = refl

  -- at the end nothing follows
  nothing_at_end : NothingFollows []
  nothing_at_end = record { no_operator = refl; no_arrow = refl; no_comma = refl; no_elsif = refl; no_else = refl }

  -- items of few tokens are the first and the others, of few tokens each
  items_next : (x : Item) (xs : List Item) (us : List Lexeme) → Short n (Items E S) (x ∷ xs) us → (Short n (ItemOf E S) x then Short n (Items E S) xs) us
  items_next x xs us h = record {
    front = h.0.front;
    back = h.0.back;
    first = (h.0.first, front_short n us h.0.front h.0.back h.0.whole h.1);
    second = (h.0.second, back_short n us h.0.front h.0.back h.0.whole h.1);
    whole = h.0.whole;
  }

  -- items are read to the end, where they have few tokens
  pub items_read : (ys : List Item) (us : List Lexeme) → Items E S ys us → length us < n → Fit us → items_with e t s us ≡ Some (ys, [])
  items_read ys us h l f =
      ap (items_with e t s) (sym (append-nil us))
      ∙ many_read has_token (item_with e t s) (Short n (ItemOf E S)) (Short n (Items E S)) (λ rest. rest ≡ []) NothingFollows item_read
      (λ y us rest a. some_here us rest (item_first y us rest a.0).1) (λ y us a. (item_first y us [] a.0).1) (λ y us rest a. (item_first y us rest a.0).0)
      (λ rest e. ap has_token e) (λ rest e. subst NothingFollows (sym e) nothing_at_end) (λ us a. a.0) items_next ys (length (us ++ []) + 1) us [] (h, l) f refl (omega (arith, length-append us []))
