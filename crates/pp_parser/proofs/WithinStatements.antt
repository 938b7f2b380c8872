-- Rules of statements and items that agree on short lists of tokens make rules that agree on lists one token longer.
use Rattle.std.proofs.Common.{◌≡◌, ℕ, zero, suc, ◌+◌, List, [], ◌∷◌, length, subst, arith}
use Rattle.std.specs.Prelude.{codes, Option}
use Rattle.std.specs.Prelude as prelude
use Rattle.pp_syntax.specs.declared.token.Kind.TheVariants as kind
use Rattle.pp_syntax.specs.declared.tree.Expr.{Expr}
use Rattle.pp_syntax.specs.declared.tree.Attr.{Attr}
use Rattle.pp_syntax.specs.declared.tree.Body.{Body}
use Rattle.pp_syntax.specs.declared.tree.Search.{Search}
use Rattle.pp_syntax.specs.declared.tree.Operand.{Operand}
use Rattle.pp_syntax.specs.declared.tree.Arrow.{Arrow}
use Rattle.pp_syntax.specs.declared.tree.Stmt.{Stmt}
use Rattle.pp_syntax.specs.declared.tree.Arm.{Arm, out-Arm}
use Rattle.pp_syntax.specs.declared.tree.CaseArm.{CaseArm, out-CaseArm}
use Rattle.pp_syntax.specs.declared.tree.TypeName.{TypeName}
use Rattle.pp_syntax.specs.declared.tree.Param.{Param}
use Rattle.pp_syntax.specs.declared.tree.Item.{Item}
use Rattle.pp_syntax.specs.Tokens.{Lexeme}
use Rattle.pp_syntax.specs.Phrases.{◌then◌, Maybe, Each, Separated, Listed, MaybeListed, Sign, Keyword, Tight, Loose}
use Rattle.pp_syntax.specs.Phrases as phrase
use Rattle.pp_syntax.specs.Derivation.{OptionOf, PostfixOf, ReferenceOf, IsExpr, IsExprAt}
use Rattle.pp_syntax.specs.Statements as rule
use Rattle.pp_parser.proofs.Within.{Phrase, few_brackets, Within, then_within, second_within, first_within, weaker, some_token, token_then, maybe_within, each_within, separated_within, listed_within, maybe_listed_within, string_within, option_within, reference_within, postfix_within}

-- ---- types of parameters

module _ (n : ℕ) (S T : TypeName → List Lexeme → Type 0) (f : (y : TypeName) → Within n (S y) (T y)) where
  -- behind a type's name and a bracket, rules that agree on short lists do so on lists one token longer
  bracketed_within : (name : List ℕ) (A B : Phrase) → Within n A B → Within (suc n) (rule.TypeWord name then Tight then A then Sign (codes "]")) (rule.TypeWord name then Tight then B then Sign (codes "]"))
  bracketed_within name A B g = token_then n (rule.TypeWord name) (Tight then A then Sign (codes "]")) (Tight then B then Sign (codes "]")) (some_token kind.Ref name)
      (second_within n Tight (A then Sign (codes "]")) (B then Sign (codes "]")) (first_within n A (Sign (codes "]")) B g))

  -- so do rules of types, for types with them in brackets
  type_within : (y : TypeName) → Within (suc n) (rule.TypeOf S y) (rule.TypeOf T y)
  type_within y us l (rule.any e h) = rule.any e h
  type_within y us l (rule.boolean e h) = rule.boolean e h
  type_within y us l (rule.hash e h) = rule.hash e h
  type_within y us l (rule.text least most e h) = rule.text least most e h
  type_within y us l (rule.number least most e h) = rule.number least most e h
  type_within y us l (rule.array e h) = rule.array e h
  type_within y us l (rule.array_of member e h) = rule.array_of member e (bracketed_within (codes "Array") (S member) (T member) (f member) us l h)
  type_within y us l (rule.optional member e h) = rule.optional member e (bracketed_within (codes "Optional") (S member) (T member) (f member) us l h)
  type_within y us l (rule.enum texts e h) = rule.enum texts e h
  type_within y us l (rule.variant members e h) = rule.variant members e (bracketed_within (codes "Variant") (Listed S members) (Listed T members) (listed_within n S T f members) us l h)

-- types aren't nested deeper than they have tokens
pub few_types : (n m : ℕ) (y : TypeName) → Within n (rule.IsTypeAt m y) (rule.IsTypeAt n y)
few_types zero m y us l h = absurd (omega arith)
few_types (suc n) zero y us l h = absurd h
few_types (suc n) (suc m) y us l h = type_within n (rule.IsTypeAt m) (rule.IsTypeAt n) (λ z. few_types n m z) y us l h

-- ---- what expressions stand in

module _ (n : ℕ) (E F : Expr → List Lexeme → Type 0) (f : (y : Expr) → Within (suc n) (E y) (F y)) where
  -- where two rules of expressions agree, they do so for attributes
  attr_within : (a : Attr) → Within (suc n) (rule.AttrOf E a) (rule.AttrOf F a)
  attr_within a us l h = (
    h.0,
    second_within (suc n) (rule.NameOf a.name) (Sign (codes "=>") then E a.value) (Sign (codes "=>") then F a.value)
        (second_within (suc n) (Sign (codes "=>")) (E a.value) (F a.value) (f a.value)) us l h.1,
  )

  -- and for bodies
  body_within : (b : Body) → Within (suc n) (rule.BodyOf E b) (rule.BodyOf F b)
  body_within b = then_within (suc n) (E b.title) (Sign (codes ":") then MaybeListed (rule.AttrOf E) b.attrs) (F b.title) (Sign (codes ":") then MaybeListed (rule.AttrOf F) b.attrs) (f b.title)
      (second_within (suc n) (Sign (codes ":")) (MaybeListed (rule.AttrOf E) b.attrs) (MaybeListed (rule.AttrOf F) b.attrs) (maybe_listed_within (suc n) (rule.AttrOf E) (rule.AttrOf F) attr_within b.attrs))

  -- two rules that agree do so in braces
  braces_within : (A B : Phrase) → Within (suc n) A B → Within (suc n) (rule.InBraces A) (rule.InBraces B)
  braces_within A B g = second_within (suc n) (Sign (codes "{")) (A then Sign (codes "}")) (B then Sign (codes "}")) (first_within (suc n) A (Sign (codes "}")) B g)

  -- rules of expressions that agree do so for bodies with `;` between them
  bodies_within : (bs : List Body) → Within (suc n) (rule.BodiesOf E bs) (rule.BodiesOf F bs)
  bodies_within bs = first_within (suc n) (Separated (Sign (codes ";")) (rule.BodyOf E) bs) (Maybe (Sign (codes ";"))) (Separated (Sign (codes ";")) (rule.BodyOf F) bs)
      (separated_within (suc n) (rule.BodyOf E) (rule.BodyOf F) body_within (Sign (codes ";")) bs)

  -- and for an operand with indexes and selections
  value_within : (y : Expr) → Within (suc n) (PostfixOf E y) (PostfixOf F y)
  value_within y = postfix_within n E F (λ z. weaker n (E z) (F z) (f z)) y

  -- and for references
  referred_within : (y : Expr) → Within (suc n) (ReferenceOf E y) (ReferenceOf F y)
  referred_within y = reference_within n E F (λ z. weaker n (E z) (F z) (f z)) y

  module _ (S T : Search → List Lexeme → Type 0) (g : (y : Search) → Within (suc n) (S y) (T y)) where
    -- two rules of searches that agree, too, do so for atoms
    atom_within : (y : Search) → Within (suc n) (rule.AtomOf E S y) (rule.AtomOf F T y)
    atom_within y us l (rule.equal name value e h) = rule.equal name value e
        (second_within (suc n) (rule.NameOf name) (Sign (codes "==") then PostfixOf E value) (Sign (codes "==") then PostfixOf F value)
        (second_within (suc n) (Sign (codes "==")) (PostfixOf E value) (PostfixOf F value) (value_within value)) us l h)
    atom_within y us l (rule.differ name value e h) = rule.differ name value e
        (second_within (suc n) (rule.NameOf name) (Sign (codes "!=") then PostfixOf E value) (Sign (codes "!=") then PostfixOf F value)
        (second_within (suc n) (Sign (codes "!=")) (PostfixOf E value) (PostfixOf F value) (value_within value)) us l h)
    atom_within y us l (rule.AtomOf.enclosed h) = rule.AtomOf.enclosed
        (second_within (suc n) (Sign (codes "(")) (S y then Sign (codes ")")) (T y then Sign (codes ")")) (first_within (suc n) (S y) (Sign (codes ")")) (T y) (g y)) us l h)

    -- and for conjunctions
    conjunction_within : (y : Search) → Within (suc n) (rule.ConjunctionOf E S y) (rule.ConjunctionOf F T y)
    conjunction_within y us l (rule.atom h) = rule.atom (atom_within y us l h)
    conjunction_within y us l (rule.ConjunctionOf.conjunction first second more e h) = rule.ConjunctionOf.conjunction first second more e
        (separated_within (suc n) (rule.AtomOf E S) (rule.AtomOf F T) atom_within (Keyword (codes "and")) (first ∷ second ∷ more) us l h)

    -- and for searches
    search_within : (y : Search) → Within (suc n) (rule.SearchOf E S y) (rule.SearchOf F T y)
    search_within y us l (rule.SearchOf.conjunction h) = rule.SearchOf.conjunction (conjunction_within y us l h)
    search_within y us l (rule.SearchOf.disjunction first second more e h) = rule.SearchOf.disjunction first second more e
        (separated_within (suc n) (rule.ConjunctionOf E S) (rule.ConjunctionOf F T) conjunction_within (Keyword (codes "or")) (first ∷ second ∷ more) us l h)

  -- rules of expressions that agree do so for searches of each depth
  search_at_within : (depth : ℕ) (y : Search) → Within (suc n) (rule.IsSearchAt E depth y) (rule.IsSearchAt F depth y)
  search_at_within zero y us l h = h
  search_at_within (suc depth) y us l h = search_within (rule.IsSearchAt E depth) (rule.IsSearchAt F depth) (search_at_within depth) y us l h

  -- and for a search, or none
  sought_within : (s : Option Search) → Within (suc n) (rule.MaybeSearch E s) (rule.MaybeSearch F s)
  sought_within prelude.None us l h = h
  sought_within (prelude.Some y) us l h = (h.0, search_at_within h.0 y us l h.1)

  -- and for operands of a chain
  operand_within : (y : Operand) → Within (suc n) (rule.OperandOf E y) (rule.OperandOf F y)
  operand_within y us l (rule.OperandOf.resource at virtual name bs e here named h) = rule.OperandOf.resource at virtual name bs e here named
      (second_within (suc n) (rule.Virtual virtual) (phrase.Some kind.Word name then rule.InBraces (rule.BodiesOf E bs)) (phrase.Some kind.Word name then rule.InBraces (rule.BodiesOf F bs))
      (second_within (suc n) (phrase.Some kind.Word name) (rule.InBraces (rule.BodiesOf E bs)) (rule.InBraces (rule.BodiesOf F bs)) (braces_within (rule.BodiesOf E bs) (rule.BodiesOf F bs) (bodies_within bs))) us l h)
  operand_within y us l (rule.OperandOf.class at bs e h) = rule.OperandOf.class at bs e
      (second_within (suc n) (phrase.Token kind.Keyword (codes "class") at) (rule.InBraces (rule.BodiesOf E bs)) (rule.InBraces (rule.BodiesOf F bs)) (braces_within (rule.BodiesOf E bs) (rule.BodiesOf F bs) (bodies_within bs)) us l h)
  operand_within y us l (rule.OperandOf.collector at name sought e h) = rule.OperandOf.collector at name sought e
      (second_within (suc n) (phrase.Token kind.Ref name at) (Sign (codes "<|") then rule.MaybeSearch E sought then Sign (codes "|>")) (Sign (codes "<|") then rule.MaybeSearch F sought then Sign (codes "|>"))
      (second_within (suc n) (Sign (codes "<|")) (rule.MaybeSearch E sought then Sign (codes "|>")) (rule.MaybeSearch F sought then Sign (codes "|>"))
      (first_within (suc n) (rule.MaybeSearch E sought) (Sign (codes "|>")) (rule.MaybeSearch F sought) (sought_within sought))) us l h)
  operand_within y us l (rule.OperandOf.reference x e h) = rule.OperandOf.reference x e (referred_within x us l h)
  operand_within y us l (rule.OperandOf.references xs e h) = rule.OperandOf.references xs e
      (second_within (suc n) Loose (Listed (ReferenceOf E) xs then Sign (codes "]")) (Listed (ReferenceOf F) xs then Sign (codes "]"))
      (first_within (suc n) (Listed (ReferenceOf E) xs) (Sign (codes "]")) (Listed (ReferenceOf F) xs) (listed_within (suc n) (ReferenceOf E) (ReferenceOf F) referred_within xs)) us l h)

  -- and for arrows with operands
  links_within : (arrows : List Arrow) (ys : List Operand) → Within (suc n) (rule.Links E arrows ys) (rule.Links F arrows ys)
  links_within [] [] us l h = h
  links_within [] (y ∷ ys) us l h = h
  links_within (a ∷ arrows) [] us l h = h
  links_within (a ∷ arrows) (y ∷ ys) us l h = second_within (suc n) (rule.ArrowOf a) (rule.OperandOf E y then rule.Links E arrows ys) (rule.OperandOf F y then rule.Links F arrows ys)
      (then_within (suc n) (rule.OperandOf E y) (rule.Links E arrows ys) (rule.OperandOf F y) (rule.Links F arrows ys) (operand_within y) (links_within arrows ys)) us l h

  -- and for the arguments of a call
  args_within : (args : List Expr) → Within (suc n) (rule.ArgsOf E args) (rule.ArgsOf F args)
  args_within args us l (rule.bracketed h) = rule.bracketed
      (second_within (suc n) (Sign (codes "(")) (Listed E args then Sign (codes ")")) (Listed F args then Sign (codes ")")) (first_within (suc n) (Listed E args) (Sign (codes ")")) (Listed F args) (listed_within (suc n) E F f args)) us l h)
  args_within args us l (rule.bare h none) = rule.bare (separated_within (suc n) E F f phrase.Comma args us l h) none

  -- and for the default of a parameter
  default_within : (p : Option Expr) → Within (suc n) (rule.DefaultOf E p) (rule.DefaultOf F p)
  default_within prelude.None us l h = h
  default_within (prelude.Some x) us l h = second_within (suc n) (Sign (codes "=")) (E x) (F x) (f x) us l h

  -- and for a parameter
  param_within : (p : Param) → Within (suc n) (rule.ParamOf E p) (rule.ParamOf F p)
  param_within p = second_within (suc n) (rule.MaybeType p.kind) (rule.VariableOf p.name then rule.DefaultOf E p.default) (rule.VariableOf p.name then rule.DefaultOf F p.default)
      (second_within (suc n) (rule.VariableOf p.name) (rule.DefaultOf E p.default) (rule.DefaultOf F p.default) (default_within p.default))

  -- and for parameters
  params_within : (ps : List Param) → Within (suc n) (rule.ParamsOf E ps) (rule.ParamsOf F ps)
  params_within [] us l h = h
  params_within (p ∷ more) us l h = second_within (suc n) (Sign (codes "(")) (Listed (rule.ParamOf E) (p ∷ more) then Sign (codes ")")) (Listed (rule.ParamOf F) (p ∷ more) then Sign (codes ")"))
      (first_within (suc n) (Listed (rule.ParamOf E) (p ∷ more)) (Sign (codes ")")) (Listed (rule.ParamOf F) (p ∷ more)) (listed_within (suc n) (rule.ParamOf E) (rule.ParamOf F) param_within (p ∷ more))) us l h

  -- and for the name of a node
  node_name_within : (o : Option (List ℕ)) → Within (suc n) (rule.NodeNameOf E o) (rule.NodeNameOf F o)
  node_name_within o us l (rule.NodeNameOf.default e h) = rule.NodeNameOf.default e h
  node_name_within o us l (rule.NodeNameOf.word name e h) = rule.NodeNameOf.word name e h
  node_name_within o us l (rule.NodeNameOf.text name x e h is) = rule.NodeNameOf.text name x e (string_within n E F (λ z. weaker n (E z) (F z) (f z)) x us l h) is

  -- ---- statements

  module _ (S T : Stmt → List Lexeme → Type 0) (g : (y : Stmt) → Within n (S y) (T y)) where
    -- two rules of statements that agree on short lists do so for statements one behind the other
    statements_within : (ss : List Stmt) → Within n (rule.Statements S ss) (rule.Statements T ss)
    statements_within [] us l h = h
    statements_within (s ∷ more) us l h = then_within n (S s) (rule.Statements S more) (T s) (rule.Statements T more) (g s) (statements_within more) us l h

    -- for a block they agree on lists one token longer
    block_within : (body : List Stmt) → Within (suc n) (rule.BlockOf S body) (rule.BlockOf T body)
    block_within body = token_then n (Sign (codes "{")) (rule.Statements S body then Sign (codes "}")) (rule.Statements T body then Sign (codes "}")) (some_token kind.Sign (codes "{"))
        (first_within n (rule.Statements S body) (Sign (codes "}")) (rule.Statements T body) (statements_within body))

    -- and for an `else`
    else_within : (other : List Stmt) → Within (suc n) (rule.ElseOf S other) (rule.ElseOf T other)
    else_within [] us l h = maybe_within (suc n) (Keyword (codes "else") then rule.BlockOf S []) (Keyword (codes "else") then rule.BlockOf T [])
        (second_within (suc n) (Keyword (codes "else")) (rule.BlockOf S []) (rule.BlockOf T []) (block_within [])) us l h
    else_within (s ∷ more) us l h = second_within (suc n) (Keyword (codes "else")) (rule.BlockOf S (s ∷ more)) (rule.BlockOf T (s ∷ more)) (block_within (s ∷ more)) us l h

    -- and for a test and its block
    arm_within : (a : Arm) → Within (suc n) (rule.ArmOf E S a) (rule.ArmOf F T a)
    arm_within a = then_within (suc n) (E (out-Arm a).test) (rule.BlockOf S (out-Arm a).body) (F (out-Arm a).test) (rule.BlockOf T (out-Arm a).body) (f (out-Arm a).test) (block_within (out-Arm a).body)

    -- and for an arm of a `case`
    case_arm_within : (a : CaseArm) → Within (suc n) (rule.CaseArmOf E S a) (rule.CaseArmOf F T a)
    case_arm_within a = then_within (suc n) (Listed (OptionOf E) (out-CaseArm a).options) (Sign (codes ":") then rule.BlockOf S (out-CaseArm a).body) (Listed (OptionOf F) (out-CaseArm a).options) (Sign (codes ":") then rule.BlockOf T (out-CaseArm a).body)
        (listed_within (suc n) (OptionOf E) (OptionOf F) (option_within (suc n) E F f) (out-CaseArm a).options)
        (second_within (suc n) (Sign (codes ":")) (rule.BlockOf S (out-CaseArm a).body) (rule.BlockOf T (out-CaseArm a).body) (block_within (out-CaseArm a).body))

    -- and for its arms
    case_arms_within : (arms : List CaseArm) → Within (suc n) (rule.CaseArms E S arms) (rule.CaseArms F T arms)
    case_arms_within [] us l h = h
    case_arms_within (a ∷ more) us l h = then_within (suc n) (rule.CaseArmOf E S a) (rule.CaseArms E S more) (rule.CaseArmOf F T a) (rule.CaseArms F T more) (case_arm_within a) (case_arms_within more) us l h

    -- and for an `if`
    if_within : (at : ℕ) (first : Arm) (others : List Arm) (other : List Stmt)
        → Within (suc n) (phrase.Token kind.Keyword (codes "if") at then rule.ArmOf E S first then Each (Keyword (codes "elsif")) (rule.ArmOf E S) others then rule.ElseOf S other)
        (phrase.Token kind.Keyword (codes "if") at then rule.ArmOf F T first then Each (Keyword (codes "elsif")) (rule.ArmOf F T) others then rule.ElseOf T other)
    if_within at first others other =
        second_within (suc n) (phrase.Token kind.Keyword (codes "if") at) (rule.ArmOf E S first then Each (Keyword (codes "elsif")) (rule.ArmOf E S) others then rule.ElseOf S other)
        (rule.ArmOf F T first then Each (Keyword (codes "elsif")) (rule.ArmOf F T) others then rule.ElseOf T other)
        (then_within (suc n) (rule.ArmOf E S first) (Each (Keyword (codes "elsif")) (rule.ArmOf E S) others then rule.ElseOf S other)
        (rule.ArmOf F T first) (Each (Keyword (codes "elsif")) (rule.ArmOf F T) others then rule.ElseOf T other) (arm_within first)
        (then_within (suc n) (Each (Keyword (codes "elsif")) (rule.ArmOf E S) others) (rule.ElseOf S other) (Each (Keyword (codes "elsif")) (rule.ArmOf F T) others) (rule.ElseOf T other)
        (each_within (suc n) (rule.ArmOf E S) (rule.ArmOf F T) arm_within (Keyword (codes "elsif")) others) (else_within other)))

    -- and for an `unless`
    unless_within : (at : ℕ) (test : Expr) (body other : List Stmt)
        → Within (suc n) (phrase.Token kind.Keyword (codes "unless") at then E test then rule.BlockOf S body then rule.ElseOf S other) (phrase.Token kind.Keyword (codes "unless") at then F test then rule.BlockOf T body then rule.ElseOf T other)
    unless_within at test body other =
        second_within (suc n) (phrase.Token kind.Keyword (codes "unless") at) (E test then rule.BlockOf S body then rule.ElseOf S other) (F test then rule.BlockOf T body then rule.ElseOf T other)
        (then_within (suc n) (E test) (rule.BlockOf S body then rule.ElseOf S other) (F test) (rule.BlockOf T body then rule.ElseOf T other) (f test)
        (then_within (suc n) (rule.BlockOf S body) (rule.ElseOf S other) (rule.BlockOf T body) (rule.ElseOf T other) (block_within body) (else_within other)))

    -- and for a `case`
    case_within : (at : ℕ) (value : Expr) (arms : List CaseArm)
        → Within (suc n) (phrase.Token kind.Keyword (codes "case") at then E value then rule.InBraces (rule.CaseArms E S arms)) (phrase.Token kind.Keyword (codes "case") at then F value then rule.InBraces (rule.CaseArms F T arms))
    case_within at value arms =
        second_within (suc n) (phrase.Token kind.Keyword (codes "case") at) (E value then rule.InBraces (rule.CaseArms E S arms)) (F value then rule.InBraces (rule.CaseArms F T arms))
        (then_within (suc n) (E value) (rule.InBraces (rule.CaseArms E S arms)) (F value) (rule.InBraces (rule.CaseArms F T arms)) (f value) (braces_within (rule.CaseArms E S arms) (rule.CaseArms F T arms) (case_arms_within arms)))

    -- and for a statement
    pub stmt_within : (y : Stmt) → Within (suc n) (rule.StmtOf E S y) (rule.StmtOf F T y)
    stmt_within y us l (rule.chain at first others arrows e here h alone) = rule.chain at first others arrows e here
        (then_within (suc n) (rule.OperandOf E first) (rule.Links E arrows others) (rule.OperandOf F first) (rule.Links F arrows others) (operand_within first) (links_within arrows others) us l h) alone
    stmt_within y us l (rule.assign at name value e here h) = rule.assign at name value e here
        (second_within (suc n) (rule.VariableOf name) (Sign (codes "=") then E value) (Sign (codes "=") then F value) (second_within (suc n) (Sign (codes "=")) (E value) (F value) (f value)) us l h)
    stmt_within y us l (rule.call at k args e h) = rule.call at k args e (second_within (suc n) (phrase.Token kind.Word (rule.word_of k) at) (rule.ArgsOf E args) (rule.ArgsOf F args) (args_within args) us l h)
    stmt_within y us l (rule.if at first others other e h) = rule.if at first others other e (if_within at first others other us l h)
    stmt_within y us l (rule.unless at test body other e h) = rule.unless at test body other e (unless_within at test body other us l h)
    stmt_within y us l (rule.case at value arms e h) = rule.case at value arms e (case_within at value arms us l h)

-- Blocks nest less deep than there are tokens and one more.
pub few_blocks : (n m : ℕ) (E F : Expr → List Lexeme → Type 0) → ((y : Expr) → Within n (E y) (F y)) → (y : Stmt) → Within n (rule.IsStmtAt E m y) (rule.IsStmtAt F n y)
few_blocks zero m E F f y us l h = absurd (omega arith)
few_blocks (suc n) zero E F f y us l h = absurd h
few_blocks (suc n) (suc m) E F f y us l h = stmt_within n E F f (rule.IsStmtAt E m) (rule.IsStmtAt F n) (λ z. few_blocks n m E F (λ x. weaker n (E x) (F x) (f x)) z) y us l h

-- ---- items

module _ (n : ℕ) (E F : Expr → List Lexeme → Type 0) (f : (y : Expr) → Within (suc n) (E y) (F y)) (S T : Stmt → List Lexeme → Type 0) (g : (y : Stmt) → Within (suc n) (S y) (T y)) where
  -- for the block of an item they agree on lists one token longer
  body_block : (body : List Stmt) → Within (suc n) (rule.BlockOf S body) (rule.BlockOf T body)
  body_block body = block_within n E F f S T (λ y. weaker n (S y) (T y) (g y)) body

  -- and for an item
  item_within : (y : Item) → Within (suc n) (rule.ItemOf E S y) (rule.ItemOf F T y)
  item_within y us l (rule.ItemOf.class at name params parent body e h) = rule.ItemOf.class at name params parent body e
      (second_within (suc n) (phrase.Token kind.Keyword (codes "class") at) (phrase.Some kind.Word name then rule.ParamsOf E params then rule.ParentOf parent then rule.BlockOf S body) (phrase.Some kind.Word name then rule.ParamsOf F params then rule.ParentOf parent then rule.BlockOf T body)
      (second_within (suc n) (phrase.Some kind.Word name) (rule.ParamsOf E params then rule.ParentOf parent then rule.BlockOf S body) (rule.ParamsOf F params then rule.ParentOf parent then rule.BlockOf T body)
      (then_within (suc n) (rule.ParamsOf E params) (rule.ParentOf parent then rule.BlockOf S body) (rule.ParamsOf F params) (rule.ParentOf parent then rule.BlockOf T body) (params_within n E F f params)
      (second_within (suc n) (rule.ParentOf parent) (rule.BlockOf S body) (rule.BlockOf T body) (body_block body)))) us l h)
  item_within y us l (rule.ItemOf.define at name params body e h) = rule.ItemOf.define at name params body e
      (second_within (suc n) (phrase.Token kind.Keyword (codes "define") at) (phrase.Some kind.Word name then rule.ParamsOf E params then rule.BlockOf S body) (phrase.Some kind.Word name then rule.ParamsOf F params then rule.BlockOf T body)
      (second_within (suc n) (phrase.Some kind.Word name) (rule.ParamsOf E params then rule.BlockOf S body) (rule.ParamsOf F params then rule.BlockOf T body)
      (then_within (suc n) (rule.ParamsOf E params) (rule.BlockOf S body) (rule.ParamsOf F params) (rule.BlockOf T body) (params_within n E F f params) (body_block body))) us l h)
  item_within y us l (rule.ItemOf.node at names body e h) = rule.ItemOf.node at names body e
      (second_within (suc n) (phrase.Token kind.Keyword (codes "node") at) (Listed (rule.NodeNameOf E) names then rule.BlockOf S body) (Listed (rule.NodeNameOf F) names then rule.BlockOf T body)
      (then_within (suc n) (Listed (rule.NodeNameOf E) names) (rule.BlockOf S body) (Listed (rule.NodeNameOf F) names) (rule.BlockOf T body)
      (listed_within (suc n) (rule.NodeNameOf E) (rule.NodeNameOf F) (node_name_within n E F f) names) (body_block body)) us l h)
  item_within y us l (rule.ItemOf.defaults at name attrs e h) = rule.ItemOf.defaults at name attrs e
      (second_within (suc n) (phrase.Token kind.Ref name at) (rule.InBraces (MaybeListed (rule.AttrOf E) attrs)) (rule.InBraces (MaybeListed (rule.AttrOf F) attrs))
      (braces_within n E F f (MaybeListed (rule.AttrOf E) attrs) (MaybeListed (rule.AttrOf F) attrs) (maybe_listed_within (suc n) (rule.AttrOf E) (rule.AttrOf F) (attr_within n E F f) attrs)) us l h)
  item_within y us l (rule.ItemOf.plain s e h) = rule.ItemOf.plain s e (g s us l h)

  -- and for items
  pub items_within : (ys : List Item) → Within (suc n) (rule.Items E S ys) (rule.Items F T ys)
  items_within [] us l h = h
  items_within (y ∷ more) us l h = then_within (suc n) (rule.ItemOf E S y) (rule.Items E S more) (rule.ItemOf F T y) (rule.Items F T more) (item_within y) (items_within more) us l h

-- What is spelled with brackets at any depth is so with fewer than there are tokens and one more.
pub bounded : (ys : List Item) (depth : ℕ) (us : List Lexeme) → rule.Items IsExpr (rule.IsStmtAt IsExpr depth) ys us
    → rule.Items (IsExprAt (length us + 1)) (rule.IsStmtAt (IsExprAt (length us + 1)) (length us + 1)) ys us
bounded ys depth us h =
    let e : suc (length us) ≡ length us + 1 = omega arith in
    subst (λ (k : ℕ). rule.Items (IsExprAt k) (rule.IsStmtAt (IsExprAt k) k) ys us) e
    (items_within (length us) IsExpr (IsExprAt (suc (length us))) (λ y vs l k. few_brackets (suc (length us)) k.0 y vs l k.1)
    (rule.IsStmtAt IsExpr depth) (rule.IsStmtAt (IsExprAt (suc (length us))) (suc (length us)))
    (λ y. few_blocks (suc (length us)) depth IsExpr (IsExprAt (suc (length us))) (λ z vs l k. few_brackets (suc (length us)) k.0 z vs l k.1) y) ys us (omega arith) h)

-- items with brackets nested to some depth are so with any depth, and blocks less deep than they have tokens
pub unbounded : (ys : List Item) (depth : ℕ) (us : List Lexeme) → rule.Items (IsExprAt depth) (rule.IsStmtAt (IsExprAt depth) depth) ys us → rule.Items IsExpr (rule.IsStmtAt IsExpr (suc (length us))) ys us
unbounded ys depth us h =
    items_within (length us) (IsExprAt depth) IsExpr (λ y vs l k. (depth, k)) (rule.IsStmtAt (IsExprAt depth) depth) (rule.IsStmtAt IsExpr (suc (length us)))
    (λ y. few_blocks (suc (length us)) depth (IsExprAt depth) IsExpr (λ z vs l k. (depth, k)) y) ys us (omega arith) h
