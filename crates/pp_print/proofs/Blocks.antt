-- The words of searches, statements and types, by those of what stands in them.
use Rattle.std.proofs.Common.{◌≡◌, ℕ, List, [], ◌∷◌, ◌++◌, map, refl, sym, ap, ◌∙◌, append_assoc, length, arith}
use Rattle.std.proofs.lemmas.List.{append-nil}
use Rattle.std.specs.Prelude.{ℤ, Option, codes}
use Rattle.std.specs.Prelude as prelude
use Rattle.std.specs.List.{join_by}
use Rattle.pp_syntax.specs.declared.tree.Expr.{Expr}
use Rattle.pp_syntax.specs.declared.tree.Operand.{Operand}
use Rattle.pp_syntax.specs.declared.tree.Arrow.{Arrow}
use Rattle.pp_syntax.specs.declared.tree.Func.{Func}
use Rattle.pp_syntax.specs.declared.tree.Search.{Search, Search-F, fold-roll-Search, roll-Search, map-Search}
use Rattle.pp_syntax.specs.declared.tree.Search.TheOpen as plain_search
use Rattle.pp_syntax.specs.declared.tree.Search.TheVariants as search
use Rattle.pp_syntax.specs.declared.tree.Search.TheVariants.{rolls-Or, rolls-And, rolls-Equal, rolls-Differ}
use Rattle.pp_syntax.specs.declared.tree.Stmt.{Stmt, Stmt-F, fold-roll-Stmt, roll-Stmt, map-Stmt}
use Rattle.pp_syntax.specs.declared.tree.Stmt.TheOpen as plain_stmt
use Rattle.pp_syntax.specs.declared.tree.Stmt.TheVariants as stmt
use Rattle.pp_syntax.specs.declared.tree.Stmt.TheVariants.{rolls-Chain, rolls-Assign, rolls-Call, rolls-If, rolls-Unless, rolls-Case}
use Rattle.pp_syntax.specs.declared.tree.Arm.{Arm, out-Arm, fold-Arm, fold_out-Arm}
use Rattle.pp_syntax.specs.declared.tree.CaseArm.{CaseArm, out-CaseArm, fold-CaseArm, fold_out-CaseArm}
use Rattle.pp_syntax.specs.declared.tree.TypeName.{TypeName, TypeName-F, fold-roll-TypeName, roll-TypeName, map-TypeName}
use Rattle.pp_syntax.specs.declared.tree.TypeName.TheOpen as plain_type
use Rattle.pp_syntax.specs.declared.tree.TypeName.TheVariants as type
use Rattle.pp_syntax.specs.declared.tree.TypeName.TheVariants.{rolls-Any, rolls-Boolean, rolls-Hash, rolls-Str, rolls-Int, rolls-Array, rolls-Optional, rolls-Enum, rolls-Variant}
use Rattle.pp_syntax.specs.declared.tree.TypeName.TheShapes.{former-TypeName-Array-0-at-2}
use Rattle.pp_print.specs.declared.words.Word.{Word}
use Rattle.pp_print.specs.Words.{sign, keyword, comma, listed, in_braces, in_tight}
use Rattle.pp_print.specs.Expressions.{expr_words, option_by}
use Rattle.pp_print.specs.Statements.{Sought, search_by, sought, sought_at, stmt_by, stmt_words, arm_by, arm_words, case_arm_by, case_arm_words, block_by, else_by, links, type_by, type_words, type_word, member_by}
use Rattle.pp_print.proofs.Forms.{flat_mapped, join_mapped}

-- ---- searches

-- the words of a search follow what is put in place of the searches in it
pub search_natural : {A X : Type 0} (f : X → Sought) (h : A → X) (d : Search-F A) → search_by f (map-Search A X h d) ≡ search_by (λ x. f (h x)) d
search_natural f h (plain_search.Or all) = ap (λ (w : List Word). record { words = w; level = 0 }) (join_mapped (λ x. sought_at 1 (f x)) (keyword (codes "or")) h all)
search_natural f h (plain_search.And all) = ap (λ (w : List Word). record { words = w; level = 1 }) (join_mapped (λ x. sought_at 2 (f x)) (keyword (codes "and")) h all)
search_natural f h (plain_search.Equal name value) = refl
search_natural f h (plain_search.Differ name value) = refl

-- the words of a search are those of its first step
pub search_rolled : (d : Search-F Search) → sought (roll-Search d) ≡ search_by sought d
unfolding sought
search_rolled d = fold-roll-Search Sought (search_by (λ p. p)) d ∙ search_natural (λ (p : Sought). p) sought d

-- the words of `or`
pub sought_or : (all : List Search) → sought (search.Or all) ≡ search_by sought (plain_search.Or all)
sought_or all = sym (ap sought (rolls-Or all)) ∙ search_rolled (plain_search.Or all)

-- the words of `and`
pub sought_and : (all : List Search) → sought (search.And all) ≡ search_by sought (plain_search.And all)
sought_and all = sym (ap sought (rolls-And all)) ∙ search_rolled (plain_search.And all)

-- the words of `==`
pub sought_equal : (name : List ℕ) (value : Expr) → sought (search.Equal name value) ≡ search_by sought (plain_search.Equal name value)
sought_equal name value = sym (ap sought (rolls-Equal name value)) ∙ search_rolled (plain_search.Equal name value)

-- the words of `!=`
pub sought_differ : (name : List ℕ) (value : Expr) → sought (search.Differ name value) ≡ search_by sought (plain_search.Differ name value)
sought_differ name value = sym (ap sought (rolls-Differ name value)) ∙ search_rolled (plain_search.Differ name value)

-- the words of all forms of searches
pub ruleset searches = (sought_or, sought_and, sought_equal, sought_differ)

-- ---- statements

-- the words of an `else` follow what is put in place of its statements
else_mapped : {S T : Type 0} (f : T → List Word) (h : S → T) (body : List S) → else_by f (map h body) ≡ else_by (λ x. f (h x)) body
else_mapped f h [] = refl
else_mapped f h (s ∷ more) = ap (λ (w : List Word). keyword (codes "else") ++ in_braces (f (h s) ++ w)) (flat_mapped f h more)

-- so do those of a block
block_mapped : {S T : Type 0} (f : T → List Word) (h : S → T) (body : List S) → block_by f (map h body) ≡ block_by (λ x. f (h x)) body
block_mapped f h body = ap (λ (w : List Word). in_braces w) (flat_mapped f h body)

-- the words of a statement follow what is put in place of what stands in it
pub stmt_natural : {S A C T B D : Type 0} (s : T → List Word) (a : B → List Word) (c : D → List Word) (f : S → T) (g : A → B) (h : C → D) (d : Stmt-F S A C) → stmt_by s a c (map-Stmt S A C T B D f g h d) ≡ stmt_by (λ x. s (f x)) (λ x. a (g x)) (λ x. c (h x)) d
stmt_natural s a c f g h (plain_stmt.Chain at sides arrows) = refl
stmt_natural s a c f g h (plain_stmt.Assign at name value) = refl
stmt_natural s a c f g h (plain_stmt.Call at func args) = refl
stmt_natural s a c f g h (plain_stmt.If at arms other) = ap (λ (w : List Word). keyword (codes "if") ++ (w ++ else_by s (map f other))) (join_mapped a (keyword (codes "elsif")) g arms)
    ∙ ap (λ (w : List Word). keyword (codes "if") ++ (join_by (λ x. a (g x)) (keyword (codes "elsif")) arms ++ w)) (else_mapped s f other)
stmt_natural s a c f g h (plain_stmt.Unless at test body other) = ap (λ (w : List Word). keyword (codes "unless") ++ (expr_words test ++ (w ++ else_by s (map f other)))) (block_mapped s f body)
    ∙ ap (λ (w : List Word). keyword (codes "unless") ++ (expr_words test ++ (block_by (λ x. s (f x)) body ++ w))) (else_mapped s f other)
stmt_natural s a c f g h (plain_stmt.Case at value arms) = ap (λ (w : List Word). keyword (codes "case") ++ (expr_words value ++ in_braces w)) (flat_mapped c h arms)

-- the words of an arm, from the bottom up
arm_folded : Arm → List Word
arm_folded a = fold-Arm (List Word) (List Word) (List Word) (stmt_by (λ w. w) (λ w. w) (λ w. w)) (arm_by (λ w. w)) (case_arm_by (λ w. w)) a

-- the words of an arm of a `case`, from the bottom up
case_arm_folded : CaseArm → List Word
case_arm_folded a = fold-CaseArm (List Word) (List Word) (List Word) (stmt_by (λ w. w) (λ w. w) (λ w. w)) (arm_by (λ w. w)) (case_arm_by (λ w. w)) a

-- those are the words of the arm
arm_is : (a : Arm) → arm_folded a ≡ arm_words a
unfolding arm_folded stmt_words
arm_is a = fold_out-Arm (List Word) (List Word) (List Word) (stmt_by (λ w. w) (λ w. w) (λ w. w)) (arm_by (λ w. w)) (case_arm_by (λ w. w)) a
    ∙ ap (λ (w : List Word). expr_words (out-Arm a).test ++ w) (block_mapped (λ (w : List Word). w) stmt_words (out-Arm a).body)

-- and of the arm of a `case`
case_arm_is : (a : CaseArm) → case_arm_folded a ≡ case_arm_words a
unfolding case_arm_folded stmt_words
case_arm_is a = fold_out-CaseArm (List Word) (List Word) (List Word) (stmt_by (λ w. w) (λ w. w) (λ w. w)) (arm_by (λ w. w)) (case_arm_by (λ w. w)) a
    ∙ ap (λ (w : List Word). listed (option_by expr_words) (out-CaseArm a).options ++ (sign (codes ":") ++ w)) (block_mapped (λ (w : List Word). w) stmt_words (out-CaseArm a).body)

-- the words of a statement are those of its first step
pub stmt_rolled : (d : Stmt-F Stmt Arm CaseArm) → stmt_words (roll-Stmt d) ≡ stmt_by stmt_words arm_words case_arm_words d
unfolding arm_folded case_arm_folded stmt_words
stmt_rolled d = fold-roll-Stmt (List Word) (List Word) (List Word) (stmt_by (λ w. w) (λ w. w) (λ w. w)) (arm_by (λ w. w)) (case_arm_by (λ w. w)) d ∙ stmt_natural (λ (w : List Word). w) (λ (w : List Word). w) (λ (w : List Word). w) stmt_words arm_folded case_arm_folded d
    ∙ ap (λ (a : Arm → List Word). stmt_by stmt_words a case_arm_folded d) (λ i. λ x. arm_is x i) ∙ ap (λ (c : CaseArm → List Word). stmt_by stmt_words arm_words c d) (λ i. λ x. case_arm_is x i)

-- the words of a chain
pub words_chain : (at : ℕ) (sides : List Operand) (arrows : List Arrow) → stmt_words (stmt.Chain at sides arrows) ≡ stmt_by stmt_words arm_words case_arm_words (plain_stmt.Chain at sides arrows)
words_chain at sides arrows = sym (ap stmt_words (rolls-Chain at sides arrows)) ∙ stmt_rolled (plain_stmt.Chain at sides arrows)

-- the words of an assignment
pub words_assign : (at : ℕ) (name : List ℕ) (value : Expr) → stmt_words (stmt.Assign at name value) ≡ stmt_by stmt_words arm_words case_arm_words (plain_stmt.Assign at name value)
words_assign at name value = sym (ap stmt_words (rolls-Assign at name value)) ∙ stmt_rolled (plain_stmt.Assign at name value)

-- the words of a call
pub words_call : (at : ℕ) (func : Func) (args : List Expr) → stmt_words (stmt.Call at func args) ≡ stmt_by stmt_words arm_words case_arm_words (plain_stmt.Call at func args)
words_call at func args = sym (ap stmt_words (rolls-Call at func args)) ∙ stmt_rolled (plain_stmt.Call at func args)

-- the words of an `if`
pub words_if : (at : ℕ) (arms : List Arm) (other : List Stmt) → stmt_words (stmt.If at arms other) ≡ stmt_by stmt_words arm_words case_arm_words (plain_stmt.If at arms other)
words_if at arms other = sym (ap stmt_words (rolls-If at arms other)) ∙ stmt_rolled (plain_stmt.If at arms other)

-- the words of an `unless`
pub words_unless : (at : ℕ) (test : Expr) (body other : List Stmt) → stmt_words (stmt.Unless at test body other) ≡ stmt_by stmt_words arm_words case_arm_words (plain_stmt.Unless at test body other)
words_unless at test body other = sym (ap stmt_words (rolls-Unless at test body other)) ∙ stmt_rolled (plain_stmt.Unless at test body other)

-- the words of a `case`
pub words_case : (at : ℕ) (value : Expr) (arms : List CaseArm) → stmt_words (stmt.Case at value arms) ≡ stmt_by stmt_words arm_words case_arm_words (plain_stmt.Case at value arms)
words_case at value arms = sym (ap stmt_words (rolls-Case at value arms)) ∙ stmt_rolled (plain_stmt.Case at value arms)

-- the words of all forms of statements
pub ruleset statements = (words_chain, words_assign, words_call, words_if, words_unless, words_case)

-- ---- types

-- the words of a type in brackets, or none, follow what is put in place of it
member_mapped : (h : TypeName → List Word) (member : Option TypeName) → member_by (λ (w : List Word). w) (former-TypeName-Array-0-at-2.map TypeName (List Word) h member) ≡ member_by h member
member_mapped h prelude.None = refl
member_mapped h (prelude.Some t) = refl

-- the words of a type follow what is put in place of the types in it
type_natural : (d : TypeName-F TypeName) (h : TypeName → List Word) → type_by (λ (w : List Word). w) (map-TypeName TypeName (List Word) h d) ≡ type_by h d
type_natural plain_type.Any h = refl
type_natural plain_type.Boolean h = refl
type_natural plain_type.Hash h = refl
type_natural (plain_type.Str least most) h = refl
type_natural (plain_type.Int least most) h = refl
type_natural (plain_type.Array member) h = ap (λ (w : List Word). type_word (codes "Array") ++ w) (member_mapped h member)
type_natural (plain_type.Optional member) h = refl
type_natural (plain_type.Enum texts) h = refl
type_natural (plain_type.Variant members) h = ap (λ (w : List Word). type_word (codes "Variant") ++ in_tight w) (join_mapped (λ (w : List Word). w) comma h members)

-- the words of a type are those of its first step
type_rolled : (d : TypeName-F TypeName) → type_words (roll-TypeName d) ≡ type_by type_words d
unfolding type_words
type_rolled d = fold-roll-TypeName (List Word) (type_by (λ w. w)) d ∙ type_natural d type_words

-- the words of `Any`
pub type_any : type_words type.Any ≡ type_by type_words plain_type.Any
type_any = sym (ap type_words (rolls-Any)) ∙ type_rolled plain_type.Any

-- the words of `Boolean`
pub type_boolean : type_words type.Boolean ≡ type_by type_words plain_type.Boolean
type_boolean = sym (ap type_words (rolls-Boolean)) ∙ type_rolled plain_type.Boolean

-- the words of `Hash`
pub type_hash : type_words type.Hash ≡ type_by type_words plain_type.Hash
type_hash = sym (ap type_words (rolls-Hash)) ∙ type_rolled plain_type.Hash

-- the words of `String`
pub type_str : (least : ℤ) (most : Option ℤ) → type_words (type.Str least most) ≡ type_by type_words (plain_type.Str least most)
type_str least most = sym (ap type_words (rolls-Str least most)) ∙ type_rolled (plain_type.Str least most)

-- the words of `Integer`
pub type_int : (least most : Option ℤ) → type_words (type.Int least most) ≡ type_by type_words (plain_type.Int least most)
type_int least most = sym (ap type_words (rolls-Int least most)) ∙ type_rolled (plain_type.Int least most)

-- the words of `Array`
pub type_array : (member : Option TypeName) → type_words (type.Array member) ≡ type_by type_words (plain_type.Array member)
type_array member = sym (ap type_words (rolls-Array member)) ∙ type_rolled (plain_type.Array member)

-- the words of `Optional`
pub type_optional : (member : TypeName) → type_words (type.Optional member) ≡ type_by type_words (plain_type.Optional member)
type_optional member = sym (ap type_words (rolls-Optional member)) ∙ type_rolled (plain_type.Optional member)

-- the words of `Enum`
pub type_enum : (texts : List (List ℕ)) → type_words (type.Enum texts) ≡ type_by type_words (plain_type.Enum texts)
type_enum texts = sym (ap type_words (rolls-Enum texts)) ∙ type_rolled (plain_type.Enum texts)

-- the words of `Variant`
pub type_variant : (members : List TypeName) → type_words (type.Variant members) ≡ type_by type_words (plain_type.Variant members)
type_variant members = sym (ap type_words (rolls-Variant members)) ∙ type_rolled (plain_type.Variant members)

-- the words of all types
pub ruleset types = (type_any, type_boolean, type_hash, type_str, type_int, type_array, type_optional, type_enum, type_variant)

-- ---- what is written in two steps

-- the words of an `if` are those of its arms and those of its `else`
pub if_in_two : (s : Stmt) (at : ℕ) (arms ys : List Arm) (other zs : List Stmt) → s ≡ stmt.If at arms other → ys ≡ arms → zs ≡ other
    → stmt_words s ≡ (keyword (codes "if") ++ join_by arm_words (keyword (codes "elsif")) ys) ++ else_by stmt_words zs
if_in_two s at arms ys other zs is ys_is zs_is = ap stmt_words is ∙ words_if at arms other
    ∙ ap (λ (xs : List Arm). keyword (codes "if") ++ (join_by arm_words (keyword (codes "elsif")) xs ++ else_by stmt_words other)) (sym ys_is)
    ∙ ap (λ (xs : List Stmt). keyword (codes "if") ++ (join_by arm_words (keyword (codes "elsif")) ys ++ else_by stmt_words xs)) (sym zs_is)

-- the words of an `unless` are those of its test and block and those of its `else`
pub unless_in_two : (s : Stmt) (at : ℕ) (test t : Expr) (body ys other zs : List Stmt) → s ≡ stmt.Unless at test body other → t ≡ test → ys ≡ body → zs ≡ other
    → stmt_words s ≡ (keyword (codes "unless") ++ (expr_words t ++ block_by stmt_words ys)) ++ else_by stmt_words zs
unless_in_two s at test t body ys other zs is t_is ys_is zs_is = ap stmt_words is ∙ words_unless at test body other
    ∙ ap (λ (x : Expr). keyword (codes "unless") ++ (expr_words x ++ (block_by stmt_words body ++ else_by stmt_words other))) (sym t_is)
    ∙ ap (λ (xs : List Stmt). keyword (codes "unless") ++ (expr_words t ++ (block_by stmt_words xs ++ else_by stmt_words other))) (sym ys_is)
    ∙ ap (λ (xs : List Stmt). keyword (codes "unless") ++ (expr_words t ++ (block_by stmt_words ys ++ else_by stmt_words xs))) (sym zs_is)
    ∙ ap (λ (w : List Word). keyword (codes "unless") ++ w) (sym (append_assoc (expr_words t) (block_by stmt_words ys) (else_by stmt_words zs)))

-- arrows without operands have no words
nothing_linked : (arrows : List Arrow) (rest : List Operand) → length rest ≡ 0 → links arrows rest ≡ []
nothing_linked [] rest none = refl
nothing_linked (a ∷ arrows) [] none = refl
nothing_linked (a ∷ arrows) (y ∷ rest) none = absurd (omega (arith, none))

-- Where no operand is left, no arrow is written.
pub no_sides : (words old : List Word) (left all : List Arrow) (rest sides : List Operand) → length rest ≡ 0 → words ++ links left rest ≡ old ++ links all sides → words ≡ old ++ links all sides
no_sides words old left all rest sides none same = sym (ap (λ (w : List Word). words ++ w) (nothing_linked left rest none) ∙ append-nil words) ∙ same
