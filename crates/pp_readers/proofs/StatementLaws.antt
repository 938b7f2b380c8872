-- From reading functions to what parsing answers.
use Rattle.std.proofs.Common.{◌≡◌, ℕ, List, [], refl, Some, sym, ap, ◌∙◌}
use Rattle.pp_syntax.specs.declared.tree.Attr.{Attr}
use Rattle.pp_syntax.specs.declared.tree.Expr.{Expr}
use Rattle.pp_syntax.specs.declared.tree.Stmt.{Stmt}
use Rattle.pp_syntax.specs.Tokens.{Lexeme}
use Rattle.pp_syntax.specs.Phrases.{MaybeListed}
use Rattle.pp_syntax.specs.Derivation.{IsExprAt, PostfixOf, ReferenceOf}
use Rattle.pp_syntax.specs.Statements.{AttrOf, InBraces, BlockOf, IsStmtAt}
use Rattle.pp_readers.specs.Marks.{Found}
use Rattle.pp_readers.specs.Parsed.{NumbersFit}
use Rattle.pp_readers.specs.Expressions.{expr_at, reference_with, postfix_with}
use Rattle.pp_readers.proofs.Finding.{Finds}
use Rattle.pp_readers.proofs.Solid.{begun_some, expr_begun}
use Rattle.pp_readers.proofs.Whole.{expr_found}
use Rattle.pp_readers.proofs.Quotes.{expr_read}
use Rattle.pp_readers.proofs.DoubleQuotes.{dq_found, dq_read}
use Rattle.pp_readers.proofs.ExpressionLaws.{postfix_finds, postfix_reads, reference_finds, reference_reads}
use Rattle.pp_readers.specs.Leads.{NothingFollows}
use Rattle.pp_readers.specs.Statements.{attrs_with, attributes_with, block_with, stmt_at}
use Rattle.pp_readers.proofs.Combining.{Spells, in_braces_found}
use Rattle.pp_readers.proofs.BodiesFound.{attrs_found}
use Rattle.pp_readers.proofs.Blocks.{block_found, stmt_at_found}
use Rattle.pp_readers.proofs.Building.{Always, ReadsBefore}
use Rattle.pp_readers.proofs.ReadBodies.{Quiet, attributes_read}
use Rattle.pp_readers.proofs.ReadSearch.{NoSuffix}
use Rattle.pp_readers.proofs.Leads.{leads_at}
use Rattle.pp_readers.proofs.ReadBlocks.{block_read, stmt_at_read}

-- attributes in braces, with expressions nested less deep than this
abbrev pub AttributesOf : ℕ → Spells (List Attr)
AttributesOf limit qs = InBraces (MaybeListed (AttrOf (IsExprAt limit)) qs)

-- ---- both ways, where expressions are those of this limit

-- no expression is spelled by no tokens
no_expression : (limit : ℕ) (y : Expr) → IsExprAt limit y [] → ⊥
no_expression limit y h = begun_some [] (expr_begun limit y [] h) refl

-- what is read as a statement is spelled so
pub statement_finds : (limit depth : ℕ) → Finds (stmt_at (expr_at limit) depth) (IsStmtAt (IsExprAt limit) depth)
statement_finds limit depth = stmt_at_found (expr_at limit) (IsExprAt limit) (expr_found dq_found limit) (reference_finds limit) (postfix_finds limit) (no_expression limit) depth

-- an expression is read, before anything that doesn't go on with it
expression_reads : (limit : ℕ) → ReadsBefore Quiet (expr_at limit) (IsExprAt limit)
expression_reads limit y us rest h f q = expr_read dq_read limit y us rest h f q

-- a reference is read
references_read : (limit : ℕ) → ReadsBefore Always (reference_with (expr_at limit)) (ReferenceOf (IsExprAt limit))
references_read limit y us rest h f q = reference_reads limit y us rest h f

-- an operand with indexes and selections is read, before anything that is none of them
postfixes_read : (limit : ℕ) → ReadsBefore NoSuffix (postfix_with (expr_at limit)) (PostfixOf (IsExprAt limit))
postfixes_read limit y us rest h f q = postfix_reads limit y us rest h f q

-- a statement is read, before anything that doesn't go on with it
pub statement_reads : (limit depth : ℕ) → ReadsBefore NothingFollows (stmt_at (expr_at limit) depth) (IsStmtAt (IsExprAt limit) depth)
statement_reads limit depth = stmt_at_read (expr_at limit) (IsExprAt limit) (expression_reads limit) (expr_begun limit) (references_read limit) (postfixes_read limit) depth

-- what is read as a block is spelled so
pub block_finds : (limit depth : ℕ) → Finds (block_with (stmt_at (expr_at limit) depth)) (BlockOf (IsStmtAt (IsExprAt limit) depth))
block_finds limit depth = block_found (expr_at limit) (IsExprAt limit) (expr_found dq_found limit) (stmt_at (expr_at limit) depth) (IsStmtAt (IsExprAt limit) depth) (statement_finds limit depth)

-- a block is read
pub block_reads : (limit depth : ℕ) → ReadsBefore Always (block_with (stmt_at (expr_at limit) depth)) (BlockOf (IsStmtAt (IsExprAt limit) depth))
block_reads limit depth =
    block_read (expr_at limit) (IsExprAt limit) (expression_reads limit) (expr_begun limit) (stmt_at (expr_at limit) depth) (IsStmtAt (IsExprAt limit) depth) (statement_reads limit depth) (leads_at (IsExprAt limit) depth)

-- what is read as attributes in braces is spelled so
pub attributes_finds : (limit : ℕ) → Finds (attributes_with (expr_at limit)) (AttributesOf limit)
attributes_finds limit = in_braces_found (attrs_with (expr_at limit)) (MaybeListed (AttrOf (IsExprAt limit))) (attrs_found (expr_at limit) (IsExprAt limit) (expr_found dq_found limit))

-- attributes in braces are read
pub attributes_reads : (limit : ℕ) → ReadsBefore Always (attributes_with (expr_at limit)) (AttributesOf limit)
attributes_reads limit = attributes_read (expr_at limit) (IsExprAt limit) (expression_reads limit) (expr_begun limit)

-- Tokens spell at most one statement.
pub same_statement : (limit depth : ℕ) (y z : Stmt) (us : List Lexeme) → IsStmtAt (IsExprAt limit) depth y us → IsStmtAt (IsExprAt limit) depth z us → NumbersFit us → y ≡ z
same_statement limit depth y z us h k n =
    let ends : NothingFollows [] = record { no_operator = refl; no_arrow = refl; no_comma = refl; no_elsif = refl; no_else = refl } in
    let same : ◌≡◌ {A = Found Stmt} (Some (y, [])) (Some (z, [])) = sym (statement_reads limit depth y us [] h n ends) ∙ statement_reads limit depth z us [] k n ends in
    let pair : ◌≡◌ {A = Stmt × List Lexeme} (y, []) (z, []) = cc in
    ap (λ (p : Stmt × List Lexeme). p.0) pair
