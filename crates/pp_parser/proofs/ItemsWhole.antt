-- Items from the first token to the last.
use Rattle.std.proofs.Common.{◌≡◌, ℕ, ◌<◌, List, [], length, Some, sym, subst, ◌∙◌}
use Rattle.std.proofs.lemmas.List.{append-nil}
use Rattle.pp_syntax.specs.declared.tree.Item.{Item}
use Rattle.pp_syntax.specs.Tokens.{Lexeme}
use Rattle.pp_syntax.specs.Derivation.{IsExprAt}
use Rattle.pp_syntax.specs.Statements.{Items, IsStmtAt, IsTypeAt}
use Rattle.pp_readers.specs.Expressions.{expr_at}
use Rattle.pp_readers.proofs.Whole.{expr_found}
use Rattle.pp_readers.proofs.DoubleQuotes.{dq_found}
use Rattle.pp_readers.proofs.ExpressionLaws.{string_finds, string_reads}
use Rattle.pp_readers.proofs.Quotes.{expr_read}
use Rattle.pp_readers.proofs.DoubleQuotes.{dq_read}
use Rattle.pp_readers.specs.Parsed.{NumbersFit}
use Rattle.pp_readers.specs.Statements.{stmt_at}
use Rattle.pp_readers.proofs.StatementLaws.{statement_finds, block_finds, attributes_finds, statement_reads, block_reads, attributes_reads}
use Rattle.pp_readers.proofs.Leads.{leads_at}
use Rattle.pp_parser.proofs.WithinStatements.{few_types}
use Rattle.pp_parser.proofs.TypesRead.{type_at_read}
use Rattle.pp_parser.proofs.ItemsLeads.{type_begins, string_begins, stays_at}
use Rattle.pp_parser.specs.TypeReading.{type_at}
use Rattle.pp_parser.specs.ItemReading.{items_at}
use Rattle.pp_parser.proofs.TypesFound.{type_at_found}
use Rattle.pp_parser.proofs.ItemsFound.{items_found}
use Rattle.pp_parser.proofs.ItemsRead.{items_read}

-- items that are read to the end are spelled so
pub items_at_found : (depth : ℕ) (ts : List Lexeme) (ys : List Item) → items_at depth ts ≡ Some (ys, []) → Items (IsExprAt depth) (IsStmtAt (IsExprAt depth) depth) ys ts
items_at_found depth ts ys h =
    let b = items_found (expr_at depth) (IsExprAt depth) (expr_found dq_found depth) (string_finds depth) (type_at depth) (IsTypeAt depth) (type_at_found depth) (λ y us k. (depth, k))
    (stmt_at (expr_at depth) depth) (IsStmtAt (IsExprAt depth) depth) (statement_finds depth depth) (block_finds depth depth) (attributes_finds depth) ts (ys, []) h in
    subst (Items (IsExprAt depth) (IsStmtAt (IsExprAt depth) depth) ys) (sym (b.whole ∙ append-nil b.front)) b.spelled

-- and items of fewer tokens than the depth are read to the end
pub items_at_read : (depth : ℕ) (ts : List Lexeme) (ys : List Item) → Items (IsExprAt depth) (IsStmtAt (IsExprAt depth) depth) ys ts → NumbersFit ts → length ts < depth → items_at depth ts ≡ Some (ys, [])
items_at_read depth ts ys h f l =
    items_read depth (expr_at depth) (IsExprAt depth) (λ y us rest k n q. expr_read dq_read depth y us rest k n q) (λ y us rest k n q. string_reads depth y us rest k n)
    (type_at depth) (λ y us rest k n q. type_at_read depth y us rest (few_types depth k.0.0 y us k.1 k.0.1) n q) type_begins (string_begins (expr_at depth) (IsExprAt depth))
    (stmt_at (expr_at depth) depth) (IsStmtAt (IsExprAt depth) depth) (statement_reads depth depth) (leads_at (IsExprAt depth) depth) (stays_at (expr_at depth) (IsExprAt depth) (type_at depth) (stmt_at (expr_at depth) depth) depth)
    (block_reads depth depth) (attributes_reads depth) ys ts h l f
