use Rattle.pp_syntax.specs.Lexing.{lexemes_of}
use Rattle.pp_syntax.specs.Derivation.{IsExprAt}
use Rattle.pp_syntax.specs.Statements.{BlockOf, IsStmtAt}
use Rattle.pp_readers.specs.Expressions.{expr_at}
use Rattle.pp_readers.specs.Parsed.{Anything}
use Rattle.pp_readers.specs.Statements.{block_with, stmt_at}
use Rattle.pp_readers.proofs.ExpressionLaws.{spelled, parsed}
use Rattle.pp_readers.proofs.StatementLaws.{block_finds, block_reads}
use Rattle.pp_statement.proofs.parse.parse_block.Goals as goal

pub returns-clause-spelled : goal.returns-clause-spelled
returns-clause-spelled c =
    let d = c.args.parser.now.limit in
    spelled (BlockOf (IsStmtAt (IsExprAt d) d)) (block_with (stmt_at (expr_at d) d)) (lexemes_of c.args.parser.now.tokens.now) c.args.from c.block.result (block_finds d d) c.block.ensures

pub returns-clause-parsed : goal.returns-clause-parsed
returns-clause-parsed c =
    let d = c.args.parser.now.limit in
    parsed (BlockOf (IsStmtAt (IsExprAt d) d)) Anything (block_with (stmt_at (expr_at d) d)) (lexemes_of c.args.parser.now.tokens.now) c.args.from c.block.result (block_reads d d) c.block.ensures
