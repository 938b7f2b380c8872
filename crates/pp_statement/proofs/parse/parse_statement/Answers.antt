use Rattle.pp_syntax.specs.Lexing.{lexemes_of}
use Rattle.pp_syntax.specs.Derivation.{IsExprAt}
use Rattle.pp_syntax.specs.Statements.{IsStmtAt}
use Rattle.pp_readers.specs.Expressions.{expr_at}
use Rattle.pp_readers.specs.Leads.{NothingFollows}
use Rattle.pp_readers.specs.Statements.{stmt_at}
use Rattle.pp_readers.proofs.ExpressionLaws.{spelled, parsed}
use Rattle.pp_readers.proofs.StatementLaws.{statement_finds, statement_reads}
use Rattle.pp_statement.proofs.parse.parse_statement.Goals as goal

pub returns-clause-spelled : goal.returns-clause-spelled
returns-clause-spelled c =
    let d = c.args.parser.now.limit in
    spelled (IsStmtAt (IsExprAt d) d) (stmt_at (expr_at d) d) (lexemes_of c.args.parser.now.tokens.now) c.args.from c.statement.result (statement_finds d d) c.statement.ensures

pub returns-clause-parsed : goal.returns-clause-parsed
returns-clause-parsed c =
    let d = c.args.parser.now.limit in
    parsed (IsStmtAt (IsExprAt d) d) NothingFollows (stmt_at (expr_at d) d) (lexemes_of c.args.parser.now.tokens.now) c.args.from c.statement.result (statement_reads d d) c.statement.ensures
