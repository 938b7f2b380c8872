use Rattle.pp_syntax.specs.Lexing.{lexemes_of}
use Rattle.pp_readers.specs.Parsed.{Anything}
use Rattle.pp_readers.specs.Expressions.{expr_at}
use Rattle.pp_readers.specs.Statements.{attributes_with}
use Rattle.pp_readers.proofs.StatementLaws.{AttributesOf}
use Rattle.pp_readers.proofs.ExpressionLaws.{spelled, parsed}
use Rattle.pp_readers.proofs.StatementLaws.{attributes_finds, attributes_reads}
use Rattle.pp_statement.proofs.parse.parse_attributes.Goals as goal

pub returns-clause-spelled : goal.returns-clause-spelled
returns-clause-spelled c =
    let d = c.args.parser.now.limit in
    spelled (AttributesOf d) (attributes_with (expr_at d)) (lexemes_of c.args.parser.now.tokens.now) c.args.from c.attributes.result (attributes_finds d) c.attributes.ensures

pub returns-clause-parsed : goal.returns-clause-parsed
returns-clause-parsed c =
    let d = c.args.parser.now.limit in
    parsed (AttributesOf d) Anything (attributes_with (expr_at d)) (lexemes_of c.args.parser.now.tokens.now) c.args.from c.attributes.result (attributes_reads d) c.attributes.ensures
