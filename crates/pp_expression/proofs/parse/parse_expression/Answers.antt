use Rattle.pp_syntax.specs.Lexing.{lexemes_of}
use Rattle.pp_readers.proofs.ExpressionLaws.{expression_spelled, expression_parsed}
use Rattle.pp_expression.proofs.parse.parse_expression.Goals as goal

pub returns-clause-spelled : goal.returns-clause-spelled
returns-clause-spelled c = expression_spelled c.args.depth (lexemes_of c.args.tokens.now) c.args.from c.expr.result c.expr.ensures

pub returns-clause-parsed : goal.returns-clause-parsed
returns-clause-parsed c = expression_parsed c.args.depth (lexemes_of c.args.tokens.now) c.args.from c.expr.result c.expr.ensures
