use Rattle.pp_syntax.specs.Lexing.{lexemes_of}
use Rattle.pp_readers.proofs.ExpressionLaws.{string_spelled, string_parsed}
use Rattle.pp_expression.proofs.parse.parse_string.Goals as goal

pub returns-clause-spelled : goal.returns-clause-spelled
returns-clause-spelled c = string_spelled c.args.depth (lexemes_of c.args.tokens.now) c.args.from c.string.result c.string.ensures

pub returns-clause-parsed : goal.returns-clause-parsed
returns-clause-parsed c = string_parsed c.args.depth (lexemes_of c.args.tokens.now) c.args.from c.string.result c.string.ensures
