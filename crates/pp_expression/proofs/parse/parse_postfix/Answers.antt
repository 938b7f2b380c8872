use Rattle.pp_syntax.specs.Lexing.{lexemes_of}
use Rattle.pp_readers.proofs.ExpressionLaws.{postfix_spelled, postfix_parsed}
use Rattle.pp_expression.proofs.parse.parse_postfix.Goals as goal

pub returns-clause-spelled : goal.returns-clause-spelled
returns-clause-spelled c = postfix_spelled c.args.depth (lexemes_of c.args.tokens.now) c.args.from c.postfix.result c.postfix.ensures

pub returns-clause-parsed : goal.returns-clause-parsed
returns-clause-parsed c = postfix_parsed c.args.depth (lexemes_of c.args.tokens.now) c.args.from c.postfix.result c.postfix.ensures
