use Rattle.pp_syntax.specs.Lexing.{lexemes_of}
use Rattle.pp_readers.proofs.ExpressionLaws.{reference_spelled, reference_parsed}
use Rattle.pp_expression.proofs.parse.parse_reference.Goals as goal

pub returns-clause-spelled : goal.returns-clause-spelled
returns-clause-spelled c = reference_spelled c.args.depth (lexemes_of c.args.tokens.now) c.args.from c.reference.result c.reference.ensures

pub returns-clause-parsed : goal.returns-clause-parsed
returns-clause-parsed c = reference_parsed c.args.depth (lexemes_of c.args.tokens.now) c.args.from c.reference.result c.reference.ensures
