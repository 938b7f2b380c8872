use Rattle.std.proofs.Common.{sym, ap, ◌∙◌}
use Rattle.std.specs.Option.{option_map}
use Rattle.pp_syntax.specs.Lexing.{lexemes_of, lexeme_of}
use Rattle.pp_parser.proofs.Checking.{left_out_refusal, depth_refusal}
use Rattle.pp_parser.proofs.LeftOutLaws.{none_left_out}
use Rattle.pp_parser.proofs.DepthLaws.{none_too_deep}
use Rattle.pp_parser.proofs.checked.check.Goals as goal

pub returns-in-Some-clause-refused : goal.returns-in-Some-clause-refused
returns-in-Some-clause-refused c = left_out_refusal (lexemes_of c.args.tokens.now) (lexeme_of c.in-Some.t.now) c.refused.result c.in-Some.ensures c.refused.ensures

pub returns-in-Some-2-clause-refused : goal.returns-in-Some-2-clause-refused
returns-in-Some-2-clause-refused c =
    depth_refusal (lexemes_of c.args.tokens.now) (lexeme_of c.in-Some-2.t.now) c.refused-in-Some-2.result c.in_default.ensures
    (sym (ap (option_map (λ t. lexeme_of t.now)) c.in-Some-2.is) ∙ c.in_ok-t.ensures) c.refused-in-Some-2.ensures

pub returns-clause-all_in : goal.returns-clause-all_in
returns-clause-all_in c = none_left_out (lexemes_of c.args.tokens.now) (sym c.in_default.ensures)

pub returns-clause-shallow : goal.returns-clause-shallow
returns-clause-shallow c = none_too_deep (lexemes_of c.args.tokens.now) (sym (sym (ap (option_map (λ t. lexeme_of t.now)) c.in_default-2.is) ∙ c.in_ok-t.ensures))
