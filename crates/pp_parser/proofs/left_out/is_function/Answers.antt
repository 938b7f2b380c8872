use Rattle.std.proofs.Common.{sym}
use Rattle.pp_parser.proofs.LeftOutLaws.{a_function}
use Rattle.pp_parser.proofs.left_out.is_function.Goals as goal

pub returns-in-Some : goal.returns-in-Some
returns-in-Some c = sym (a_function c.args.word.now c.in-Some.field-0 c.in-Some.ensures)
