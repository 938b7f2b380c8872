use Rattle.std.proofs.Common.{sym, ◌∙◌}
use Rattle.command_line.proofs.NumberLaws.{in_range}
use Rattle.command_line.proofs.numbers.number.Goals as goal

pub returns-clause-range : goal.returns-clause-range
returns-clause-range c n is = in_range c.args.most n c.args.word.now (sym c.spelled.ensures ∙ is)
