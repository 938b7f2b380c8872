use Rattle.std.proofs.Common.{map, subst}
use Rattle.fs_lang.specs.Meaning.{program_of}
use Rattle.ensured_entry.specs.Tried.{IsTried}
use Rattle.ensured_entry.proofs.ensuring.ensure_sure.Goals as goal

pub returns-in-Missed : goal.returns-in-Missed
returns-in-Missed c = (c.requires.settled, subst (IsTried (map program_of c.args.plan.now.programs.now) c.args.plan.now.order.now c.args.wanted.now) c.in-Missed.is c.in_ok-tried.ensures)

pub ask_entry-requires-clause-end : goal.ask_entry-requires-clause-end
ask_entry-requires-clause-end c = subst (IsTried (map program_of c.args.plan.now.programs.now) c.args.plan.now.order.now c.args.wanted.now) c.in-Ended.is c.in_ok-tried.ensures
