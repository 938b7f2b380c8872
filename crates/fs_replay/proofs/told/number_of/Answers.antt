use Rattle.std.proofs.Common.{sym, ◌∙◌}
use Rattle.fs_replay.proofs.told.number_of.Goals as goal

pub returns-in-Some : goal.returns-in-Some
returns-in-Some c = c.searches.ensures.content c.args.table.now.contents c.args.c.now c.in-Some.n (sym c.number.ensures ∙ c.in-Some.is)

pub returns-in-None : goal.returns-in-None
returns-in-None c = absurd (c.searches.ensures.no_content c.args.table.now.contents c.args.c.now (sym c.number.ensures ∙ c.in-None.is) c.requires.0 c.requires.1)
