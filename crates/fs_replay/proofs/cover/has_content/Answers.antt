use Rattle.std.proofs.Common.{sym, ◌∙◌}
use Rattle.fs_replay.proofs.cover.has_content.Goals as goal

pub returns-in-Some : goal.returns-in-Some
returns-in-Some c = λ h. (c.in-Some.field-0, c.searches.ensures.content c.args.table.now.contents c.args.c.now c.in-Some.field-0 (sym c.number.ensures ∙ c.in-Some.is))
