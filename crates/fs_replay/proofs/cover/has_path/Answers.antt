use Rattle.std.proofs.Common.{inr, sym, ◌∙◌}
use Rattle.fs_replay.proofs.cover.has_path.Goals as goal

pub returns-in-Some : goal.returns-in-Some
returns-in-Some c = λ h. inr (c.in-Some.field-0, c.searches.ensures.path c.args.table.now.paths c.args.p.now c.in-Some.field-0 (sym c.place.ensures ∙ c.in-Some.is))
