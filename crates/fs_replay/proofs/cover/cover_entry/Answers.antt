use Rattle.fs_replay.proofs.CoverLaws.{when_ok, keeps_more}
use Rattle.fs_replay.proofs.cover.cover_entry.Goals as goal

pub returns-clause-path : goal.returns-clause-path
returns-clause-path c = when_ok c.cover_content.result (c.cover_content.ensures.keeps.paths c.args.p.now c.in_ok-cover_path.ensures.there)

pub returns-clause-keeps : goal.returns-clause-keeps
returns-clause-keeps c = keeps_more c.args.table.now c.cover_path.new.table c.cover_content.new.table c.cover_path.ensures.keeps c.cover_content.ensures.keeps
