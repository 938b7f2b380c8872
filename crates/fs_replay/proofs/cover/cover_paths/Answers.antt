use Rattle.fs_replay.proofs.CoverLaws.{when_ok, keeps_more}
use Rattle.fs_replay.proofs.cover.cover_paths.Goals as goal

pub returns-clause-first : goal.returns-clause-first
returns-clause-first c = when_ok c.cover_path-2.result (c.cover_path-2.ensures.keeps.paths c.args.p.now c.in_ok-cover_path.ensures.there)

pub returns-clause-keeps : goal.returns-clause-keeps
returns-clause-keeps c = keeps_more c.args.table.now c.cover_path.new.table c.cover_path-2.new.table c.cover_path.ensures.keeps c.cover_path-2.ensures.keeps
