use Rattle.fs_replay.proofs.StandLaws.{tree_later}
use Rattle.fs_replay.proofs.ground.Ground.of.Goals as goal

pub cells_of-requires : goal.cells_of-requires
cells_of-requires c = tree_later c.in_ok-table.table c.cover_all.new.table c.args.tree.now c.cover_all.ensures.keeps c.in_ok-table.ensures
