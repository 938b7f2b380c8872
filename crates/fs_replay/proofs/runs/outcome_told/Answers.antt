use Rattle.fs_replay.specs.Told.{plain_state}
use Rattle.fs_replay.proofs.OutcomeLaws.{a_tree}
use Rattle.fs_replay.proofs.runs.outcome_told.Goals as goal

pub tree_of-requires-clause-stands : goal.tree_of-requires-clause-stands
tree_of-requires-clause-stands c = a_tree c.args.table.now (plain_state c.args.cells.now) c.requires.stands.0 c.if-cells.false c.requires.stands.1 c.requires.stands.2
