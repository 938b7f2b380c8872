use Rattle.std.proofs.Common.{false, Some}
use Rattle.fs_semantics.specs.Programs.{run}
use Rattle.fs_lang.specs.Meaning.{program_of}
use Rattle.fs_lang.specs.Outcomes.{outcome_of}
use Rattle.fs_replay.specs.Told.{plain_state}
use Rattle.fs_replay.proofs.StandLaws.{tree_later}
use Rattle.fs_replay.proofs.OutcomeLaws.{run_parents, told_is}
use Rattle.fs_replay.proofs.runs.run.Goals as goal
use Rattle.fs_semantics.proofs.ConstructLaws.{parents_of}

pub cells_of-requires : goal.cells_of-requires
cells_of-requires c = tree_later c.in_ok-table.table c.cover.new.table c.args.tree.now c.cover.ensures.keeps c.in_ok-table.ensures

pub outcome_told-requires-clause-stands : goal.outcome_told-requires-clause-stands
outcome_told-requires-clause-stands c = (run (program_of c.args.program.now) c.args.tree.now, c.in_ok-run_plain.ensures.stands (λ n. false) (Some c.args.tree.now) c.in_ok-cells.ensures.stands, run_parents c.constructs.ensures.parents (program_of c.args.program.now) c.args.tree.now (parents_of c.args.tree.now c.is_tree.ensures))

pub returns : goal.returns
returns c =
    told_is c.outcome_told.result outcome_of c.cover.new.table (plain_state c.run_plain.new.cells) (run (program_of c.args.program.now) c.args.tree.now)
    (c.states.ensures.outcome c.cover.new.table (plain_state c.run_plain.new.cells)) (c.in_ok-run_plain.ensures.stands (λ n. false) (Some c.args.tree.now) c.in_ok-cells.ensures.stands) c.outcome_told.ensures
