use Rattle.std.proofs.Common.{map, Some, subst}
use Rattle.fs_semantics.specs.Orders.{outcome}
use Rattle.fs_lang.specs.Meaning.{program_of}
use Rattle.fs_lang.specs.Outcomes.{outcome_of}
use Rattle.fs_interpreter.specs.Standing.{Stands}
use Rattle.fs_replay.specs.Told.{plain_state}
use Rattle.fs_replay.proofs.OutcomeLaws.{outcome_parents, told_is}
use Rattle.fs_replay.proofs.runs.replay.Goals as goal
use Rattle.fs_semantics.proofs.ConstructLaws.{parents_of}

pub outcome_told-requires-clause-stands : goal.outcome_told-requires-clause-stands
outcome_told-requires-clause-stands c =
    let g = c.in_ok-table.field-0 in (
      outcome (map program_of c.args.programs.now) c.args.order.now c.args.tree.now,
      c.in_ok-run_in_order.ensures.stands (Some c.args.tree.now) (subst (Stands g.table (plain_state g.cells)) c.in_ok-table.ensures.tree c.in_ok-table.ensures.ready.stands),
      outcome_parents c.constructs.ensures.parents (map program_of c.args.programs.now) c.args.order.now c.args.tree.now (parents_of c.args.tree.now c.is_tree.ensures),
    )

pub returns : goal.returns
returns c =
    let g = c.in_ok-table.field-0 in
    told_is c.outcome_told.result outcome_of g.table (plain_state c.run_in_order.new.cells) (outcome (map program_of c.args.programs.now) c.args.order.now c.args.tree.now)
    (c.states.ensures.outcome g.table (plain_state c.run_in_order.new.cells))
    (c.in_ok-run_in_order.ensures.stands (Some c.args.tree.now) (subst (Stands g.table (plain_state g.cells)) c.in_ok-table.ensures.tree c.in_ok-table.ensures.ready.stands)) c.outcome_told.ensures
