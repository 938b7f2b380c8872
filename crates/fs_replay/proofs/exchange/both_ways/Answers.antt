use Rattle.std.proofs.Common.{◌≡◌, ◌<◌, [], ◌∷◌, length, map, Some, sym, subst}
use Rattle.std.specs.List.{AllByRecursion}
use Rattle.fs_semantics.specs.Orders.{outcome}
use Rattle.fs_lang.specs.Meaning.{program_of}
use Rattle.fs_replay.specs.Exchanged.{StandOn}
use Rattle.fs_replay.proofs.ExchangeLaws.{all_ahead, all_behind, stand_first, stand_ahead}
use Rattle.fs_replay.proofs.exchange.both_ways.Goals as goal

pub run_on-requires-clause-below : goal.run_on-requires-clause-below
run_on-requires-clause-below c =
    subst (AllByRecursion (λ i. i < length c.args.ground.now.programs.now)) (sym c.as_slice-front.ensures)
    (all_ahead (λ i. i < length c.args.ground.now.programs.now) c.args.exchange.now.front (c.args.exchange.now.first ∷ c.args.exchange.now.second ∷ c.args.exchange.now.back) c.requires.below)

pub run_on-requires-clause-stand : goal.run_on-requires-clause-stand
run_on-requires-clause-stand c = (Some c.args.ground.now.tree.now, subst (StandOn c.args.ground.now (Some c.args.ground.now.tree.now)) (sym c.in_ok-left.ensures) (stand_first c.args.ground.now c.requires.ground c.is_tree.ensures))

pub run_on-requires-2-clause-below : goal.run_on-requires-2-clause-below
run_on-requires-2-clause-below c =
    let two = all_behind (λ i. i < length c.args.ground.now.programs.now) c.args.exchange.now.front (c.args.exchange.now.first ∷ c.args.exchange.now.second ∷ c.args.exchange.now.back) c.requires.below in
    (two.0, (two.1.0, tt))

pub run_on-requires-2-clause-stand : goal.run_on-requires-2-clause-stand
run_on-requires-2-clause-stand c = (_, stand_ahead c.args.ground.now c.args.exchange.now c.requires.ground c.is_tree.ensures _ c.in_ok-left.left c.run_on.new.cells c.in_ok-left.ensures c.as_slice-front.ensures c.in_ok-run_on.ensures)

pub run_on-requires-3-clause-below : goal.run_on-requires-3-clause-below
run_on-requires-3-clause-below c =
    let two = all_behind (λ i. i < length c.args.ground.now.programs.now) c.args.exchange.now.front (c.args.exchange.now.first ∷ c.args.exchange.now.second ∷ c.args.exchange.now.back) c.requires.below in
    (two.1.0, (two.0, tt))

pub run_on-requires-3-clause-stand : goal.run_on-requires-3-clause-stand
run_on-requires-3-clause-stand c = (
  _,
  subst (StandOn c.args.ground.now _) (sym c.in_ok-right.ensures)
      (stand_ahead c.args.ground.now c.args.exchange.now c.requires.ground c.is_tree.ensures _ c.in_ok-left.left c.run_on.new.cells c.in_ok-left.ensures c.as_slice-front.ensures c.in_ok-run_on.ensures),
)

pub returns-clause-left : goal.returns-clause-left
returns-clause-left c = c.in_ok-run_on-2.ensures _ (stand_ahead c.args.ground.now c.args.exchange.now c.requires.ground c.is_tree.ensures _ c.in_ok-left.left c.run_on.new.cells c.in_ok-left.ensures c.as_slice-front.ensures c.in_ok-run_on.ensures)

pub returns-clause-right : goal.returns-clause-right
returns-clause-right c =
    c.in_ok-run_on-3.ensures _ (subst (StandOn c.args.ground.now (outcome (map program_of c.args.ground.now.programs.now) c.args.exchange.now.front c.args.ground.now.tree.now)) (sym c.in_ok-right.ensures)
    (stand_ahead c.args.ground.now c.args.exchange.now c.requires.ground c.is_tree.ensures _ c.in_ok-left.left c.run_on.new.cells c.in_ok-left.ensures c.as_slice-front.ensures c.in_ok-run_on.ensures))
