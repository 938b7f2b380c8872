use Rattle.std.proofs.Common.{Some, map}
use Rattle.fs_semantics.specs.FileTree.{Tree}
use Rattle.fs_lang.specs.Meaning.{program_of}
use Rattle.order_encode.specs.Goals.{ApartBelow}
use Rattle.order_encode.proofs.GoalLaws.{goal_is}
use Rattle.order_encode.proofs.GrowthLaws.{◌>>◌}
use Rattle.order_encode.proofs.pairs.goal_of_pairs.Goals as goal

pub returns-clause-exact : goal.returns-clause-exact
returns-clause-exact c =
    let order = c.args.plan.now.order in
    let holds = λ (t : Tree). ApartBelow (map program_of c.args.plan.now.programs) order (Some t) order.count in
    goal_is c.some_apart.new.sym c.and.new.self c.in_ok-apart.apart.wire c.in_ok-wire.wire holds c.requires.trees c.some_apart.ensures.grows (λ v t h. c.in_ok-apart.ensures.exact v (Some t) h) c.in_ok-wire.ensures.gives.means

pub returns-clause-grows : goal.returns-clause-grows
returns-clause-grows c = c.some_apart.ensures.grows >> c.and.ensures.grows

pub returns-in_err-wire-clause-grows : goal.returns-in_err-wire-clause-grows
returns-in_err-wire-clause-grows c = c.some_apart.ensures.grows >> c.and.ensures.grows
