use Rattle.std.proofs.Common.{map}
use Rattle.std.proofs.lemmas.Result.{IfOk-weaker}
use Rattle.fs_lang.specs.Meaning.{program_of}
use Rattle.order_encode.specs.Missing.{EndsMissing}
use Rattle.order_encode.proofs.GoalLaws.{goal_is}
use Rattle.order_encode.proofs.GrowthLaws.{◌>>◌}
use Rattle.order_encode.proofs.missing.goal_of_missing.Goals as goal

pub returns-clause-exact : goal.returns-clause-exact
returns-clause-exact c =
    let holds = EndsMissing (map program_of c.args.schedule.now.programs) c.args.schedule.now.order c.args.wanted.now in
    IfOk-weaker c.and.result _ _ (λ w is. goal_is c.misses.new.sym c.and.new.self c.in_ok-missed.missed w holds c.requires.trees c.misses.ensures.grows c.in_ok-missed.ensures.exact is.means) c.and.ensures.gives

pub returns-clause-grows : goal.returns-clause-grows
returns-clause-grows c = c.misses.ensures.grows >> c.and.ensures.grows
