use Rattle.std.proofs.Common.{map}
use Rattle.std.proofs.lemmas.Result.{IfOk-weaker}
use Rattle.fs_lang.specs.Meaning.{program_of}
use Rattle.order_encode.specs.Goals.{Ends}
use Rattle.order_encode.proofs.GoalLaws.{goal_is}
use Rattle.order_encode.proofs.GrowthLaws.{◌>>◌}
use Rattle.order_encode.proofs.again.goal_of_end.Goals as goal

pub returns-clause-exact : goal.returns-clause-exact
returns-clause-exact c =
    let holds = Ends (map program_of c.args.schedule.now.programs) c.args.schedule.now.order in
    IfOk-weaker c.and.result _ _ (λ w is. goal_is c.ends.new.sym c.and.new.self c.in_ok-end.end w holds c.requires.trees c.ends.ensures.grows c.in_ok-end.ensures.exact is.means) c.and.ensures.gives

pub returns-clause-grows : goal.returns-clause-grows
returns-clause-grows c = c.ends.ensures.grows >> c.and.ensures.grows
