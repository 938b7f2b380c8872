use Rattle.std.proofs.Common.{map}
use Rattle.std.proofs.lemmas.Result.{IfOk-weaker}
use Rattle.fs_lang.specs.Meaning.{program_of}
use Rattle.order_encode.specs.Parting.{EndDifferently}
use Rattle.order_encode.proofs.GoalLaws.{goal_is}
use Rattle.order_encode.proofs.GrowthLaws.{◌>>◌}
use Rattle.order_encode.proofs.parting.goal_of_parting.Goals as goal

pub returns-clause-exact : goal.returns-clause-exact
returns-clause-exact c =
    let holds = EndDifferently (map program_of c.args.left.now.programs) c.args.left.now.order (map program_of c.args.right.now.programs) c.args.right.now.order in
    IfOk-weaker c.and.result _ _ (λ w is. goal_is c.parts.new.sym c.and.new.self c.in_ok-apart.apart w holds c.requires.trees c.parts.ensures.grows c.in_ok-apart.ensures.exact is.means) c.and.ensures.gives

pub returns-clause-grows : goal.returns-clause-grows
returns-clause-grows c = c.parts.ensures.grows >> c.and.ensures.grows
