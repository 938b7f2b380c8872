use Rattle.std.proofs.Common.{◌<◌, map, length, subst}
use Rattle.std.specs.Prelude.{IfSome}
use Rattle.std.specs.List.{AllByRecursion}
use Rattle.std.proofs.lemmas.List.{length-map}
use Rattle.std.proofs.lemmas.Result.{IfOk-weaker}
use Rattle.fs_lang.specs.Meaning.{program_of}
use Rattle.orders.specs.Relation.{comes}
use Rattle.proof_check.specs.Refuted.{HasNoModel}
use Rattle.settled_groups.specs.Groups.{in_turn, GroupSettles}
use Rattle.second_runs.specs.Questions.{IsSecondProof}
use Rattle.second_runs.proofs.GroupLaws.{each_below, stated_by_any, some_weaker}
use Rattle.second_runs.proofs.groups.same_in_groups.Goals as goal

pub each_settles-requires-clause-below : goal.each_settles-requires-clause-below
each_settles-requires-clause-below c =
    let n = length c.args.plan.now.programs.now in
    let groups = c.args.groups.now in
    let below = subst (λ m. AllByRecursion (λ k. k < m) (in_turn groups)) (length-map c.args.plan.now.programs.now program_of) c.requires.groups.allowed.below in
    each_below n groups below

pub returns-in-Some-clause-proved : goal.returns-in-Some-clause-proved
returns-in-Some-clause-proved c =
    let es = map program_of c.args.plan.now.programs.now in
    let order = c.args.plan.now.order.now in
    let groups = c.args.groups.now in
    let settle = subst (λ found. IfSome found (λ vs. AllByRecursion (GroupSettles es) groups)) c.in-Some.is c.in_ok-parts.ensures in
    let same = c.settled_groups.ensures.idempotent es (comes order) c.are_proper.ensures c.requires.deterministic groups c.requires.groups.allowed settle c.requires.groups.commute in
    IfOk-weaker c.joined.result (λ found. IfSome found (λ v. HasNoModel v.formula)) (λ found. IfSome found (λ v. IsSecondProof es order v.formula))
    (some_weaker (λ v. HasNoModel v.formula) (λ v. IsSecondProof es order v.formula) (λ v none. stated_by_any es order v.formula same none)) c.joined.ensures
