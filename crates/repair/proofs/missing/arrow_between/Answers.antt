use Rattle.std.proofs.Common.{◌≡◌, map, sym, subst, ◌∙◌, ◌<◌, IfOk}
use Rattle.std.specs.List.{AllByRecursion}
use Rattle.std.proofs.lemmas.List.{length-map}
use Rattle.fs_lang.specs.Meaning.{program_of}
use Rattle.fs_lang.specs.Outcomes.{outcome_of}
use Rattle.fs_semantics.specs.Orders.{outcome}
use Rattle.repair.specs.Missing.{IsMissing}
use Rattle.repair.proofs.MissingLaws.{apart_there, has_ended, first_follows, second_follows}
use Rattle.repair.proofs.missing.arrow_between.Goals as goal
use Rattle.repair.proofs.missing.arrow_between.Goals.{in-Ended, in-Error}

pub replay-requires : goal.replay-requires
replay-requires c = subst (λ n. AllByRecursion (λ i. i < n) c.args.left.now) (length-map c.args.plan.now.programs.now program_of) c.requires.differ.left_allowed.below

pub unreachable-requires : goal.unreachable-requires
unreachable-requires c =
    let e = c.requires.exchange in
    c.in_default.not-Some (e.left, e.right)
    (c.first_apart.ensures
    ∙ apart_there (map program_of c.args.plan.now.programs.now) c.args.plan.now.order.now (length-map c.args.plan.now.programs.now program_of ∙ c.args.plan.now.count) c.args.tree.now c.args.left.now c.args.right.now c.requires.differ e)

pub returns : goal.returns
returns c =
    let es = map program_of c.args.plan.now.programs.now in
    let order = c.args.plan.now.order.now in
    let long = length-map c.args.plan.now.programs.now program_of ∙ c.args.plan.now.count in
    let found = sym c.in-Some.is ∙ c.first_apart.ensures in
    elim c.match-ended.branch [
      | in-Ended w ↦
          let ended = subst (λ o. outcome_of o ≡ outcome es c.args.left.now c.args.tree.now) w.in-Ended.is c.in_ok-ended.ensures in
          subst (λ r. IfOk r (IsMissing es order)) (sym w.result-is)
          (first_follows es order long c.args.tree.now c.args.left.now c.args.right.now c.requires.differ c.requires.exchange c.in-Some.a c.in-Some.b found (has_ended _ (outcome es c.args.left.now c.args.tree.now) ended))
      | in-Error w ↦
          let failed = subst (λ o. outcome_of o ≡ outcome es c.args.left.now c.args.tree.now) w.in-Error.is c.in_ok-ended.ensures in
          subst (λ r. IfOk r (IsMissing es order)) (sym w.result-is)
          (second_follows es order long c.args.tree.now c.args.left.now c.args.right.now c.requires.differ c.requires.exchange c.in-Some.a c.in-Some.b found failed)
    ]
