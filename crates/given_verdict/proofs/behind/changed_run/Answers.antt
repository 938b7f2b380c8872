use Rattle.std.proofs.Common.{◌≡◌, ◌<◌, map, length, drop, sym, ap, subst, subst₂, ◌∙◌}
use Rattle.std.specs.List.{AllByRecursion}
use Rattle.std.proofs.lemmas.List.{length-map}
use Rattle.std.proofs.lemmas.Result.{IfOk-weaker}
use Rattle.fs_lang.specs.Meaning.{program_of}
use Rattle.given_verdict.specs.Second.{IsChangeFrom}
use Rattle.given_verdict.specs.Behind.{IsDifferenceBehind, IsDifferentOf}
use Rattle.given_verdict.proofs.BehindLaws.{rest_below, changes}
use Rattle.given_verdict.proofs.behind.changed_run.Goals as goal

pub different_of-requires : goal.different_of-requires
different_of-requires c =
    let es = map program_of c.args.plan.now.programs.now in
    let order = c.args.plan.now.order.now in
    let given = c.args.given.now in
    let h = subst (IsDifferenceBehind given es order) c.in-Orders.is c.requires.differs in
    let long = length-map c.args.plan.now.programs.now program_of ∙ c.args.plan.now.count in
    let below = rest_below given es order long c.requires.deterministic h.first c.in-Orders.left h.differs.0.left_allowed in
    subst₂ (λ n o. AllByRecursion (λ k. k < n) o) (length-map c.args.plan.now.programs.now program_of) (sym (c.in_ok-first-in-Orders.ensures ∙ ap (drop 1) c.as_slice.ensures)) below

pub returns : goal.returns
returns c =
    let es = map program_of c.args.plan.now.programs.now in
    let order = c.args.plan.now.order.now in
    let given = c.args.given.now in
    let h = subst (IsDifferenceBehind given es order) c.in-Orders.is c.requires.differs in
    let long = length-map c.args.plan.now.programs.now program_of ∙ c.args.plan.now.count in
    let first = c.in_ok-first-in-Orders.first in
    let second = c.in_ok-second-in-Orders.second in
    IfOk-weaker c.different_of.result (IsDifferentOf es c.in-Orders.tree first second) (IsChangeFrom given es order)
    (λ w d. changes given es order long c.requires.deterministic c.requires.given c.in-Orders.tree c.in-Orders.left c.in-Orders.right h w
    (subst₂ (λ o p. IsDifferentOf es c.in-Orders.tree o p w) (c.in_ok-first-in-Orders.ensures ∙ ap (drop 1) c.as_slice.ensures) (c.in_ok-second-in-Orders.ensures ∙ ap (drop 1) c.as_slice-in-Orders.ensures) d))
    c.different_of.ensures
