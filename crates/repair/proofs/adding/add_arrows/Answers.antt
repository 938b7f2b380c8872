use Rattle.std.proofs.Common.{map, sym, subst, ◌∙◌}
use Rattle.std.proofs.lemmas.List.{length-map}
use Rattle.fs_lang.specs.Meaning.{program_of}
use Rattle.repair.specs.Arrows.{CanBeAdded, IsOrderWith}
use Rattle.repair.specs.Missing.{IsLook}
use Rattle.repair.specs.Steps.{WereMissing}
use Rattle.repair.proofs.AddLaws.{none_added, none_missing, added_one, missing_more, pairs_fewer, deterministic_with}
use Rattle.repair.proofs.adding.add_arrows.Goals as goal

pub with_arrows-requires-clause-added : goal.with_arrows-requires-clause-added
with_arrows-requires-clause-added c = subst (CanBeAdded c.args.plan.now.order.now) (sym (c.as_slice.ensures ∙ c.new-arrows.ensures)) (none_added c.args.plan.now.order.now c.count.ensures.ordered)

pub looks-init : goal.looks-init
looks-init c = record {
  made = subst (λ xs. IsOrderWith c.args.plan.now.order.now xs c.in_ok-now.now) c.as_slice.ensures c.in_ok-now.ensures;
  missing = subst (WereMissing (map program_of c.args.plan.now.programs.now) c.args.plan.now.order.now) (sym c.new-arrows.ensures)
      (none_missing (map program_of c.args.plan.now.programs.now) c.args.plan.now.order.now c.count.ensures.ordered);
}

pub with_arrows-requires-in-looks-clause-added : goal.with_arrows-requires-in-looks-clause-added
with_arrows-requires-in-looks-clause-added c =
    let es = map program_of c.args.plan.now.programs.now in
    let made = c.looks.now in
    let look = subst (IsLook es made c.args.budget) c.in-Missing.is c.in_ok-look_at.ensures in
    subst (CanBeAdded c.args.plan.now.order.now) (sym (c.as_slice-in-looks.ensures ∙ c.in_ok-push-in-Missing.ensures.ok))
    (added_one es c.args.plan.now.order.now c.count.ensures.ordered (length-map c.args.plan.now.programs.now program_of ∙ c.args.plan.now.count) c.looks.arrows made c.looks.invariant.made c.looks.invariant.missing c.in-Missing.arrow look)

pub looks-smaller : goal.looks-smaller
looks-smaller c =
    let es = map program_of c.args.plan.now.programs.now in
    let made = c.looks.now in
    let look = subst (IsLook es made c.args.budget) c.in-Missing.is c.in_ok-look_at.ensures in
    pairs_fewer es c.args.plan.now.order.now c.count.ensures.ordered (length-map c.args.plan.now.programs.now program_of ∙ c.args.plan.now.count) c.looks.arrows made c.looks.invariant.made c.looks.invariant.missing c.in-Missing.arrow look
    c.in_ok-now-2.now (subst (λ xs. IsOrderWith c.args.plan.now.order.now xs c.in_ok-now-2.now) (c.as_slice-in-looks.ensures ∙ c.in_ok-push-in-Missing.ensures.ok) c.in_ok-now-2.ensures)

pub looks-preserved : goal.looks-preserved
looks-preserved c =
    let es = map program_of c.args.plan.now.programs.now in
    let made = c.looks.now in
    let look = subst (IsLook es made c.args.budget) c.in-Missing.is c.in_ok-look_at.ensures in
    record {
      made = subst (λ xs. IsOrderWith c.args.plan.now.order.now xs c.in_ok-now-2.now) c.as_slice-in-looks.ensures c.in_ok-now-2.ensures;
      missing = subst (WereMissing es c.args.plan.now.order.now) (sym c.in_ok-push-in-Missing.ensures.ok)
          (missing_more es c.args.plan.now.order.now c.count.ensures.ordered (length-map c.args.plan.now.programs.now program_of ∙ c.args.plan.now.count) c.looks.arrows made c.looks.invariant.made c.looks.invariant.missing c.in-Missing.arrow look);
    }

pub returns-in-Sure : goal.returns-in-Sure
returns-in-Sure c =
    let es = map program_of c.args.plan.now.programs.now in
    let made = c.looks.now in
    let look = subst (IsLook es made c.args.budget) c.in-Sure.is c.in_ok-look_at.ensures in
    (c.looks.invariant.missing, deterministic_with es c.args.plan.now.order.now c.looks.arrows made c.looks.invariant.made look)

pub returns-in-Spent : goal.returns-in-Spent
returns-in-Spent c =
    let es = map program_of c.args.plan.now.programs.now in
    let made = c.looks.now in
    let look = subst (IsLook es made c.args.budget) c.in-Spent.is c.in_ok-look_at.ensures in
    (c.looks.invariant.missing.added, (made, c.looks.invariant.made, look))
