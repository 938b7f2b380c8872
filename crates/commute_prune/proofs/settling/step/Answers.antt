use Rattle.std.proofs.Common.{◌≡◌, None, Some, refl, sym, ap, subst, ◌∙◌}
use Rattle.std.specs.List.{find}
use Rattle.sure_folders.specs.Pruning.{without}
use Rattle.commute_prune.specs.Search.{IsSearch}
use Rattle.commute_prune.specs.Steps.{may_last, may_first}
use Rattle.commute_prune.proofs.StepLaws.{stepped_first}
use Rattle.commute_prune.proofs.settling.step.Goals as goal

pub returns-in-Some-clause-search : goal.returns-in-Some-clause-search
returns-in-Some-clause-search c =
    subst (λ ks. IsSearch c.args.order.now c.args.clear.now ks c.take_out.new.self) (sym (c.in_ok-p.ensures ∙ ap (without c.in-Some.k) (c.as_slice-in-Some.ensures ∙ sym c.as_slice.ensures)))
    (c.take_out.ensures c.args.order.now c.args.clear.now c.as_slice.result.now c.find.ensures.search)

pub returns-in-Some-find-clause-stepped : goal.returns-in-Some-find-clause-stepped
returns-in-Some-find-clause-stepped c =
    let order = c.args.order.now in
    let rows = c.args.clear.now in
    let kept = c.args.p.now.kept in
    let k = c.in-Some-find.k in
    let none : find (may_last order rows kept) kept ≡ None = ap (λ ks. find (may_last order rows ks) ks) (sym c.as_slice.ensures) ∙ sym c.find.ensures.found ∙ c.in_default.is in
    let some : find (may_first order rows kept) kept ≡ Some k = ap (λ ks. find (may_first order rows ks) ks) (sym c.as_slice-2.ensures) ∙ sym c.find-2.ensures.found ∙ c.in-Some-find.is in
    stepped_first order rows c.args.p.now (record { kept = c.in_ok-p-2.field-0; first = c.push-in-Some-find.new.self; late = c.args.p.now.late }) k none some
    (c.in_ok-p-2.ensures ∙ ap (without k) c.as_slice-in-Some-find.ensures) c.in_ok-push-2.ensures.ok refl

pub returns-in-Some-find-clause-search : goal.returns-in-Some-find-clause-search
returns-in-Some-find-clause-search c =
    subst (λ ks. IsSearch c.args.order.now c.args.clear.now ks c.take_out-in-Some-find.new.self)
    (sym (c.in_ok-p-2.ensures ∙ ap (without c.in-Some-find.k) (c.as_slice-in-Some-find.ensures ∙ sym c.as_slice-2.ensures)))
    (c.take_out-in-Some-find.ensures c.args.order.now c.args.clear.now c.as_slice-2.result.now c.find-2.ensures.search)
