use Rattle.std.proofs.Common.{length, sym, subst, ◌<◌}
use Rattle.std.specs.List.{AllByRecursion}
use Rattle.success.proofs.asking.try_end.Goals as goal

pub first_end-requires : goal.first_end-requires
first_end-requires c =
    let n = length c.args.plan.now.programs.now in
    let low = subst (λ m. AllByRecursion (λ k. k < m) c.in_ok-first.first) (sym c.args.plan.now.count) c.in_ok-first.ensures.allowed.below in
    subst (AllByRecursion (λ k. k < n)) (sym c.as_slice.ensures) low
