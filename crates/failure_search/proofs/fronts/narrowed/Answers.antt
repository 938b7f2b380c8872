use Rattle.std.proofs.Common.{◌≡◌, ◌<◌, suc, length, map, take, ap, ◌∙◌, arith}
use Rattle.fs_semantics.specs.Orders.{outcome}
use Rattle.fs_lang.specs.Meaning.{program_of}
use Rattle.failure_search.proofs.PlaceLaws.{next_fails}
use Rattle.failure_search.proofs.fronts.narrowed.Goals as goal

pub returns : goal.returns
returns c =
    let below : c.halves.low < length c.args.order.now = omega arith in
    let next : suc c.halves.low ≡ c.halves.high = omega arith in
    let fails = ap (λ k. outcome (map program_of c.args.programs.now) (take k c.args.order.now) c.args.tree.now) next ∙ c.halves.invariant.fails in
    (below, c.halves.invariant.ends, next_fails (map program_of c.args.programs.now) c.args.order.now c.args.tree.now c.halves.reached c.halves.low below c.halves.invariant.ends fails)
