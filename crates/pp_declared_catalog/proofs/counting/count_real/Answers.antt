use Rattle.std.proofs.Common.{◌+◌, ◌≤◌, cond, drop, length, ap, sym, ◌∙◌, arith}
use Rattle.catalog_semantics.specs.Catalogs.{real_plain}
use Rattle.pp_declared_catalog.proofs.ResultLaws.{next_count}
use Rattle.pp_declared_catalog.proofs.counting.count_real.Goals as goal

pub loop-i-preserved : goal.loop-i-preserved
loop-i-preserved c =
    let below : c.loop-i.count ≤ c.loop-i.i = c.loop-i.invariant.0 in
    let few : c.one_if-more.result ≤ 1 = c.one_if-more.ensures.few in (
      omega (arith, below, few),
      sym (next_count c.args.state.now.resources c.loop-i.i c.loop-i.count c.get.result.now c.get.ensures
          ∙ ap (λ k. (c.loop-i.count + k) + length (real_plain (drop (c.loop-i.i + 1) c.args.state.now.resources))) (sym (c.one_if-more.ensures.one ∙ ap (λ b. cond b 1 0) c.is_real_plain.ensures)))
          ∙ c.loop-i.invariant.1,
    )
