use Rattle.std.proofs.Common.{◌≡◌, length, ap, ◌∙◌, arith}
use Rattle.catalog_semantics.specs.Catalogs.{Catalog}
use Rattle.pp_declaration_state.proofs.FillingLaws.{count_filled, next_at, refuses_at}
use Rattle.pp_declaration_state.proofs.filling.fill_all.Goals as goal

pub returns-in-Err-clause-answers : goal.returns-in-Err-clause-answers
returns-in-Err-clause-answers c =
    let count : c.count-i-end.result ≡ length c.args.catalog.now.resources = c.count-i-end.ensures.count in
    let same = c.loop-i.invariant.1 in
    let below = c.loop-i-test.true in
    refuses_at c.args.defaults.now c.loop-i.i c.loop-i.catalog.resources c.args.catalog.now.resources c.in-Err.fault (omega arith) c.loop-i.invariant.2 c.in-Err.ensures.answers

pub loop-i-preserved : goal.loop-i-preserved
loop-i-preserved c =
    let count : c.count-i-end.result ≡ length c.args.catalog.now.resources = c.count-i-end.ensures.count in
    let same = c.loop-i.invariant.1 in
    let below = c.loop-i-test.true in (
      c.in-Ok.ensures.others ∙ ap (λ (x : Catalog). record x { resources = c.fill_one.new.catalog.resources }) c.loop-i.invariant.0,
      count_filled c.args.defaults.now c.loop-i.i c.loop-i.catalog.resources c.fill_one.new.catalog.resources c.in-Ok.ensures.answers ∙ c.loop-i.invariant.1,
      next_at c.args.defaults.now c.loop-i.i c.loop-i.catalog.resources c.fill_one.new.catalog.resources c.args.catalog.now.resources (omega arith) c.in-Ok.ensures.answers
          c.loop-i.invariant.2,
    )
