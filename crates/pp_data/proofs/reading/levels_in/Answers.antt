use Rattle.std.proofs.Common.{◌+◌, ◌++◌, drop, option_map, ap, sym, ◌∙◌}
use Rattle.serde_json.specs.View.{view, items_view}
use Rattle.pp_data.specs.Reading.{levels_in}
use Rattle.pp_data.proofs.FormLaws.{next_level, items_from}
use Rattle.pp_data.proofs.LookupLaws.{all_pushed}
use Rattle.pp_data.proofs.reading.levels_in.Goals as goal

pub loop-item-preserved : goal.loop-item-preserved
loop-item-preserved c =
    let items = c.deref-item-items.result.now in
    let i = c.loop-item.item-index in (
      next_level c.loop-item.levels _ (view c.item-item.result) (items_view (drop (i + 1) items)) c.in_ok-level_in.field-0 _ c.in_ok-push.ensures.ok c.in_ok-level_in.ensures.level
          (ap (λ rest. option_map (λ more. c.loop-item.levels ++ more) (levels_in rest)) (sym (items_from items i c.item-item.result c.loop-item-test.true c.item-item.is)) ∙ c.loop-item.invariant.0),
      all_pushed c.loop-item.levels _ c.in_ok-level_in.field-0 c.in_ok-push.ensures.ok c.loop-item.invariant.1 c.in_ok-level_in.ensures.proper,
    )
