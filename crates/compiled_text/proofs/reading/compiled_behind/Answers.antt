use Rattle.serde_json.specs.View.{items_view}
use Rattle.compiled_text.proofs.ReadLaws.{inner_stand, kept}
use Rattle.compiled_text.proofs.reading.compiled_behind.Goals as goal

pub holders_of-requires : goal.holders_of-requires
holders_of-requires c =
    inner_stand c.args.resources c.as_slice-3.result.now c.as_slice-4.result.now c.in_ok-edges.edges c.as_slice-5.result.now (items_view c.in-Some.items.now) c.in_ok-edges.ensures c.as_slice-3.ensures c.as_slice-4.ensures c.as_slice-5.ensures

pub of-requires : goal.of-requires
of-requires c =
    kept c.args.resources c.as_slice.result.now c.as_slice-2.result.now c.as_slice-3.result.now c.as_slice-4.result.now c.in_ok-edges.edges c.as_slice-5.result.now (items_view c.in-Some.items.now) c.in_ok-refs.refs c.in_ok-are_apart.field-0
    c.in_ok-holders.holders c.requires c.in_ok-refs.ensures c.as_slice.ensures c.in_ok-are_apart.ensures c.if-not-branch.false c.as_slice-2.ensures c.in_ok-edges.ensures c.as_slice-3.ensures c.in_ok-holders.ensures.free c.in_ok-holders.ensures.holders
    c.as_slice-4.ensures c.as_slice-5.ensures
