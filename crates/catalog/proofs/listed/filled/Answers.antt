use Rattle.std.proofs.Common.{◌≡◌, ap, sym, ◌∙◌, length, arith}
use Rattle.std.proofs.lemmas.List.{drop_all}
use Rattle.catalog.specs.Adding.{with_all_lacking}
use Rattle.catalog.proofs.Filling.{filled_is}
use Rattle.catalog.proofs.listed.filled.Goals as goal

pub returns : goal.returns
returns c =
    let same : length c.as_slice-pair-items.result.now ≡ length c.args.pairs.now = ap length c.as_slice-pair-items.ensures.pairs in
    let ended = c.loop-pair-test.false in
    sym (ap (with_all_lacking c.loop-pair.whole) (drop_all c.loop-pair.pair-index c.args.pairs.now (omega arith)))
    ∙ (c.loop-pair.invariant ∙ filled_is c.args.attributes.now c.args.pairs.now c.as_slice-pair-items.ensures.distinct)
