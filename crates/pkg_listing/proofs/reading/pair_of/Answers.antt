use Rattle.std.proofs.Common.{◌∷◌, ap, sym, ◌∙◌}
use Rattle.pkg_listing.proofs.ReadLaws.{too_many}
use Rattle.pkg_listing.proofs.reading.pair_of.Goals as goal

pub returns-then-not-is_empty-clause-file : goal.returns-then-not-is_empty-clause-file
returns-then-not-is_empty-clause-file c =
    too_many c.args.items.now c.in-Some-split_first.more.now c.in-Some.first.now c.in-Some-split_first.second.now (c.in-Some.ensures.cases.0 ∙ ap (λ l. c.in-Some.first.now ∷ l) c.in-Some-split_first.ensures.cases.0) (sym c.is_empty.ensures ∙ c.if-not-is_empty.true)
