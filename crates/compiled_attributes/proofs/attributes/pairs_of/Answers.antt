use Rattle.std.proofs.lemmas.Map.Iter.{rest_more, rest_all}
use Rattle.compiled_attributes.proofs.OrderLaws.{next_put, all_put}
use Rattle.pp_value.specs.Keys.{with_pair, with_pairs}
use Rattle.std.proofs.Common.{[], ap, ◌∙◌}
use Rattle.compiled_attributes.proofs.attributes.pairs_of.Goals as goal

pub loop-name-preserved : goal.loop-name-preserved
loop-name-preserved c =
    let next = rest_more (λ p. p) c.loop-name.name-iterator c.next.new.self c.next.result (c.in-Some.name, c.in-Some.x) c.in-Some.is c.next.ensures.steps in
    next_put c.loop-name.pairs c.put.new.self (with_pairs [] c.args.attributes.entries) c.in-Some.name c.in-Some.x c.loop-name.name-iterator c.next.new.self next c.loop-name.invariant
    (c.in_ok-put.ensures.ok ∙ ap (λ k. with_pair k c.in-Some.x c.loop-name.pairs) c.into_text.ensures)

pub returns : goal.returns
returns c =
    all_put c.loop-name.pairs c.args.attributes.entries c.loop-name.name-iterator c.distinct_pairs_are_kept.ensures
    (rest_all (λ p. p) c.loop-name.name-iterator c.next.new.self c.next.result c.in-None.is c.next.ensures.steps) c.loop-name.invariant c.into_iter-name-iterator.ensures.into_iter_gives.5
