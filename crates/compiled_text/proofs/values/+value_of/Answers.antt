use Rattle.compiled_text.proofs.ValueLaws.{all_put, put_stays}
use Rattle.compiled_text.proofs.values.+value_of.Goals as goal

pub pairs_of-returns-clause-pairs : goal.pairs_of-returns-clause-pairs
pairs_of-returns-clause-pairs t c =
    all_put c.loop-key.pairs c.loop-key.key-iterator c.args.members.now.entries c.distinct_pairs_are_kept.ensures c.in-None.ensures.steps.0 c.loop-key.invariant.0 c.iter-key-items.ensures.ordered

pub put_pair-returns-clause-proper : goal.put_pair-returns-clause-proper
put_pair-returns-clause-proper t c =
    put_stays c.pairs_stay_proper.ensures.proper c.args.pairs.now c.put.new.self c.in_ok-name.name c.in_ok-value.value c.put.result c.in_ok-value.ensures.proper c.put.ensures.ok
