use Rattle.pp_eval.proofs.FactLaws.{read_all, put_proper}
use Rattle.pp_eval.proofs.facts.+value_of_json.Goals as goal

pub pairs_of_json-returns-clause-pairs : goal.pairs_of_json-returns-clause-pairs
pairs_of_json-returns-clause-pairs t c =
    read_all c.loop-key.pairs c.loop-key.key-iterator c.args.members.now.entries c.distinct_pairs_are_kept.ensures c.in-None.ensures.steps.0 c.loop-key.invariant.0 c.iter-key-items.ensures.ordered

pub put_member-returns-clause-proper : goal.put_member-returns-clause-proper
put_member-returns-clause-proper t c =
    put_proper c.pairs_stay_proper.ensures.proper c.args.pairs.now c.put.new.self c.from_string-name.result c.in_ok-value.value c.put.result c.in_ok-value.ensures.proper c.put.ensures.ok
