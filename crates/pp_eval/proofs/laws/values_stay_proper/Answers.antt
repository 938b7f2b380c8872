use Rattle.pp_eval.proofs.DistinctKeys.{stays_proper}
use Rattle.pp_eval.proofs.laws.values_stay_proper.Goals as goal

pub returns : goal.returns
returns c = stays_proper (record {
  sums = c.sums_are_proper.ensures;
  members = c.members_are_proper.ensures;
  lists = c.wholes_are_proper.ensures.lists;
  maps = c.wholes_are_proper.ensures.maps;
  distinct = c.pairs_stay_proper.ensures.distinct;
  proper = c.pairs_stay_proper.ensures.proper;
})
