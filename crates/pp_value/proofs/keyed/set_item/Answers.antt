use Rattle.pp_value.proofs.PlaceLaws.{set_is}
use Rattle.pp_value.proofs.keyed.set_item.Goals as goal

pub returns : goal.returns
returns g c = set_is c.args.pairs.now.items c.args.place _ c.index_mut-pair.result.now c.args.item c.index_mut-pair.ensures.value c.requires
