use Rattle.catalog.specs.Adding.{made_real}
use Rattle.catalog.proofs.SizeLaws.{set_is}
use Rattle.catalog.proofs.listed.set_real.Goals as goal

pub returns : goal.returns
returns c = set_is made_real c.args.resources.now.items c.args.place _ c.index_mut-r.result.now c.index_mut-r.ensures.value c.requires
