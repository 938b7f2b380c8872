use Rattle.model_semantics.specs.Words.{ancestors}
use Rattle.model_packages.proofs.KeptLaws.{kept_last}
use Rattle.model_packages.proofs.folders.keep_folder.Goals as goal

pub returns : goal.returns
returns c = kept_last c.args.set.now c.keep_above.new.set c.insert.new.self (ancestors c.args.d.now) c.args.d.now c.in_ok-keep_above.ensures c.in_ok-insert.ensures.paths
