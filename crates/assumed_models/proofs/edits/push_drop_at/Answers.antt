use Rattle.std.proofs.Common.{map}
use Rattle.fs_lang.specs.Meaning.{program_of}
use Rattle.assumed_models.proofs.EditLaws.{none_there}
use Rattle.assumed_models.proofs.edits.push_drop_at.Goals as goal

pub returns-in-None : goal.returns-in-None
returns-in-None c = none_there c.args.place (map program_of c.args.steps.now) c.args.edits.now c.args.i c.in-None.ensures.lookup.3
