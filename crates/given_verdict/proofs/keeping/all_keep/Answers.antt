use Rattle.std.proofs.Common.{map}
use Rattle.fs_lang.specs.Meaning.{program_of}
use Rattle.given_verdict.proofs.KeepLaws.{all_stand}
use Rattle.given_verdict.proofs.keeping.all_keep.Goals as goal

pub returns-clause-keeps : goal.returns-clause-keeps
returns-clause-keeps c h = all_stand c.folders.ensures.kept c.args.given.now (map program_of c.args.programs.now) (c.all_spare.ensures h)
