use Rattle.std.proofs.Common.{cond, Some, None, Ok, ◌||◌}
use Rattle.fs_semantics.specs.Programs.{Id}
use Rattle.compiled_attributes.specs.Attributes.{is_noop}
use Rattle.compiled_models.specs.Programs.{assumed_of, is_idle}
use Rattle.compiled_models.proofs.AlikeLaws.{assumed_wins, unassumed_told}
use Rattle.compiled_models.proofs.laws.assumed_resources.Goals as goal

pub returns-clause-assumed : goal.returns-clause-assumed
returns-clause-assumed c s n h = assumed_wins n.resource (assumed_of s n) (cond (is_noop n.text || is_idle n.resource) (Some (Ok Id)) None) h

pub returns-clause-others : goal.returns-clause-others
returns-clause-others c = unassumed_told
