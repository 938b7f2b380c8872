use Rattle.std.proofs.Common.{drop, map}
use Rattle.fs_lang.specs.Meaning.{program_of}
use Rattle.model_semantics.specs.Models.{programs}
use Rattle.res_models.specs.Seen.{resources_at}
use Rattle.res_models.proofs.ProgramLaws.{AreMade}
use Rattle.res_models.proofs.programs.programs_of.Given as goal

abbrev pub invariant-loop-i : goal.invariant-loop-i
invariant-loop-i l = AreMade l.barred l.listing l.places (map program_of l.made.items) (resources_at l.catalog.resources (drop l.i-index l.plain)) (programs l.barred l.listing (resources_at l.catalog.resources l.plain))
