-- A plan as contracts see it.
use Rattle.std.specs.Prelude.{List, map}
use Rattle.fs_semantics.specs.Programs.{Program}
use Rattle.fs_lang.specs.Meaning.{program_of}
use Rattle.plans.specs.declared.plan.Plan.{Plan}

-- what its programs mean
abbrev pub meant_by : Plan → List Program
meant_by p = map program_of p.programs.now
