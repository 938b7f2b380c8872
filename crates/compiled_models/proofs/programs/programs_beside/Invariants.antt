use Rattle.std.proofs.Common.{[], drop, map}
use Rattle.fs_lang.specs.Meaning.{program_of}
use Rattle.compiled_models.specs.Programs.{natives_at, programs_behind}
use Rattle.compiled_models.specs.Hosts.{setting_of}
use Rattle.compiled_models.proofs.ProgramLaws.{AreMade}
use Rattle.compiled_models.proofs.programs.programs_beside.Given as goal

abbrev pub invariant-loop-place : goal.invariant-loop-place
invariant-loop-place l =
    AreMade (setting_of l.host) l.edits l.places (map program_of l.made) (natives_at l.host.catalog.now.resources l.catalog.resources (drop l.place-index l.plain))
    (programs_behind (setting_of l.host) l.edits [] (natives_at l.host.catalog.now.resources l.catalog.resources l.plain))
