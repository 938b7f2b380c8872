use Rattle.std.proofs.Common.{◌≡◌, ◌++◌, drop}
use Rattle.compiled_models.specs.Programs.{natives_at, edits_of}
use Rattle.compiled_models.specs.Hosts.{setting_of}
use Rattle.compiled_models.proofs.edits.edits_of.Given as goal

-- the edits so far, with those of the resources that are left
abbrev pub invariant-loop-place : goal.invariant-loop-place
invariant-loop-place l =
    l.edits ++ edits_of (setting_of l.host) (natives_at l.host.catalog.now.resources l.catalog.resources (drop l.place-index l.plain))
    ≡ edits_of (setting_of l.host) (natives_at l.host.catalog.now.resources l.catalog.resources l.plain)
