use Rattle.std.proofs.Common.{◌≡◌, ◌++◌, drop}
use Rattle.compiled_relations.specs.Links.{files_from}
use Rattle.compiled_relations.proofs.links.files_of.Given as goal

-- the files so far, with those that are left
abbrev pub invariant-loop-place : goal.invariant-loop-place
invariant-loop-place l = l.files ++ files_from l.place (drop l.place l.catalog.resources) ≡ files_from 0 l.catalog.resources
