use Rattle.std.proofs.Common.{◌≡◌, ◌++◌, drop}
use Rattle.compiled_relations.specs.Links.{files_from, pairs_from, link_pairs}
use Rattle.compiled_relations.proofs.links.link_pairs.Given as goal

-- the pairs so far, with those that are left
abbrev pub invariant-loop-place : goal.invariant-loop-place
invariant-loop-place l = l.pairs ++ pairs_from (files_from 0 l.catalog.resources) l.place (drop l.place l.catalog.resources) ≡ link_pairs l.catalog
