use Rattle.std.proofs.Common.{◌≡◌, take}
use Rattle.compiled_relations.specs.Links.{with_relations}
use Rattle.compiled_relations.proofs.links.add_relations.Given as goal

-- the catalog with the relations of the pairs so far
abbrev pub invariant-loop-pair : goal.invariant-loop-pair
invariant-loop-pair l = l.catalog ≡ with_relations l.fn.catalog (take l.pair-index l.pairs)
