use Rattle.std.proofs.Common.{◌≡◌, ◌++◌, drop}
use Rattle.compiled_relations.specs.Links.{kept_behind}
use Rattle.compiled_relations.proofs.links.kept_behind.Given as goal

-- the pairs so far, with those that are kept of what is left
abbrev pub invariant-loop-pair : goal.invariant-loop-pair
invariant-loop-pair l = l.kept ++ kept_behind l.seen (drop l.pair-index l.pairs) ≡ kept_behind l.fn.before l.pairs
