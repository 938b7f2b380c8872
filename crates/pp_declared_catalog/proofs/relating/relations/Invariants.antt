use Rattle.std.proofs.Common.{◌≡◌, ◌++◌, map, drop}
use Rattle.catalog_semantics.specs.Catalogs.{relation_of}
use Rattle.pp_declared_catalog.proofs.relating.relations.Given as goal

abbrev pub invariant-loop-tie : goal.invariant-loop-tie
invariant-loop-tie l = l.all ++ map (relation_of l.state) (drop l.tie-index l.state.ties) ≡ map (relation_of l.state) l.state.ties
