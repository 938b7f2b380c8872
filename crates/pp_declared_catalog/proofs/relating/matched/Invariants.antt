use Rattle.std.proofs.Common.{◌≡◌, ◌++◌, drop}
use Rattle.std.specs.Prelude.{Some}
use Rattle.catalog_semantics.specs.Catalogs.{matched}
use Rattle.pp_declared_catalog.proofs.relating.matched.Given as goal

abbrev pub invariant-loop-i : goal.invariant-loop-i
invariant-loop-i l = l.refs ++ matched (drop l.i l.state.resources) (Some l.c) ≡ matched l.state.resources (Some l.c)
