use Rattle.std.proofs.Common.{◌≡◌, drop}
use Rattle.catalog_semantics.specs.Catalogs.{all_there}
use Rattle.pp_compile.proofs.compiling.all_there.Given as goal

abbrev pub invariant-loop-p : goal.invariant-loop-p
invariant-loop-p l = all_there (drop l.p-index l.state.pending) l.state ≡ all_there l.state.pending l.state
