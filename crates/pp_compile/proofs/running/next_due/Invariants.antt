use Rattle.std.proofs.Common.{◌≡◌, drop}
use Rattle.catalog_semantics.specs.Catalogs.{next_due}
use Rattle.pp_compile.proofs.running.next_due.Given as goal

abbrev pub invariant-loop-i : goal.invariant-loop-i
invariant-loop-i l = next_due l.state l.i (drop l.i l.state.resources) ≡ next_due l.state 0 l.state.resources
