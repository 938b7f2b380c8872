use Rattle.std.proofs.Common.{◌≡◌, ◌+◌, ◌≤◌, drop, length}
use Rattle.catalog_semantics.specs.Catalogs.{real_plain}
use Rattle.pp_declared_catalog.proofs.counting.count_real.Given as goal

abbrev pub invariant-loop-i : goal.invariant-loop-i
invariant-loop-i l = (l.count ≤ l.i) × (l.count + length (real_plain (drop l.i l.state.resources)) ≡ length (real_plain l.state.resources))
