use Rattle.std.proofs.Common.{◌≡◌, ◌++◌, map, drop}
use Rattle.std.specs.List.{AllByRecursion}
use Rattle.commute_prune.specs.Numbered.{is_clear, IsBelow}
use Rattle.commute_prune.proofs.matrix.clear_rows.Given as goal

-- the rows so far, and the rest of them
abbrev pub invariant-loop-f : goal.invariant-loop-f
invariant-loop-f l = record {
  rows : l.rows ++ map (λ f. map (is_clear f) l.all) (drop l.f-index l.all) ≡ map (λ f. map (is_clear f) l.all) l.all;
  below : AllByRecursion (IsBelow l.count) (drop l.f-index l.all);
}
