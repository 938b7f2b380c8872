use Rattle.std.proofs.Common.{◌≡◌, ◌++◌}
use Rattle.path_domain.proofs.places.lay.Given as goal

-- the paths of the table and those to come are all
abbrev pub invariant-loop-p : goal.invariant-loop-p
invariant-loop-p l = record {
  paths : l.table.paths ++ l.p-iterator ≡ l.paths.keys;
  contents : l.table.contents ≡ l.fn.table.contents;
  next : (goal.iterator-loop-p).can_next l.p-iterator × (goal.iterator-loop-p).is_finite l.p-iterator;
}
