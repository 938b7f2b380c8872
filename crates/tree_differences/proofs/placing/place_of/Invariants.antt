use Rattle.std.proofs.Common.{◌≡◌, ◌++◌, take, drop}
use Rattle.tree_differences.specs.declared.placing.Difference.{Difference}
use Rattle.tree_differences.specs.Listed.{placed}
use Rattle.tree_differences.proofs.placing.place_of.Given as goal

-- it belongs behind those so far
abbrev pub invariant-loop-i : goal.invariant-loop-i
invariant-loop-i l = (d : Difference) → d.text ≡ l.text → placed d l.list ≡ take l.i l.list ++ placed d (drop l.i l.list)
