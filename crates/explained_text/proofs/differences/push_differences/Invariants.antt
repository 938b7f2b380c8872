use Rattle.std.proofs.Common.{◌≡◌, ◌++◌, map, drop}
use Rattle.tree_differences.specs.Listed.{difference_of}
use Rattle.explained_text.specs.Lines.{difference_lines}
use Rattle.explained_text.proofs.differences.push_differences.Given as goal

-- what was written, with the lines that are left
abbrev pub invariant-loop-difference : goal.invariant-loop-difference
invariant-loop-difference l = l.into ++ difference_lines (map difference_of (drop l.difference-index l.differences)) ≡ l.initial.into ++ difference_lines (map difference_of l.differences)
