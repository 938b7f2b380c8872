use Rattle.std.proofs.Common.{◌≡◌, ◌++◌, List}
use Rattle.fs_semantics.specs.FileTree.{Path, is_among}
use Rattle.commute_prune.specs.Numbers.{IsNumbering, Extends, AreNumbers}
use Rattle.commute_prune.proofs.numbers.number_all.Given as goal

-- the paths so far have these numbers, and the others are still to come
abbrev pub invariant-loop-p : goal.invariant-loop-p
invariant-loop-p l = record {
  numbering : IsNumbering l.numbers;
  extends : Extends l.initial.numbers l.numbers;
  numbers : (front : List Path) × (l.paths.keys ≡ front ++ l.p-iterator) × AreNumbers l.numbers (λ q. is_among q front) l.listed.items;
}
