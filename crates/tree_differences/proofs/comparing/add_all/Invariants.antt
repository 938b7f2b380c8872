use Rattle.std.proofs.Common.{ℕ, List}
use Rattle.std.specs.FinMap as finite
use Rattle.fs_lang.specs.Trees.{entries_of}
use Rattle.tree_differences.specs.declared.placing.Difference.{Difference}
use Rattle.tree_differences.specs.Listed.{HasText, AreListed}
use Rattle.tree_differences.proofs.ListLaws.{HasAll}
use Rattle.tree_differences.proofs.comparing.add_all.Given as goal

-- a list that has these texts, and those of the entries that are left, has all
abbrev pub invariant-loop-p : goal.invariant-loop-p
invariant-loop-p l = record {
  listed : AreListed l.first l.second l.initial.into.items → AreListed l.first l.second l.into.items;
  keeps : (text : List ℕ) → HasText l.initial.into.items text → HasText l.into.items text;
  there : (ds : List Difference) → ((text : List ℕ) → HasText l.into.items text → HasText ds text) → HasAll l.first l.second ds (entries_of l.p-iterator) → HasAll l.first l.second ds (finite.entries l.from);
}
