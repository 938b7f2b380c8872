use Rattle.std.proofs.Common.{sym, subst}
use Rattle.fs_semantics.specs.FileTree.{IsTree}
use Rattle.fs_lang.proofs.TreeLaws.{empty_tree, no_entries}
use Rattle.fs_lang.proofs.tree.Tree.empty.Goals as goal

pub invariant_of-result : goal.invariant_of-result
invariant_of-result c = subst IsTree (sym (no_entries c.new.result c.new.ensures.empty)) empty_tree
