-- Trees by their entries.
use Rattle.std.proofs.Common.{◌≡◌, List, [], sym, ap, ◌∙◌}
use Rattle.std.specs.FinMap as map
use Rattle.std.specs.FinMap.{same_entries_map}
use Rattle.fs_semantics.specs.FileTree.{Path, Tree}
use Rattle.fs_lang.specs.declared.program.Entry.{Entry}
use Rattle.fs_lang.specs.Trees.{entries_of}

-- where no entries are left, the trees are one if they are where what is left is the same
pub both_end : (t u : Tree) (xs ys : List (Path × Entry)) → xs ≡ [] → ys ≡ [] → (entries_of xs ≡ entries_of ys → map.entries t ≡ map.entries u) → t ≡ u
both_end t u xs ys h k told = same_entries_map t u (told (ap entries_of (h ∙ sym k)))
