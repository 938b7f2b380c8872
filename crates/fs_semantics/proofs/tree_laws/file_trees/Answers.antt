use Rattle.fs_semantics.proofs.Words.{same_tree, with_inserted, with_removed}
use Rattle.fs_semantics.proofs.Keys.{keys_word}
use Rattle.fs_semantics.proofs.tree_laws.file_trees.Goals as goal

pub returns : goal.returns
returns c = record { same = same_tree; put = with_inserted; taken = with_removed; keys = keys_word }
