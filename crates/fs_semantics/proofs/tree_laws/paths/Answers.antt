use Rattle.fs_semantics.proofs.Trees.{path_eq_word, among_word, parent_is_above, parent_of_child, parent_and_last}
use Rattle.fs_semantics.proofs.tree_laws.paths.Goals as goal

pub returns : goal.returns
returns c = record { same = path_eq_word; among = among_word; above = parent_is_above; child = parent_of_child; last = parent_and_last }
