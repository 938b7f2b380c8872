use Rattle.std.proofs.Common.{◌≡◌}
use Rattle.serde_json.specs.View.{members_view}
use Rattle.fs_lang.specs.Trees.{entries_of}
use Rattle.tree_text.specs.TreeText.{members_with, members_of}
use Rattle.tree_text.proofs.writing.members_of.Given as goal

-- the members so far, with those of the entries that are left
abbrev pub invariant-loop-p : goal.invariant-loop-p
invariant-loop-p l = members_with (members_view l.members.entries) (entries_of l.p-iterator) ≡ members_of l.tree
