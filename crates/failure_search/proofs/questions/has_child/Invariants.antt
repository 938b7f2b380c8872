use Rattle.std.proofs.Common.{◌≡◌, map}
use Rattle.std.specs.List.{list_any}
use Rattle.std.specs.FinMap as finite
use Rattle.fs_semantics.specs.FileTree.{parent, path_eq}
use Rattle.fs_lang.specs.Trees.{entries_of}
use Rattle.failure_search.proofs.questions.has_child.Given as goal

-- a child is among those that are left where one is there at all
abbrev pub invariant-loop-q : goal.invariant-loop-q
invariant-loop-q l = list_any (λ r. path_eq (parent r) l.p) (map (λ x. x.0) (entries_of l.q-iterator)) ≡ list_any (λ r. path_eq (parent r) l.p) (finite.keys l.tree)
