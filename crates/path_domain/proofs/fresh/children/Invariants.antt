use Rattle.std.proofs.Common.{◌≡◌, ◌||◌, ◌++◌, ◌∷◌, []}
use Rattle.std.specs.List.{list_any}
use Rattle.fs_semantics.specs.FileTree.{Path, path_eq}
use Rattle.path_domain.specs.Gathered.{members}
use Rattle.path_domain.proofs.fresh.children.Given as goal

-- the children so far and those of the paths to come
abbrev pub invariant-loop-p : goal.invariant-loop-p
invariant-loop-p l = (q : Path) → (list_any (λ p. path_eq q (p ++ l.name ∷ [])) l.p-iterator || members l.set q) ≡ list_any (λ p. path_eq q (p ++ l.name ∷ [])) l.paths.keys
