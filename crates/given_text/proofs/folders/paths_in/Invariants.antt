use Rattle.std.proofs.Common.{◌≡◌, ◌++◌, map}
use Rattle.std.specs.FinMap as finite
use Rattle.fs_lang.specs.Trees.{entries_of}
use Rattle.given_text.proofs.folders.paths_in.Given as goal

-- the paths so far, with those of the entries that are left
abbrev pub invariant-loop-path : goal.invariant-loop-path
invariant-loop-path l = l.paths ++ map (λ e. e.0) (entries_of l.path-iterator) ≡ finite.keys l.tree
