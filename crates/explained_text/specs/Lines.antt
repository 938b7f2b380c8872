-- Lines on runs and on differences.
use Rattle.std.specs.Prelude.{ℕ, List, [], ◌∷◌, ◌++◌, codes}
use Rattle.fs_semantics.specs.Programs.{Program}
use Rattle.tree_text.specs.ProgramText.{path_shown}
use Rattle.failure_semantics.specs.Failures.{Reason}
use Rattle.tree_differences.specs.Differences.{Difference}
use Rattle.explained_text.specs.Words.{step_words, found_words}

-- the run fails at the resource of this name, by this construct and for this reason
abbrev pub fails_words : List ℕ → Program → Reason → List ℕ
fails_words name e why = codes "fails at " ++ (name ++ (codes ": " ++ step_words e why))

-- the line on a path at which two trees differ
abbrev pub difference_line : Difference → List ℕ
difference_line d = codes "at " ++ (path_shown d.path ++ (codes ": " ++ (found_words d.first ++ (codes " | " ++ (found_words d.second ++ codes "\n")))))

-- one behind the other
abbrev pub difference_lines : List Difference → List ℕ
difference_lines [] = []
difference_lines (d ∷ ds) = difference_line d ++ difference_lines ds
