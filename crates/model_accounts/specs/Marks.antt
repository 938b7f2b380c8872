-- The marks of groups that are added.
use Rattle.std.specs.Prelude.{◌≡◌, ℕ, List, ◌++◌, Result, Ok, Err}
use Rattle.fs_semantics.specs.FileTree.{Path}
use Rattle.model_semantics.specs.declared.kinds.ModelFault.{ModelFault}
use Rattle.model_semantics.specs.declared.kinds.ModelFault.TheVariants as fault
use Rattle.model_semantics.specs.Names.{group_marks}

-- The marks of some names are added, or the cause is told.
abbrev pub AddsMarks : List (List ℕ) → Result (Unit {0}) ModelFault → List Path → List Path → Type 0
AddsMarks names (Ok done) old new = (marks : List Path) × (group_marks names ≡ Ok marks) × (new ≡ old ++ marks)
AddsMarks names (Err (fault.Because c)) old new = group_marks names ≡ Err c
AddsMarks names (Err (fault.Memory m)) old new = Unit {0}
