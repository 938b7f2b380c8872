-- Words within the crate.
use Rattle.std.specs.Prelude.{◌≡◌, ℕ, ◌==◌, if◌then◌else◌, List, [], ◌∷◌, Some}
use Rattle.fs_semantics.specs.FileTree.{Tree}
use Rattle.fs_semantics.specs.Programs.{Program}
use Rattle.fs_semantics.specs.Orders.{outcome}
use Rattle.verdict_text.specs.Lines.{name_at}
use Rattle.explained_runs.specs.Lines.{apart_lines, again_lines}
use Rattle.explained_runs.specs.Told.{TellsHow, ListsWhere}

-- what stands at the first place at which two lists differ
abbrev pub first_apart : List ℕ → List ℕ → ℕ × ℕ
first_apart [] other = (0, 0)
first_apart (i ∷ order) [] = (0, 0)
first_apart (i ∷ order) (j ∷ other) = if i == j then first_apart order other else (i, j)

-- the lines on two orders, whatever they are
pub record TellsBoth (names : List (List ℕ)) (es : List Program) (t : Tree) (left right lines : List ℕ) : Type 0 where
  pub how : List ℕ
  pub first : TellsHow names es left t how
  pub other : List ℕ
  pub second : TellsHow names es right t other
  pub list : List ℕ
  pub differences : ListsWhere (outcome es left t) (outcome es right t) list
  pub are : lines ≡ apart_lines (name_at names (first_apart left right).0) (name_at names (first_apart left right).1) t how other list

-- the lines on a second run, where the first began in one tree and ended in another
pub record TellsSecond (names : List (List ℕ)) (es : List Program) (t : Tree) (turns : List ℕ) (after : Tree)
    (lines : List ℕ) : Type 0 where
  pub how : List ℕ
  pub second : TellsHow names es turns after how
  pub list : List ℕ
  pub differences : ListsWhere (Some after) (outcome es turns after) list
  pub are : lines ≡ again_lines t how list
