-- Edits that are lost where the whole file is written anew: a program in which the marks of edits go with the file.
use Rattle.std.specs.Prelude.{◌≡◌, ◌⊎◌, List, [], ◌∷◌, map}
use Rattle.fs_semantics.specs.FileTree.{Path}
use Rattle.fs_semantics.specs.Programs.{Program, Programs, Id, Err, Mkdir, Creat, Link, Rm, Cp, Steps, If, none, next}
use Rattle.model_semantics.specs.Words.{sequence, drop_file}

-- ---- what writes a file anew

-- the program may write, copy or remove the file or the link at the path
abbrev mutual
  pub Writes : Program → Path → Type 0
  Writes Id q = ⊥
  Writes Err q = ⊥
  Writes (Mkdir p) q = ⊥
  Writes (Creat p content) q = q ≡ p
  Writes (Link p target) q = q ≡ p
  Writes (Rm p) q = q ≡ p
  Writes (Cp from p) q = q ≡ p
  Writes (Steps es) q = WritesInSteps es q
  Writes (If a e f) q = Writes e q ⊎ Writes f q

  pub WritesInSteps : Programs → Path → Type 0
  WritesInSteps none q = ⊥
  WritesInSteps (next e es) q = Writes e q ⊎ WritesInSteps es q

-- ---- the program with the edits lost

-- the marks of the edits of a path go
abbrev pub drops : List Path → List Program
drops marks = map drop_file marks

-- what follows a construct: where it writes a path, the marks of the edits of the path go
abbrev pub drops_behind : (Path → List Path) → Program → List Program
drops_behind marks Id = []
drops_behind marks Err = []
drops_behind marks (Mkdir p) = []
drops_behind marks (Creat p content) = drops (marks p)
drops_behind marks (Link p target) = drops (marks p)
drops_behind marks (Rm p) = drops (marks p)
drops_behind marks (Cp from p) = drops (marks p)
drops_behind marks (Steps es) = []
drops_behind marks (If a e f) = []

-- steps ahead of others
abbrev pub ahead : List Program → Programs → Programs
ahead [] es = es
ahead (f ∷ fs) es = next f (ahead fs es)

-- a construct in which edits are lost, without what follows it
abbrev mutual
  pub inside : (Path → List Path) → Program → Program
  inside marks Id = Id
  inside marks Err = Err
  inside marks (Mkdir p) = Mkdir p
  inside marks (Creat p content) = Creat p content
  inside marks (Link p target) = Link p target
  inside marks (Rm p) = Rm p
  inside marks (Cp from p) = Cp from p
  inside marks (Steps es) = Steps (all_inside marks es)
  inside marks (If a e f) = If a (sequence (inside marks e ∷ drops_behind marks e)) (sequence (inside marks f ∷ drops_behind marks f))

  -- steps, each with what follows it
  pub all_inside : (Path → List Path) → Programs → Programs
  all_inside marks none = none
  all_inside marks (next e es) = next (inside marks e) (ahead (drops_behind marks e) (all_inside marks es))

-- a construct and what follows it
abbrev pub lost_steps : (Path → List Path) → Program → List Program
lost_steps marks e = inside marks e ∷ drops_behind marks e

-- The program in which each construct that writes a path is directly followed by the drops of the marks of the path's edits.
abbrev pub with_lost_edits : (Path → List Path) → Program → Program
with_lost_edits marks e = sequence (lost_steps marks e)

-- ---- what is lost

abbrev pub IsOneOf : Path → List Path → Type 0
IsOneOf q [] = ⊥
IsOneOf q (p ∷ ps) = (q ≡ p) ⊎ IsOneOf q ps

-- it is the mark of an edit of a path that the program writes
abbrev pub LosesOne : (Path → List Path) → Program → Path → Type 0
LosesOne marks e q = (p : Path) × Writes e p × IsOneOf q (marks p)
