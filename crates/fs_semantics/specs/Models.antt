-- The program that puts a file.
use Rattle.std.specs.Prelude.{ℕ, List}
use Rattle.fs_semantics.specs.FileTree.{Path}
use Rattle.fs_semantics.specs.Programs.{Program, Creat, Rm, Steps, If, IsFile, none, next}

-- a file with this content, whether one was there or not
abbrev pub put : Path → List ℕ → Program
put p content = If (IsFile p) (Steps (next (Rm p) (next (Creat p content) none))) (Creat p content)
