-- How tests and programs are printed.
use Rattle.std.specs.Prelude.{ℕ, List, [], ◌++◌, codes}
use Rattle.json.specs.Print.{quoted}
use Rattle.fs_semantics.specs.FileTree.{Path}
use Rattle.fs_semantics.specs.Programs.{Test, True, False, Not, And, Or, IsFile, IsLink, IsDir, IsEmpty, IsNone, Program, Programs, Id, Err, Mkdir, Creat, Link, Rm, Cp, Steps, If, none, next}
use Rattle.fs_lang.specs.PathText.{path_text}

-- the text of a path, as a JSON string
abbrev pub path_shown : Path → List ℕ
path_shown p = quoted (path_text p)

-- a word with a path behind it in parentheses, or a path and one more argument; the word has the opening one
abbrev pub with_path : List ℕ → Path → List ℕ
with_path word p = word ++ (path_shown p ++ codes ")")

abbrev pub with_two : List ℕ → Path → List ℕ → List ℕ
with_two word p shown = word ++ (path_shown p ++ (codes "," ++ (shown ++ codes ")")))

-- a test as it is printed
abbrev pub test_text : Test → List ℕ
test_text True = codes "true"
test_text False = codes "false"
test_text (Not a) = codes "not " ++ test_text a
test_text (And a b) = codes "(" ++ (test_text a ++ (codes " and " ++ (test_text b ++ codes ")")))
test_text (Or a b) = codes "(" ++ (test_text a ++ (codes " or " ++ (test_text b ++ codes ")")))
test_text (IsFile p) = with_path (codes "file?(") p
test_text (IsLink p) = with_path (codes "link?(") p
test_text (IsDir p) = with_path (codes "dir?(") p
test_text (IsEmpty p) = with_path (codes "emptydir?(") p
test_text (IsNone p) = with_path (codes "none?(") p

-- a sequence stands in brackets, with `; ` between its programs
abbrev mutual
  pub program_text : Program → List ℕ
  program_text Id = codes "id"
  program_text Err = codes "err"
  program_text (Mkdir p) = with_path (codes "mkdir(") p
  program_text (Creat p content) = with_two (codes "creat(") p (quoted content)
  program_text (Link p target) = with_two (codes "link(") p (quoted target)
  program_text (Rm p) = with_path (codes "rm(") p
  program_text (Cp p q) = with_two (codes "cp(") p (path_shown q)
  program_text (Steps es) = codes "[" ++ (steps_text es ++ codes "]")
  program_text (If a e f) = codes "if " ++ (test_text a ++ (codes " then " ++ (program_text e ++ (codes " else " ++ program_text f))))

  pub steps_text : Programs → List ℕ
  steps_text none = []
  steps_text (next e es) = program_text e ++ more_text es

  pub more_text : Programs → List ℕ
  more_text none = []
  more_text (next e es) = codes "; " ++ (program_text e ++ more_text es)
