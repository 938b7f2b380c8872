-- How much work the questions about programs are.
use Rattle.std.specs.Prelude.{◌≡◌, ◌↔◌, ℕ, ◌+◌, ◌-◌, ◌*◌, ◌^◌, min, IsTrue, List, [], ◌∷◌, Option, Some, None, length, if◌then◌else◌}
use Rattle.std.specs.List.Sorted.{IsStrictlySortedBy}
use Rattle.std.specs.BTreeMap.{BTreeMap, get}
use Rattle.fs_semantics.specs.FileTree.{Path, path_cmp, path_eq, parent, is_among}
use Rattle.fs_semantics.specs.Programs.{Test, True, False, Not, And, Or, IsFile, IsLink, IsDir, IsEmpty, IsNone, Program, Programs, Id, Err, Mkdir, Creat, Link, Rm, Cp, Steps, If, none, next}
use Rattle.finite_domain.specs.Domains.{IsNamed}

-- how many of the paths are children of p
abbrev pub child_count : List Path → Path → ℕ
child_count [] p = 0
child_count (q ∷ ps) p = (if path_eq (parent q) p then 1 else 0) + child_count ps p

-- each question about a path is 1, and one about its children as many more as it has
abbrev pub test_work : (Path → ℕ) → Test → ℕ
test_work children True = 0
test_work children False = 0
test_work children (Not a) = test_work children a
test_work children (And a b) = test_work children a + test_work children b
test_work children (Or a b) = test_work children a + test_work children b
test_work children (IsFile p) = 1
test_work children (IsLink p) = 1
test_work children (IsDir p) = 1
test_work children (IsEmpty p) = 1 + children p
test_work children (IsNone p) = 1

-- each change is 1, and a removal as many more as the path has children
abbrev mutual
  pub work : (Path → ℕ) → Program → ℕ
  work children Id = 0
  work children Err = 0
  work children (Mkdir p) = 1
  work children (Creat p content) = 1
  work children (Link p target) = 1
  work children (Rm p) = 1 + children p
  work children (Cp from p) = 1
  work children (Steps es) = steps_work children es
  work children (If a e f) = test_work children a + (work children e + work children f)

  pub steps_work : (Path → ℕ) → Programs → ℕ
  steps_work children none = 0
  steps_work children (next e es) = work children e + steps_work children es

-- the work of all programs
abbrev pub all_work : (Path → ℕ) → List Program → ℕ
all_work children [] = 0
all_work children (e ∷ es) = work children e + all_work children es

-- at most the greatest u64
abbrev pub capped : ℕ → ℕ
capped n = min n (2 ^ 64 - 1)

-- Twice the number of programs, times the work of all; children count where they are named paths.
pub record Weighs (es : List Program) (w : ℕ) : Type 0 where
  pub named : List Path
  pub in_order : IsStrictlySortedBy path_cmp named
  pub named_are : (p : Path) → IsTrue (is_among p named) ↔ IsNamed es p
  pub weight : w ≡ capped (2 * length es * all_work (child_count named) es)

-- the number, 0 where there is none
abbrev pub or_zero : Option ℕ → ℕ
or_zero None = 0
or_zero (Some n) = n

-- what a map of counts has for a path
abbrev pub count_in : BTreeMap Path ℕ → Path → ℕ
count_in counts p = or_zero (get path_cmp counts p)
