-- What the tests, programs and entries of the code stand for.
use Rattle.std.specs.Prelude.{◌≡◌, List, [], ◌∷◌, refl}
use Rattle.fs_semantics.specs.Programs as model
use Rattle.fs_semantics.specs.FileTree as tree
use Rattle.fs_lang.specs.declared.program.Entry.{Entry}
use Rattle.fs_lang.specs.declared.program.Entry.TheVariants as entry
use Rattle.fs_lang.specs.declared.program.Test.{Test, Row_of-Test, end_of-Test, more_of-Test}
use Rattle.fs_lang.specs.declared.program.Test.TheVariants as test
use Rattle.fs_lang.specs.declared.program.Test.TheBlock as tests
use Rattle.fs_lang.specs.declared.program.Program.{Program, Row_of-Program, end_of-Program, more_of-Program}
use Rattle.fs_lang.specs.declared.program.Program.TheVariants as program
use Rattle.fs_lang.specs.declared.program.Program.TheBlock as block

-- the test of the definitions
abbrev mutual
  pub test_of : Test → model.Test
  test_of test.True = model.True
  test_of test.False = model.False
  test_of (test.Not' shape a) = model.Not (boxed_test a)
  test_of (test.And' left a right b) = model.And (boxed_test a) (boxed_test b)
  test_of (test.Or' left a right b) = model.Or (boxed_test a) (boxed_test b)
  test_of (test.IsFile p) = model.IsFile p
  test_of (test.IsLink p) = model.IsLink p
  test_of (test.IsDir p) = model.IsDir p
  test_of (test.IsEmpty p) = model.IsEmpty p
  test_of (test.IsNone p) = model.IsNone p

  -- a box is a row of one
  boxed_test : {m : _} → Row_of-Test m → model.Test
  boxed_test end_of-Test = model.True
  boxed_test (more_of-Test a rest) = test_of a

-- the program of the definitions
abbrev mutual
  pub program_of : Program → model.Program
  program_of program.Id = model.Id
  program_of program.Err = model.Err
  program_of (program.Mkdir p) = model.Mkdir p
  program_of (program.Creat p content) = model.Creat p content
  program_of (program.Link p target) = model.Link p target
  program_of (program.Rm p) = model.Rm p
  program_of (program.Cp p q) = model.Cp p q
  program_of (program.Steps' shape all) = model.Steps (programs_of all)
  program_of (program.If' a left e right f) = model.If (test_of a) (boxed_program e) (boxed_program f)

  pub programs_of : {m : _} → Row_of-Program m → model.Programs
  programs_of end_of-Program = model.none
  programs_of (more_of-Program e rest) = model.next (program_of e) (programs_of rest)

  boxed_program : {m : _} → Row_of-Program m → model.Program
  boxed_program end_of-Program = model.Id
  boxed_program (more_of-Program e rest) = program_of e

-- the programs of a list, as steps
abbrev pub programs_in : List Program → model.Programs
programs_in [] = model.none
programs_in (e ∷ es) = model.next (program_of e) (programs_in es)

-- what is made of boxes, part by part
pub test_of_not : (a : Test) → test_of (test.Not a) ≡ model.Not (test_of a)
unfolding tests.hidden-the_row-Test-0 denote.Hole.Carrier.hidden
test_of_not a = refl

pub test_of_and : (a b : Test) → test_of (test.And a b) ≡ model.And (test_of a) (test_of b)
unfolding tests.hidden-the_row-Test-0 denote.Hole.Carrier.hidden
test_of_and a b = refl

pub test_of_or : (a b : Test) → test_of (test.Or a b) ≡ model.Or (test_of a) (test_of b)
unfolding tests.hidden-the_row-Test-0 denote.Hole.Carrier.hidden
test_of_or a b = refl

pub program_of_if : (a : Test) (e f : Program) → program_of (program.If a e f) ≡ model.If (test_of a) (program_of e) (program_of f)
unfolding block.hidden-the_row-Program-1 denote.Hole.Carrier.hidden
program_of_if a e f = refl

-- a list of steps, one by one
pub program_of_steps : (es : List Program) → program_of (program.Steps es) ≡ model.Steps (programs_in es)
unfolding block.hidden-the_row-Program-0 denote.Hole.Carrier.hidden
program_of_steps [] = refl
program_of_steps (e ∷ es) = let rest = program_of_steps es in cc

-- the entry of the definitions
abbrev pub entry_of : Entry → tree.Entry
entry_of entry.Folder = tree.Folder
entry_of (entry.File content) = tree.File content
entry_of (entry.Link target) = tree.Link target
