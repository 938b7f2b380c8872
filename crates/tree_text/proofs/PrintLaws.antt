-- What tests and programs of parts are printed as.
use Rattle.std.proofs.Common.{◌≡◌, ℕ, List, ◌++◌, sym, ap, ap₂, ◌∙◌}
use Rattle.std.specs.Prelude.{codes}
use Rattle.fs_lang.specs.declared.program.Test.{Test}
use Rattle.fs_lang.specs.declared.program.Test.TheVariants as test
use Rattle.fs_lang.specs.declared.program.Program.{Program}
use Rattle.fs_lang.specs.declared.program.Program.TheVariants as program
use Rattle.fs_lang.specs.Meaning.{test_of, test_of_and, test_of_or, program_of, program_of_if}
use Rattle.tree_text.specs.ProgramText.{test_text, program_text}

-- a word between two tests, in parentheses
abbrev around : List ℕ → Test → Test → List ℕ
around word a b = codes "(" ++ (test_text (test_of a) ++ (word ++ (test_text (test_of b) ++ codes ")")))

-- a conjunction is printed as `and` between its two sides
pub and_printed : (x a b c d : Test) → x ≡ test.And a b → c ≡ a → d ≡ b → around (codes " and ") c d ≡ test_text (test_of x)
and_printed x a b c d is left right = ap₂ (around (codes " and ")) left right ∙ sym (ap test_text (ap test_of is ∙ test_of_and a b))

-- a disjunction is printed as `or` between its two sides
pub or_printed : (x a b c d : Test) → x ≡ test.Or a b → c ≡ a → d ≡ b → around (codes " or ") c d ≡ test_text (test_of x)
or_printed x a b c d is left right = ap₂ (around (codes " or ")) left right ∙ sym (ap test_text (ap test_of is ∙ test_of_or a b))

-- a test and two programs, with the words of a choice
abbrev chosen : Test → Program → Program → List ℕ
chosen a e f = codes "if " ++ (test_text (test_of a) ++ (codes " then " ++ (program_text (program_of e) ++ (codes " else " ++ program_text (program_of f)))))

-- a choice is printed as its test and its two programs, with these words
pub if_printed : (x : Program) (a : Test) (e f g h : Program) → x ≡ program.If a e f → g ≡ e → h ≡ f → chosen a g h ≡ program_text (program_of x)
if_printed x a e f g h is left right = ap₂ (chosen a) left right ∙ sym (ap program_text (ap program_of is ∙ program_of_if a e f))
