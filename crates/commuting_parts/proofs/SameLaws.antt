-- Tests and programs made of equal parts are equal.
use Rattle.std.proofs.Common.{◌≡◌, List, sym, ap, ◌∙◌}
use Rattle.fs_semantics.specs.Programs as model
use Rattle.fs_lang.specs.declared.program.Program.{Program}
use Rattle.fs_lang.specs.declared.program.Program.TheVariants as program
use Rattle.fs_lang.specs.declared.program.Test.{Test}
use Rattle.fs_lang.specs.declared.program.Test.TheVariants as test
use Rattle.fs_lang.specs.Meaning.{test_of, program_of, programs_in, test_of_and, test_of_or, program_of_if, program_of_steps}

-- two conjunctions with the same parts are the same test
pub same_and : (x y a b c d : Test) → x ≡ test.And a b → y ≡ test.And c d → test_of a ≡ test_of c → test_of b ≡ test_of d → test_of x ≡ test_of y
same_and x y a b c d left right first second =
    ap test_of left ∙ test_of_and a b ∙ (λ i. model.And (first i) (second i)) ∙ sym (ap test_of right ∙ test_of_and c d)

-- two disjunctions with the same parts are the same test
pub same_or : (x y a b c d : Test) → x ≡ test.Or a b → y ≡ test.Or c d → test_of a ≡ test_of c → test_of b ≡ test_of d → test_of x ≡ test_of y
same_or x y a b c d left right first second =
    ap test_of left ∙ test_of_or a b ∙ (λ i. model.Or (first i) (second i)) ∙ sym (ap test_of right ∙ test_of_or c d)

-- two choices with the same test and the same branches are the same program
pub same_if : (x y : Program) (a b : Test) (e f g h : Program) → x ≡ program.If a e f → y ≡ program.If b g h
    → test_of a ≡ test_of b → program_of e ≡ program_of g → program_of f ≡ program_of h → program_of x ≡ program_of y
same_if x y a b e f g h left right test first second =
    ap program_of left ∙ program_of_if a e f ∙ (λ i. model.If (test i) (first i) (second i)) ∙ sym (ap program_of right ∙ program_of_if b g h)

-- two lists of the same steps are the same program
pub same_list : (x y : Program) (es fs : List Program) → x ≡ program.Steps es → y ≡ program.Steps fs → programs_in es ≡ programs_in fs → program_of x ≡ program_of y
same_list x y es fs left right same =
    ap program_of left ∙ program_of_steps es ∙ ap model.Steps same ∙ sym (ap program_of right ∙ program_of_steps fs)
