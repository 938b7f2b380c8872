-- What stands in a list is smaller than the list.
use Rattle.std.proofs.Common.{◌≡◌, ℕ, zero, suc, ◌+◌, ◌<◌, List, [], ◌∷◌, length, get_or, sym, ap, subst, ◌∙◌, arith}
use Rattle.fs_lang.specs.declared.program.Program.{Program}
use Rattle.fs_lang.specs.declared.program.Program.TheVariants as program
use Rattle.fs_lang.specs.declared.program.Test.{Test}
use Rattle.fs_lang.specs.declared.program.Test.TheVariants as test
use Rattle.fs_lang.specs.Meaning.{test_of, program_of, programs_in, test_of_and, test_of_or, program_of_if}
use Rattle.fs_lang.specs.Sizes.{test_size, program_size, programs_size}

-- a program of a list is smaller than the list
pub item_smaller : (es : List Program) (i : ℕ) (e : Program) → i < length es → e ≡ get_or es i e → program_size (program_of e) < programs_size (programs_in es)
item_smaller [] i e h is = absurd (omega arith)
item_smaller (x ∷ es) zero e h is = subst (λ (y : Program). program_size (program_of y) < programs_size (programs_in (x ∷ es))) (sym is) (omega arith)
item_smaller (x ∷ es) (suc i) e h is = let more = item_smaller es i e (omega arith) is in omega arith

-- a conjunction is one larger than its two sides
pub and_size : (x a b : Test) → x ≡ test.And a b → test_size (test_of x) ≡ 1 + test_size (test_of a) + test_size (test_of b)
and_size x a b e = ap (λ y. test_size (test_of y)) e ∙ ap test_size (test_of_and a b)

-- a disjunction is one larger than its two sides
pub or_size : (x a b : Test) → x ≡ test.Or a b → test_size (test_of x) ≡ 1 + test_size (test_of a) + test_size (test_of b)
or_size x a b e = ap (λ y. test_size (test_of y)) e ∙ ap test_size (test_of_or a b)

-- a choice is one larger than its two programs
pub if_size : (x : Program) (a : Test) (e f : Program) → x ≡ program.If a e f → program_size (program_of x) ≡ 1 + program_size (program_of e) + program_size (program_of f)
if_size x a e f h = ap (λ y. program_size (program_of y)) h ∙ ap program_size (program_of_if a e f)
