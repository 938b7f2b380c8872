-- What is built of read parts.
use Rattle.std.proofs.Common.{◌≡◌, List, Result, Ok, Err, IfOk, sym, ap, ap₂, ◌∙◌}
use Rattle.rh_base.specs.declared.text.NoMemory.{NoMemory}
use Rattle.fs_semantics.specs.Programs as model
use Rattle.fs_lang.specs.Meaning.{test_of, test_of_and, test_of_or, program_of, program_of_if}
use Rattle.fs_lang.specs.declared.program.Test.{Test}
use Rattle.fs_lang.specs.declared.program.Test.TheVariants as test
use Rattle.fs_lang.specs.declared.program.Program.{Program}
use Rattle.fs_lang.specs.declared.program.Program.TheVariants as program
use Rattle.given_links.specs.declared.links.GivenLink.{GivenLink}
use Rattle.given_links.specs.Reading.{read_as, test_with, program_read_as}

-- what an Ok result is, it is by an equal name
same_ok : {X E Y : Type 0} (f : X → Y) (y z : Y) (r : Result X E) → y ≡ z → IfOk r (λ x. f x ≡ y) → IfOk r (λ x. f x ≡ z)
same_ok f y z (Ok x) e h = h ∙ e
same_ok f y z (Err k) e h = tt

-- a conjunction of read sides is the conjunction read
pub and_read : (links : List GivenLink) (x a b l m : Test) (r : Result Test NoMemory) → x ≡ test.And a b → l ≡ a → m ≡ b
    → IfOk r (λ c. test_of c ≡ model.And (test_with (read_as links) (test_of l)) (test_with (read_as links) (test_of m))) → IfOk r (λ c. test_of c ≡ test_with (read_as links) (test_of x))
and_read links x a b l m r e f g h =
    same_ok test_of (model.And (test_with (read_as links) (test_of l)) (test_with (read_as links) (test_of m))) (test_with (read_as links) (test_of x)) r
    (ap₂ (λ y z. model.And (test_with (read_as links) (test_of y)) (test_with (read_as links) (test_of z))) f g ∙ ap (test_with (read_as links)) (sym (ap test_of e ∙ test_of_and a b))) h

-- a disjunction of read sides is the disjunction read
pub or_read : (links : List GivenLink) (x a b l m : Test) (r : Result Test NoMemory) → x ≡ test.Or a b → l ≡ a → m ≡ b
    → IfOk r (λ c. test_of c ≡ model.Or (test_with (read_as links) (test_of l)) (test_with (read_as links) (test_of m))) → IfOk r (λ c. test_of c ≡ test_with (read_as links) (test_of x))
or_read links x a b l m r e f g h =
    same_ok test_of (model.Or (test_with (read_as links) (test_of l)) (test_with (read_as links) (test_of m))) (test_with (read_as links) (test_of x)) r
    (ap₂ (λ y z. model.Or (test_with (read_as links) (test_of y)) (test_with (read_as links) (test_of z))) f g ∙ ap (test_with (read_as links)) (sym (ap test_of e ∙ test_of_or a b))) h

-- a choice of a read test and read programs is the choice read
pub if_read : (links : List GivenLink) (x : Program) (a : Test) (d e l m : Program) (r : Result Program NoMemory) → x ≡ program.If a d e → l ≡ d → m ≡ e
    → IfOk r (λ c. program_of c ≡ model.If (test_with (read_as links) (test_of a)) (program_read_as links (program_of l)) (program_read_as links (program_of m)))
    → IfOk r (λ c. program_of c ≡ program_read_as links (program_of x))
if_read links x a d e l m r is f g h =
    same_ok program_of (model.If (test_with (read_as links) (test_of a)) (program_read_as links (program_of l)) (program_read_as links (program_of m))) (program_read_as links (program_of x)) r
    (ap₂ (λ y z. model.If (test_with (read_as links) (test_of a)) (program_read_as links (program_of y)) (program_read_as links (program_of z))) f g
    ∙ ap (program_read_as links) (sym (ap program_of is ∙ program_of_if a d e))) h
