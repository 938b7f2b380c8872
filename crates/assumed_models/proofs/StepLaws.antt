-- Steps of behaviors, and of programs in which edits are lost, as the code has them.
use Rattle.std.proofs.Common.{◌≡◌, ◌+◌, ◌<◌, List, [], ◌∷◌, ◌++◌, map, Result, Ok, Err, IfOk, sym, ap, subst, ◌∙◌, arith}
use Rattle.std.specs.List.{flat_map}
use Rattle.fs_semantics.specs.FileTree.{Path}
use Rattle.fs_semantics.specs.Programs as language
use Rattle.fs_lang.specs.declared.program.Program.{Program}
use Rattle.fs_lang.specs.declared.program.Program.TheVariants as program
use Rattle.rh_base.specs.declared.text.NoMemory.{NoMemory}
use Rattle.fs_lang.specs.declared.program.Test.{Test}
use Rattle.fs_lang.specs.Sizes.{program_size, programs_size}
use Rattle.fs_lang.specs.Meaning.{test_of, program_of, programs_in, program_of_steps, program_of_if}
use Rattle.model_semantics.specs.Words.{steps}
use Rattle.assumed_models.specs.LostEdits.{inside, lost_steps, all_inside, with_lost_edits}
use Rattle.assumed_models.proofs.LostLaws.{steps_lost}
use Rattle.model_words.proofs.StepLaws.{steps_are}

-- a list of steps in which edits are lost
pub lost_inside : (marks : Path → List Path) (es made : List Program) → map program_of made ≡ flat_map (lost_steps marks) (map program_of es) → program_of (program.Steps made) ≡ inside marks (program_of (program.Steps es))
lost_inside marks es made h =
    program_of_steps made
    ∙ (ap language.Steps (steps_are made ∙ (ap steps h ∙ (steps_lost marks (map program_of es) ∙ ap (all_inside marks) (sym (steps_are es)))))
    ∙ sym (ap (inside marks) (program_of_steps es)))

-- the same, of a program that is such a list
pub steps_inside : (marks : Path → List Path) (x : Program) (es made : List Program) → x ≡ program.Steps es → map program_of made ≡ flat_map (lost_steps marks) (map program_of es) → program_of (program.Steps made) ≡ inside marks (program_of x)
steps_inside marks x es made is h = lost_inside marks es made h ∙ ap (λ y. inside marks (program_of y)) (sym is)

-- a program that means what it should does so by an equal name
same_ok : (a b : language.Program) (r : Result Program NoMemory) → a ≡ b → IfOk r (λ g. program_of g ≡ a) → IfOk r (λ g. program_of g ≡ b)
same_ok a b (Ok g) e h = h ∙ e
same_ok a b (Err m) e h = tt

-- a choice in whose branches edits are lost
pub choice_inside : (marks : Path → List Path) (x : Program) (a : Test) (e f : Program) (r : Result Program NoMemory) → x ≡ program.If a e f
    → IfOk r (λ g. program_of g ≡ language.If (test_of a) (with_lost_edits marks (program_of e)) (with_lost_edits marks (program_of f))) → IfOk r (λ g. program_of g ≡ inside marks (program_of x))
choice_inside marks x a e f r is h =
    same_ok (language.If (test_of a) (with_lost_edits marks (program_of e)) (with_lost_edits marks (program_of f))) (inside marks (program_of x)) r
    (sym (ap (inside marks) (ap program_of is ∙ program_of_if a e f))) h

-- ---- sizes

-- a program of a list is smaller than the list
behind_smaller : (front : List Program) (e : Program) (rest : List Program) → program_size (program_of e) < programs_size (programs_in (front ++ e ∷ rest))
behind_smaller [] e rest = omega arith
behind_smaller (f ∷ front) e rest = let more = behind_smaller front e rest in omega (arith, more)

-- and so is the next of those that are left
pub next_smaller : (all front left rest : List Program) (e : Program) → all ≡ front ++ left → left ≡ e ∷ rest → program_size (program_of e) < programs_size (programs_in all)
next_smaller all front left rest e is at = subst (λ l. program_size (program_of e) < programs_size (programs_in l)) (sym (is ∙ ap (λ l. front ++ l) at)) (behind_smaller front e rest)

-- a sequence is one larger than its steps
pub steps_size : (x : Program) (es : List Program) → x ≡ program.Steps es → program_size (program_of x) ≡ 1 + programs_size (programs_in es)
steps_size x es is = ap (λ y. program_size (program_of y)) is ∙ ap program_size (program_of_steps es)
