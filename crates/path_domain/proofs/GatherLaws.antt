-- What is gathered of two lists, one after the other.
use Rattle.std.proofs.Common.{◌≡◌, ℕ, ◌+◌, ◌<◌, List, [], ◌∷◌, ◌++◌, Result, Ok, Err, OnOk, length, drop, get_or, refl, sym, ap, ◌∙◌}
use Rattle.std.proofs.lemmas.List.{drop_more}
use Rattle.fs_semantics.specs.Programs.{next}
use Rattle.fs_lang.specs.declared.program.Program.{Program as CodeProgram}
use Rattle.fs_lang.specs.Meaning.{program_of, programs_in}
use Rattle.finite_domain.specs.Mentions.{Matter}
use Rattle.path_domain.specs.Gathered.{Gathered, with_matter, gather}

-- what is gathered of two lists, one after the other, is what is gathered of both joined
pub gather_both : (xs ys : List Matter) (g : Gathered) → gather ys (gather xs g) ≡ gather (xs ++ ys) g
gather_both [] ys g = refl
gather_both (x ∷ xs) ys g = gather_both xs ys (with_matter x g)

-- what follows from what holds of an Ok result holds of an Ok result
pub on_ok : {X Y : Type 0} {P Q : Type 0} (r : Result X Y) → (P → Q) → OnOk r P → OnOk r Q
on_ok (Ok x) f h = f h
on_ok (Err e) f h = h

-- the programs from a place on are the one there and those behind it
pub program_next : (es : List CodeProgram) (i : ℕ) (e : CodeProgram) → i < length es → e ≡ get_or es i e → programs_in (drop i es) ≡ next (program_of e) (programs_in (drop (i + 1) es))
program_next es i e h is = ap programs_in (drop_more es i e h) ∙ ap (λ x. next (program_of x) (programs_in (drop (i + 1) es))) (sym is)

-- a program more was walked
pub one_step : (xs ys all : List Matter) (f g h : Gathered) → g ≡ gather xs f → all ≡ xs ++ ys → gather all f ≡ h → gather ys g ≡ h
one_step xs ys all f g h is whole done = ap (gather ys) is ∙ gather_both xs ys f ∙ ap (λ zs. gather zs f) (sym whole) ∙ done
