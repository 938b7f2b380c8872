-- Programs in a list are proper where the steps that they make are.
use Rattle.std.proofs.Common.{◌≡◌, ℕ, ◌+◌, ◌<◌, List, [], ◌∷◌, map, length, drop, get_or, sym, subst}
use Rattle.std.proofs.lemmas.List.{drop_more}
use Rattle.std.specs.List.{AllByRecursion}
use Rattle.fs_semantics.specs.Changes.{IsProper, AreProperSteps}
use Rattle.fs_lang.specs.declared.program.Program.{Program}
use Rattle.fs_lang.specs.Meaning.{program_of, programs_in}

-- programs of proper steps are all proper
pub all_proper : (es : List Program) → AreProperSteps (programs_in es) → AllByRecursion IsProper (map program_of es)
all_proper [] h = tt
all_proper (e ∷ es) h = (h.0, all_proper es h.1)

-- where one is proper and those behind it, those from it on are
pub one_more : (es : List Program) (i : ℕ) (e : Program) → i < length es → e ≡ get_or es i e → IsProper (program_of e) → AreProperSteps (programs_in (drop (i + 1) es)) → AreProperSteps (programs_in (drop i es))
one_more es i e h is one rest = subst (λ xs. AreProperSteps (programs_in xs)) (sym (drop_more es i e h)) (subst (λ x. IsProper (program_of x)) is one, rest)
