-- Programs that have no removal of a given folder leave them standing.
use Rattle.std.proofs.Common.{◌≡◌, Bool, true, false, ◌||◌, List, [], ◌∷◌, map, Some, inl, inr, refl}
use Rattle.std.proofs.lemmas.Bool.{or_right, or_left}
use Rattle.std.specs.Prelude.{IsTrue}
use Rattle.std.specs.List.{AllByRecursion}
use Rattle.fs_semantics.specs.FileTree.{Path, Tree, is_dir, is_among, path_eq}
use Rattle.fs_semantics.specs.Programs.{Test, Program, Programs, Steps, If, run}
use Rattle.fs_semantics.proofs.Trees.{path_eq_refl}
use Rattle.given_hosts.specs.Given.{Stand}
use Rattle.given_hosts.specs.Guard.{KeepsGiven}
use Rattle.fs_lang.specs.Meaning.{program_of, programs_in}
use Rattle.fs_lang.specs.declared.program.Program.{Program as Code}
use Rattle.sure_folders.specs.Folders.{MayRemove, MayRemoveInSteps}
use Rattle.given_verdict.specs.Keeping.{Spares}

-- where each program of a list spares them, none of the steps may remove one
spares_each : (given : List Path) (es : List Code) → AllByRecursion (Spares given) (map program_of es) → (p : Path) → IsTrue (is_among p given) → MayRemoveInSteps (programs_in es) p → ⊥
spares_each given [] all p among m = m
spares_each given (e ∷ es) all p among (inl m) = all.0 p among m
spares_each given (e ∷ es) all p among (inr m) = spares_each given es all.1 p among m

-- so the list, as one program, spares them
pub spares_steps : (given : List Path) (es : List Code) → AllByRecursion (Spares given) (map program_of es) → Spares given (Steps (programs_in es))
spares_steps given es all p among m = spares_each given es all p among m

-- a choice spares them where both its branches do
pub spares_choice : (given : List Path) (a : Test) (e f : Program) → Spares given e → Spares given f → Spares given (If a e f)
spares_choice given a e f h k p among (inl m) = h p among m
spares_choice given a e f h k p among (inr m) = k p among m

-- a folder that a program can't remove stands behind it where it stood before
abbrev Kept : Type 0
Kept = (e : Program) (p : Path) (t u : Tree) → (MayRemove e p → ⊥) → IsTrue (is_dir t p) → run e t ≡ Some u → IsTrue (is_dir u p)

-- given folders stand behind a program that spares them, where they stood before
stands : (kept : Kept) (given : List Path) (e : Program) → Spares given e → (t u : Tree) → Stand given t → run e t ≡ Some u → Stand given u
stands kept [] e spares t u h done = tt
stands kept (p ∷ given) e spares t u h done = (
  kept e p t u (spares p (or_left (path_eq p p) (is_among p given) (path_eq_refl p))) h.0 done,
  stands kept given e (λ q among m. spares q (or_right (path_eq q p) (is_among q given) among) m) t u h.1 done,
)

-- programs that spare given folders leave them standing
pub all_stand : (kept : Kept) (given : List Path) (es : List Program) → AllByRecursion (Spares given) es → AllByRecursion (KeepsGiven given) es
all_stand kept given [] all = tt
all_stand kept given (e ∷ es) all = ((λ t u h done. stands kept given e all.0 t u h done), all_stand kept given es all.1)
