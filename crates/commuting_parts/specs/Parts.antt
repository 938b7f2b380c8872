-- The steps of a list that another list has too, and its own.
use Rattle.std.specs.Prelude.{◌≡◌, ℕ, suc, Bool, List, [], ◌∷◌, if◌then◌else◌}
use Rattle.std.specs.BTreeSet.{BTreeSet}
use Rattle.std.specs.List.{AllByRecursion}
use Rattle.fs_semantics.specs.FileTree.{Path, Tree}
use Rattle.fs_semantics.specs.Programs as model
use Rattle.fs_semantics.specs.Changes.{IsProper}
use Rattle.fs_lang.specs.declared.program.Program.{Program}
use Rattle.fs_lang.specs.Meaning.{program_of, programs_in}
use Rattle.effect_sets.specs.Footprints.{Footprint, footprint}
use Rattle.effect_sets.specs.Members.{members}
use Rattle.commuting_parts.specs.Runs.{Run, thens}
use Rattle.commuting_parts.specs.Prints.{AreApartIn, IsPrintOf}
use Rattle.commuting_parts.specs.declared.gathering.Divided.{Divided}

-- what the steps do, one after the other
abbrev pub runs : List Program → Run
runs es = model.run_all (programs_in es)

-- the steps at marked places, where the first of these has this place
abbrev pub chosen_by : (ℕ → Bool) → ℕ → List Program → List Program
chosen_by marks i [] = []
chosen_by marks i (e ∷ es) = if marks i then e ∷ chosen_by marks (suc i) es else chosen_by marks (suc i) es

-- the others
abbrev pub unmarked : (ℕ → Bool) → ℕ → List Program → List Program
unmarked marks i [] = []
unmarked marks i (e ∷ es) = if marks i then unmarked marks (suc i) es else e ∷ unmarked marks (suc i) es

-- the steps of a list, as a program
abbrev pub part : List Program → model.Program
part es = model.Steps (programs_in es)

-- a proper program that is apart from the footprint where these folders stand
abbrev pub IsApartFrom : BTreeSet Path → Footprint → model.Program → Type 0
IsApartFrom folders g e = IsProper e × AreApartIn (members folders) (footprint e) g

-- Two lists share these steps. What is own to the one is apart from what is own to the other, and from what they share: as a whole,
-- and each step of it.
pub record AreParts (folders : BTreeSet Path) (own shared other others : List Program) : Type 0 where
  pub same : programs_in shared ≡ programs_in others
  pub proper : IsProper (part shared)
  pub owns : IsApartFrom folders (footprint (part other)) (part own)
  pub left : IsApartFrom folders (footprint (part shared)) (part own)
  pub right : IsApartFrom folders (footprint (part shared)) (part other)
  pub each_left : AllByRecursion (λ e. IsApartFrom folders (footprint (part shared)) (program_of e)) own
  pub each_right : AllByRecursion (λ e. IsApartFrom folders (footprint (part shared)) (program_of e)) other

-- The list is its first steps and the rest, with the footprint of each.
pub record IsDivided (es : List Program) (d : Divided) : Type 0 where
  pub whole : (t : Tree) → runs es t ≡ thens (model.run (program_of d.made)) (model.run (program_of d.rest)) t
  pub made : IsPrintOf (program_of d.made) d.made_print
  pub rest : IsPrintOf (program_of d.rest) d.rest_print
