-- Lists of steps in two halves: what stands ahead of the first sweep, and the rest.
use Rattle.std.specs.Prelude.{◌≡◌, ℕ, suc, Bool, true, false, List, [], ◌∷◌, ◌++◌}
use Rattle.std.specs.List.{AllByRecursion}
use Rattle.std.specs.BTreeSet.{BTreeSet}
use Rattle.fs_semantics.specs.FileTree.{Path}
use Rattle.fs_semantics.specs.Changes.{IsProper}
use Rattle.fs_lang.specs.declared.program.Program.{Program}
use Rattle.fs_lang.specs.Meaning.{program_of, programs_in}
use Rattle.effect_sets.specs.Footprints.{Footprint, no_footprint, footprint}
use Rattle.effect_sets.specs.Members.{members}
use Rattle.commuting_parts.specs.declared.parts.Parts.{Parts}
use Rattle.commuting_parts.specs.declared.splitting.Split.{Split}
use Rattle.commuting_parts.specs.Prints.{IsClearIn}
use Rattle.commuting_parts.specs.Parts.{part, chosen_by, unmarked, IsApartFrom}
use Rattle.commuting_parts.specs.Sweeps.{AreSwept}

-- the marked steps of the list, and the others
abbrev pub ArePartsOf : List Program → Parts → Type 0
ArePartsOf es p = (marks : ℕ → Bool) × (p.own ≡ unmarked marks 0 es) × (p.shared ≡ chosen_by marks 0 es)

-- the first where the step is marked, else the second
abbrev pub WhereMarked : Bool → Type 0 → Type 0 → Type 0
WhereMarked true A B = A
WhereMarked false A B = B

-- each step that isn't marked is apart from the marked ones ahead of it, of which the first stand in front of the list
abbrev pub AreAhead : BTreeSet Path → (ℕ → Bool) → ℕ → List Program → List Program → Type 0
AreAhead folders marks i front [] = Unit {0}
AreAhead folders marks i front (e ∷ es) = WhereMarked (marks i) (AreAhead folders marks (suc i) (front ++ e ∷ []) es)
    (IsApartFrom folders (footprint (part front)) (program_of e) × AreAhead folders marks (suc i) front es)

-- the parts of a list whose own steps may go ahead of the shared ones
abbrev pub AreOrderedParts : BTreeSet Path → List Program → Parts → Type 0
AreOrderedParts folders es p = (marks : ℕ → Bool) × (p.own ≡ unmarked marks 0 es) × (p.shared ≡ chosen_by marks 0 es)
    × AreAhead folders marks 0 [] es

-- The parts of the list's two halves.
pub record IsSplit (folders : BTreeSet Path) (es : List Program) (s : Split) : Type 0 where
  pub front : List Program
  pub back : List Program
  pub whole : front ++ back ≡ es
  pub first : ArePartsOf front s.first
  pub behind : AreOrderedParts folders back s.behind

-- each of the steps is apart from the footprint
abbrev pub AreApartFrom : BTreeSet Path → Footprint → List Program → Type 0
AreApartFrom folders g es = AllByRecursion (λ e. IsApartFrom folders g (program_of e)) es

-- The shared steps write none of these folders; the own ones are apart from those ahead of the sweeps; and what is swept at last may
-- be swept before, too.
pub record IsOrdered (folders : BTreeSet Path) (s : Split) : Type 0 where
  pub keeps : IsClearIn (members folders) (footprint (part s.first.shared)) no_footprint
  pub keeps_too : IsClearIn (members folders) (footprint (part s.behind.shared)) no_footprint
  pub proper : IsProper (part s.first.shared)
  pub proper_sweeps : IsProper (part s.behind.shared)
  pub first : AreApartFrom folders (footprint (part s.first.shared)) s.first.own
  pub behind : AreApartFrom folders (footprint (part s.first.shared)) s.behind.own
  pub swept : AreSwept ((s.first.own ++ s.behind.own) ++ s.first.shared) s.behind.shared

-- What is own to the one list is apart from what is own to the other.
pub record AreOwnApart (folders : BTreeSet Path) (l r : Split) : Type 0 where
  pub proper : IsProper (part r.first.own) × IsProper (part r.behind.own)
  pub first_first : IsApartFrom folders (footprint (part r.first.own)) (part l.first.own)
  pub first_behind : IsApartFrom folders (footprint (part r.behind.own)) (part l.first.own)
  pub behind_first : IsApartFrom folders (footprint (part r.first.own)) (part l.behind.own)
  pub behind_behind : IsApartFrom folders (footprint (part r.behind.own)) (part l.behind.own)

-- The lists share the same steps, and the rest is in order and apart.
pub record AreSplitsApart (folders : BTreeSet Path) (l r : Split) : Type 0 where
  pub same_shared : programs_in l.first.shared ≡ programs_in r.first.shared
  pub same_sweeps : programs_in l.behind.shared ≡ programs_in r.behind.shared
  pub left : IsOrdered folders l
  pub right : IsOrdered folders r
  pub owns : AreOwnApart folders l r
