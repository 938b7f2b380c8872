-- What the lists of the code tell.
use Rattle.std.specs.Prelude.{◌≡◌, ◌⊎◌, ℕ, List, [], ◌∷◌, Option, option_map}
use Rattle.std.specs.declared.cmp.Ordering.{Ordering}
use Rattle.std.specs.declared.cmp.Ordering.TheVariants.{Less, Equal, Greater}
use Rattle.std.specs.Ordering.{nat_cmp}
use Rattle.std.specs.Cmp.Lexicographic.{slice_cmp}
use Rattle.std.specs.List.{AllByRecursion}
use denote.Ref.{Bor}
use Rattle.fs_semantics.specs.FileTree as tree
use Rattle.fs_lang.specs.declared.program.Entry.{Entry}
use Rattle.fs_lang.specs.Meaning.{entry_of}
use Rattle.fs_lang.specs.PathText.{path_text}
use Rattle.tree_differences.specs.declared.placing.Difference.{Difference}
use Rattle.tree_differences.specs.Differences as model
use Rattle.tree_differences.specs.Differences.{IsDifference}

-- what stands there
abbrev pub found_of : Option (Bor Entry) → Option tree.Entry
found_of found = option_map (λ e. entry_of e.now) found

-- the difference of the definitions
abbrev pub difference_of : Difference → model.Difference
difference_of d = record { path = d.path.now; first = found_of d.first; second = found_of d.second }

-- with the difference in its place, unless its text is there; the order tells where the text stands to that of the first
abbrev pub placed_by : Ordering → Difference → Difference → List Difference → List Difference → List Difference
placed_by Less d e es more = e ∷ more
placed_by Equal d e es more = e ∷ es
placed_by Greater d e es more = d ∷ e ∷ es

abbrev pub placed : Difference → List Difference → List Difference
placed d [] = d ∷ []
placed d (e ∷ es) = placed_by (slice_cmp nat_cmp e.text d.text) d e es (placed d es)

-- one of them has the text
abbrev pub HasText : List Difference → List ℕ → Type 0
HasText [] text = ⊥
HasText (d ∷ ds) text = (d.text ≡ text) ⊎ HasText ds text

-- each text comes before those behind it
abbrev pub TextsRise : List Difference → Type 0
TextsRise [] = Unit {0}
TextsRise (d ∷ ds) = AllByRecursion (λ e. slice_cmp nat_cmp d.text e.text ≡ Less) ds × TextsRise ds

-- each has the text of its path, and is a difference of the trees, and they stand in order
pub record AreListed (t u : tree.Tree) (ds : List Difference) : Type 0 where
  pub texts : AllByRecursion (λ d. d.text ≡ path_text d.path.now) ds
  pub each : AllByRecursion (λ d. IsDifference t u (difference_of d)) ds
  pub order : TextsRise ds
