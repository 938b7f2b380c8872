-- Footprints by number, without what is looked at of folders that surely stand.
use Rattle.std.specs.Prelude.{◌≡◌, ℕ, suc, Bool, false, not, ◌==◌, ◌&&◌, ◌||◌, List, [], ◌∷◌, if◌then◌else◌, Some, slice_get}
use Rattle.std.specs.List.{list_any}
use Rattle.commute_prune.specs.declared.numbered.Numbered.{Numbered}
use Rattle.commute_prune.specs.Numbers.{has}

-- another program, which comes before i, leaves a folder with the number; the first of these programs has number k
abbrev pub marked_before : (ℕ → ℕ → Bool) → ℕ → ℕ → List Numbered → ℕ → Bool
marked_before before i k [] n = false
marked_before before i k (f ∷ fs) n = (not (k == i) && before k i && has n f.sure.items) || marked_before before i (suc k) fs n

-- the folder with the number surely stands when program i runs
abbrev pub stands_at : (ℕ → ℕ → Bool) → ℕ → List Numbered → ℕ → Bool
stands_at before i fs n = marked_before before i 0 fs n && not (list_any (λ (f : Numbered). has n f.writes.items) fs)

-- the numbers that don't pass the test
abbrev pub unsure : (ℕ → Bool) → List ℕ → List ℕ
unsure stands [] = []
unsure stands (n ∷ ns) = if stands n then unsure stands ns else (n ∷ unsure stands ns)

-- the second is the first without what it looks at of these folders
pub record IsReduced (stands : ℕ → Bool) (f g : Numbered) : Type 0 where
  pub reads : g.reads.items ≡ unsure stands f.reads.items
  pub writes : g.writes.items ≡ f.writes.items
  pub folders : g.folders.items ≡ f.folders.items
  pub children : g.children.items ≡ f.children.items
  pub parents : g.parents.items ≡ f.parents.items
  pub sure : g.sure.items ≡ f.sure.items

-- at each place the second list has what the first has there, without the folders that surely stand
abbrev pub AreReduced : (ℕ → ℕ → Bool) → List Numbered → List Numbered → Type 0
AreReduced before fs gs = (i : ℕ) (g : Numbered) → slice_get gs i ≡ Some g → (f : Numbered) × (slice_get fs i ≡ Some f)
    × IsReduced (stands_at before i fs) f g
