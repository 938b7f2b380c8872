-- Cells that are kept aside while a branch runs.
use Rattle.std.specs.Prelude.{◌≡◌, ℕ, ◌<◌, Bool, if◌then◌else◌, List, [], ◌∷◌}
use Rattle.std.specs.List.{AllByRecursion}
use Rattle.fs_interpreter.specs.Meanings.{Valuation, Meanings}
use Rattle.fs_interpreter.specs.States.{Cell, State}
use Rattle.fs_interpreter.specs.Steps.{Cellwise, with_cell}
use Rattle.fs_interpreter.specs.Changed.{IsOne, one_told}
use Rattle.fs_interpreter.specs.declared.branch.Kept.{Kept}
use Rattle.fs_interpreter.specs.declared.branch.Aside.{Aside}

-- the places that are kept, each with what its bits tell
abbrev pub kept_told : {B Bit Code : Type 0} → Meanings Bit Code → Valuation → List (Kept B Bit Code) → List (ℕ × Cell)
kept_told m v [] = []
kept_told m v (k ∷ ks) = (k.place, one_told m v k.cell) ∷ kept_told m v ks

-- these places, as they are there
abbrev pub read_at : List ℕ → Cellwise → List (ℕ × Cell)
read_at [] cell = []
read_at (i ∷ places) cell = (i, cell i) ∷ read_at places cell

-- all of them are put at their places
abbrev pub put_back : List (ℕ × Cell) → Cellwise → Cellwise
put_back [] cell = cell
put_back (k ∷ ks) cell = with_cell k.0 k.1 (put_back ks cell)

-- where the condition holds, all of them are put at their places
abbrev pub put_where : Bool → List (ℕ × Cell) → Cellwise → Cellwise
put_where b [] cell = cell
put_where b (k ∷ ks) cell = put_where b ks (with_cell k.0 (if b then k.1 else cell k.0) cell)

-- the bits are one's own, and the places are below n
abbrev pub AreOwn : {B Bit Code : Type 0} → Meanings Bit Code → ℕ → List (Kept B Bit Code) → Type 0
AreOwn m n ks = AllByRecursion (λ k. (k.place < n) × IsOne m (λ v. one_told m v k.cell) k.cell) ks

-- what is kept aside is one's own
pub record IsAside {B Bit Code : Type 0} (m : Meanings Bit Code) (n : ℕ) (a : Aside B Bit Code) : Type 0 where
  pub cells : AreOwn m n a.cells.items
  pub error : m.owns a.error

-- what is kept aside is what stands at these places
pub record IsRead {B Bit Code : Type 0} (m : Meanings Bit Code) (places : List ℕ) (state : Valuation → State)
    (a : Aside B Bit Code) : Type 0 where
  pub cells : (v : Valuation) → kept_told m v a.cells.items ≡ read_at places (state v).cell
  pub error : (v : Valuation) → m.bit v a.error ≡ (state v).error
