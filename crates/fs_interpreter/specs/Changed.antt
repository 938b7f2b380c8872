-- How cells change.
use Rattle.std.specs.Prelude.{◌≡◌, ℕ, length, slice_set}
use Rattle.fs_interpreter.specs.Meanings.{Valuation, Meanings}
use Rattle.fs_interpreter.specs.States.{Cell, State, AreCells, state_of}
use Rattle.fs_interpreter.specs.declared.cells.Cells.{Cells}
use Rattle.fs_interpreter.specs.declared.cells.OneCell.{OneCell}

-- these bits are put at one place, the rest stays
pub record IsPut {B Bit Code : Type 0} (old : Cells B Bit Code) (i : ℕ) (c : OneCell B Bit Code) (new : Cells B Bit Code) : Type 0 where
  pub present : new.present ≡ slice_set old.present i c.present
  pub folder : new.folder ≡ slice_set old.folder i c.folder
  pub link : new.link ≡ slice_set old.link i c.link
  pub content : new.content ≡ slice_set old.content i c.content
  pub error : new.error ≡ old.error

-- what the bits of one place tell
abbrev pub one_told : {B Bit Code : Type 0} → Meanings Bit Code → Valuation → OneCell B Bit Code → Cell
one_told m v c = record { present = m.bit v c.present; folder = m.bit v c.folder; link = m.bit v c.link; content = m.code v c.content }

-- the bits of one place are one's own, and tell this under each valuation
pub record IsOne {B Bit Code : Type 0} (m : Meanings Bit Code) (meaning : Valuation → Cell) (c : OneCell B Bit Code) : Type 0 where
  pub present : m.owns c.present
  pub folder : m.owns c.folder
  pub link : m.owns c.link
  pub content : m.owns_code c.content
  pub tells : (v : Valuation) → one_told m v c ≡ meaning v

-- the cells are still cells over as many places, and what they tell under each valuation has changed so
pub record Becomes {B Bit Code : Type 0} (m n : Meanings Bit Code) (old new : Cells B Bit Code)
    (change : Valuation → State → State) : Type 0 where
  pub cells : AreCells n new
  pub places : length new.present ≡ length old.present
  pub told : (v : Valuation) → state_of n v new ≡ change v (state_of m v old)
