-- What cells tell under one valuation, and what they stand for.
use Rattle.std.specs.Prelude.{◌≡◌, ℕ, ◌<◌, Bool, false, length, Option, Some, None, IfSome, slice_get}
use Rattle.fs_interpreter.specs.Meanings.{Valuation, Meanings}
use Rattle.fs_interpreter.specs.Places.{Listed}
use Rattle.fs_interpreter.specs.declared.cells.Cells.{Cells}

-- whether there is an entry, whether it is a folder or else a link, and the number of its content or target
pub record Cell : Type 0 where
  pub present : Bool
  pub folder : Bool
  pub link : Bool
  pub content : ℕ

-- what the cells tell, by place, and whether they stand for Error
pub record State : Type 0 where
  pub cell : ℕ → Cell
  pub error : Bool

-- what the bit means, false where there is none
abbrev pub truth : {Bit : Type 0} → (Bit → Bool) → Option Bit → Bool
truth f None = false
truth f (Some b) = f b

-- what the code means, 0 where there is none
abbrev pub number : {Code : Type 0} → (Code → ℕ) → Option Code → ℕ
number f None = 0
number f (Some c) = f c

-- what the cells tell of a place under a valuation
abbrev pub cell_at : {B Bit Code : Type 0} → Meanings Bit Code → Valuation → Cells B Bit Code → ℕ → Cell
cell_at m v cells i = record {
  present = truth (m.bit v) (slice_get cells.present i);
  folder = truth (m.bit v) (slice_get cells.folder i);
  link = truth (m.bit v) (slice_get cells.link i);
  content = number (m.code v) (slice_get cells.content i);
}

-- what the cells tell under a valuation
abbrev pub state_of : {B Bit Code : Type 0} → Meanings Bit Code → Valuation → Cells B Bit Code → State
state_of m v cells = record { cell = cell_at m v cells; error = m.bit v cells.error }

-- the four lists have the same places, and their bits and codes are one's own
pub record AreCells {B Bit Code : Type 0} (m : Meanings Bit Code) (cells : Cells B Bit Code) : Type 0 where
  pub folders : length cells.folder ≡ length cells.present
  pub links : length cells.link ≡ length cells.present
  pub contents : length cells.content ≡ length cells.present
  pub present : (i : ℕ) (b : Bit) → slice_get cells.present i ≡ Some b → m.owns b
  pub folder : (i : ℕ) (b : Bit) → slice_get cells.folder i ≡ Some b → m.owns b
  pub link : (i : ℕ) (b : Bit) → slice_get cells.link i ≡ Some b → m.owns b
  pub content : (i : ℕ) (c : Code) → slice_get cells.content i ≡ Some c → m.owns_code c
  pub error : m.owns cells.error

-- cells that fit a table: there are some for each of its places
pub record Fits {B Bit Code : Type 0} (m : Meanings Bit Code) (table : Listed) (c : Cells B Bit Code) : Type 0 where
  pub cells : AreCells m c
  pub places : length c.present ≡ length table.paths

-- cells that can be read where this is, which is one of their places if it is one
pub record CanReadAt {B Bit Code : Type 0} (m : Meanings Bit Code) (c : Cells B Bit Code) (o : Option ℕ) : Type 0 where
  pub cells : AreCells m c
  pub place : IfSome o (λ i. i < length c.present)
