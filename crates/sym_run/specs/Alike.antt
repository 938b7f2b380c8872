-- When cells tell the same.
use Rattle.std.specs.Prelude.{◌≡◌, ℕ, zero, suc, Bool, true, not, ◌&&◌, ◌==◌, List, slice_get, if◌then◌else◌}
use Rattle.bool_circuit.specs.declared.gate.Wire.{Wire}
use Rattle.fs_interpreter.specs.States.{Cell, State}
use Rattle.fs_interpreter.specs.declared.cells.Cells.{Cells}
use Rattle.fs_interpreter.specs.Steps.{Cellwise}

-- two truth values are the same
abbrev pub same_truth : Bool → Bool → Bool
same_truth x y = if x then y else not y

-- what is no folder is a file or a link, with one content or target
abbrev pub same_text : Cell → Cell → Bool
same_text c d = same_truth c.link d.link && (c.content == d.content)

-- a folder in both, or the same file or link
abbrev pub same_entry : Cell → Cell → Bool
same_entry c d = same_truth c.folder d.folder && (if c.folder then true else same_text c d)

-- nothing in both, or the same entry
abbrev pub same_cell : Cell → Cell → Bool
same_cell c d = same_truth c.present d.present && (if c.present then same_entry c d else true)

-- the same at the first n places
abbrev pub same_cells : Cellwise → Cellwise → ℕ → Bool
same_cells a b zero = true
same_cells a b (suc n) = same_cells a b n && same_cell (a n) (b n)

-- Error in both, or in neither and the same cells at the first n places
abbrev pub same_state : State → State → ℕ → Bool
same_state s t n = same_truth s.error t.error && (if s.error then true else same_cells s.cell t.cell n)

-- the cells of the place have the same wires
pub record HaveSameWires {B : Type 0} (a b : Cells B Wire (List Wire)) (i : ℕ) : Type 0 where
  pub present : slice_get a.present i ≡ slice_get b.present i
  pub folder : slice_get a.folder i ≡ slice_get b.folder i
  pub link : slice_get a.link i ≡ slice_get b.link i
  pub content : slice_get a.content i ≡ slice_get b.content i
