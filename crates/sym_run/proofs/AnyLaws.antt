-- Cells of inputs stand for any tree over the domain.
use Rattle.std.proofs.Common.{◌≡◌, inl, ℕ, ◌-◌, ◌<◌, true, false, List, [], length, Some, slice_get}
use Rattle.std.proofs.lemmas.Option.{slice_get_within, slice_get-get_or}
use Rattle.std.specs.Prelude.{◌↔◌, get_or, slice_index_or}
use Rattle.std.specs.List.{AllByRecursion}
use Rattle.std.specs.FinMap as map
use Rattle.bool_circuit.specs.declared.gate.Wire.{Wire}
use Rattle.bool_circuit.specs.declared.gate.Gate.{Gate}
use Rattle.fs_semantics.specs.FileTree.{Path, Tree, IsSegment, IsBytes}
use Rattle.fs_interpreter.specs.Meanings.{Valuation}
use Rattle.fs_interpreter.specs.Places.{IsTable}
use Rattle.fs_interpreter.specs.States.{State, state_of}
use Rattle.fs_interpreter.specs.Standing.{Stands}
use Rattle.fs_interpreter.specs.declared.cells.Cells.{Cells}
use Rattle.path_domain.specs.declared.listed.Domain.{Domain}
use Rattle.sym_run.specs.Wires.{circuit_meanings}
use Rattle.sym_run.specs.Numbers.{twice}
use Rattle.sym_run.specs.Inputs.{AreInputCells, AgreeBelow}
use Rattle.sym_run.specs.Fitting.{all_fit}
use Rattle.sym_run.specs.Trees.{IsTreeOver, grown, cell_for}
use Rattle.sym_run.proofs.TreeLaws.{Putting, all_at, at_all, fits_means, means_fits, grown_stands, stands_fits, stands_for_tree}
use Rattle.sym_run.proofs.DomainLaws.{stands_over, cells_stand, content_small}
use Rattle.sym_run.proofs.CellLaws.{cells_as_wanted}

-- cells fit exactly where they stand for a tree over the domain
pub tree_exactly : Putting → (d : Domain) (s : State) → IsTable d.table → ((i : ℕ) (p : Path) → slice_get d.table.paths i ≡ Some p → AllByRecursion IsSegment p) → ((i : ℕ) (c : List ℕ) → slice_get d.table.contents i ≡ Some c → IsBytes c)
    → s.error ≡ false → (all_fit d.table s.cell (length d.table.paths) ≡ true) ↔ ((t : Tree) × IsTreeOver d t × Stands d.table s t)
tree_exactly put d s is proper bytes fine = (
  (λ h.
      let fit = λ (i : ℕ) (p : Path) (at : slice_get d.table.paths i ≡ Some p). fits_means d.table s.cell i p at (all_at d.table s.cell (length d.table.paths) h i (slice_get_within d.table.paths i p at)) in
      let t = grown d.table s.cell (length d.table.paths) in
      let st = grown_stands put d.table s is fine fit in
      (t, record { is_tree = stands_for_tree d.table s t is proper bytes st fit; is_over = stands_over d s t st }, st)),
  (λ h. at_all d.table s.cell (length d.table.paths) (λ i l.
      let at = slice_get-get_or d.table.paths i [] l in
      means_fits d.table s.cell i (get_or d.table.paths i []) at (stands_fits d.table s h.0 is h.2 h.1.is_tree i (get_or d.table.paths i []) at))),
)

-- some valuation makes them stand for the tree, whatever the earlier inputs are
pub tree_every : {B : Type 0} (d : Domain) (gates : List Gate) (k width : ℕ) (cells : Cells B Wire (List Wire)) → AreInputCells gates k (length d.table.paths) width cells → length d.table.contents - 1 < twice width
    → (u : Valuation) (t : Tree) → IsTreeOver d t → (v : Valuation) × AgreeBelow k u v × Stands d.table (state_of (circuit_meanings gates) v cells) t
tree_every d gates k width cells is wide u t over =
    let told = cells_as_wanted gates k (length d.table.paths) width cells (λ i. cell_for d.table.contents (map.get t (slice_index_or d.table.paths i []))) u is (λ i h. content_small d.table.contents (map.get t (slice_index_or d.table.paths i [])) (twice width) wide) in
    (told.0, (λ i h. told.1 i (inl h)), cells_stand d (state_of (circuit_meanings gates) told.0 cells) t over (is.no_error told.0) told.2)
