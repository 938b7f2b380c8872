-- Bits put at one place.
use Rattle.std.proofs.Common.{◌≡◌, ◌≢◌, ℕ, zero, suc, ◌<◌, ◌==◌, Bool, true, false, cond, List, [], ◌∷◌, length, Option, Some, refl, sym, ap, subst, ◌∙◌, arith, eqb-true}
use Rattle.std.proofs.lemmas.Bool.{eqb-false}
use Rattle.std.proofs.lemmas.List.{length-set}
use Rattle.std.specs.Prelude.{not, ◌||◌, slice_get, slice_set}
use Rattle.fs_interpreter.specs.Meanings.{Valuation, Meanings, Grows}
use Rattle.fs_interpreter.specs.States.{Cell, AreCells, cell_at, truth, number}
use Rattle.fs_interpreter.specs.Steps.{with_cell, put}
use Rattle.fs_interpreter.specs.Changed.{IsPut, IsOne, Becomes, one_told}
use Rattle.fs_interpreter.specs.declared.cells.Cells.{Cells}
use Rattle.fs_interpreter.specs.declared.cells.OneCell.{OneCell}
use Rattle.fs_interpreter.proofs.Frames.{cells_keep}

-- what is put at a place stands there
set_here : {X : Type 0} (xs : List X) (i : ℕ) (y : X) → i < length xs → slice_get (slice_set xs i y) i ≡ Some y
set_here [] i y h = absurd (omega arith)
set_here (x ∷ xs) zero y h = refl
set_here (x ∷ xs) (suc i) y h = set_here xs i y (omega arith)

-- the other places stay
set_elsewhere : {X : Type 0} (xs : List X) (i j : ℕ) (y : X) → j ≢ i → slice_get (slice_set xs i y) j ≡ slice_get xs j
set_elsewhere [] i j y h = refl
set_elsewhere (x ∷ xs) zero zero y h = absurd (h refl)
set_elsewhere (x ∷ xs) zero (suc j) y h = refl
set_elsewhere (x ∷ xs) (suc i) zero y h = refl
set_elsewhere (x ∷ xs) (suc i) (suc j) y h = set_elsewhere xs i j y (λ e. h (ap suc e))

-- after one is put, that one stands at its place, and the others where they stood
pub get_set : {X : Type 0} (xs : List X) (i j : ℕ) (y : X) → i < length xs → slice_get (slice_set xs i y) j ≡ cond (j == i) (Some y) (slice_get xs j)
get_set xs i j y h = elim (j == i) as (λ b. (j == i) ≡ b → slice_get (slice_set xs i y) j ≡ cond b (Some y) (slice_get xs j)) [
  | true ↦ λ e. ap (slice_get (slice_set xs i y)) (eqb-true j i e) ∙ set_here xs i y h
  | false ↦ λ e. set_elsewhere xs i j y (eqb-false j i e)
] refl

-- what holds of what is put and of each that stood there holds of each
all_set : {X : Type 0} (P : X → Type 0) (xs : List X) (i : ℕ) (y : X) → P y → ((j : ℕ) (x : X) → slice_get xs j ≡ Some x → P x) → (j : ℕ) (x : X) → slice_get (slice_set xs i y) j ≡ Some x → P x
all_set P [] i y p all j x e = all j x e
all_set P (z ∷ xs) zero y p all zero x e = let same : y ≡ x = cc in subst P same p
all_set P (z ∷ xs) zero y p all (suc j) x e = all (suc j) x e
all_set P (z ∷ xs) (suc i) y p all zero x e = all zero x e
all_set P (z ∷ xs) (suc i) y p all (suc j) x e = all_set P xs i y p (λ k w. all (suc k) w) j x e

-- the cell that these bits and this code tell
abbrev cell_of : {Bit Code : Type 0} → Meanings Bit Code → Valuation → Option Bit → Option Bit → Option Bit → Option Code → Cell
cell_of m v p f l c = record { present = truth (m.bit v) p; folder = truth (m.bit v) f; link = truth (m.bit v) l; content = number (m.code v) c }

-- where a place has new bits the cell tells these, and else what it told before
cell_told : {B Bit Code : Type 0} (m n : Meanings Bit Code) (old : Cells B Bit Code) (c : OneCell B Bit Code) → Grows m n → AreCells m old → IsOne m (λ v. one_told m v c) c
    → (v : Valuation) (j : ℕ) (b : Bool)
    → cell_of n v (cond b (Some c.present) (slice_get old.present j)) (cond b (Some c.folder) (slice_get old.folder j)) (cond b (Some c.link) (slice_get old.link j)) (cond b (Some c.content) (slice_get old.content j))
    ≡ cond b (one_told m v c) (cell_at m v old j)
cell_told m n old c g a one v j true = λ k. record { present = g.bit c.present one.present v k; folder = g.bit c.folder one.folder v k; link = g.bit c.link one.link v k; content = g.code c.content one.content v k }
cell_told m n old c g a one v j false = λ k. cells_keep m n old g a v k j

-- cells with new bits at one place, and another error bit, are cells
pub put_cells : {B Bit Code : Type 0} (m n : Meanings Bit Code) (old mid : Cells B Bit Code) (i : ℕ) (c : OneCell B Bit Code) (e : Bit)
    → Grows m n → AreCells m old → i < length old.present → IsOne m (λ v. one_told m v c) c → IsPut old i c mid → n.owns e → AreCells n (record mid { error = e })
put_cells m n old mid i c e g a h one p own = let same : length mid.present ≡ length old.present = ap length p.present ∙ length-set old.present i c.present in record {
  folders = ap length p.folder ∙ length-set old.folder i c.folder ∙ a.folders ∙ sym same;
  links = ap length p.link ∙ length-set old.link i c.link ∙ a.links ∙ sym same;
  contents = ap length p.content ∙ length-set old.content i c.content ∙ a.contents ∙ sym same;
  present = λ j b k. all_set n.owns old.present i c.present (g.owns c.present one.present) (λ t x q. g.owns x (a.present t x q)) j b (ap (λ xs. slice_get xs j) (sym p.present) ∙ k);
  folder = λ j b k. all_set n.owns old.folder i c.folder (g.owns c.folder one.folder) (λ t x q. g.owns x (a.folder t x q)) j b (ap (λ xs. slice_get xs j) (sym p.folder) ∙ k);
  link = λ j b k. all_set n.owns old.link i c.link (g.owns c.link one.link) (λ t x q. g.owns x (a.link t x q)) j b (ap (λ xs. slice_get xs j) (sym p.link) ∙ k);
  content = λ j b k. all_set n.owns_code old.content i c.content (g.owns_code c.content one.content) (λ t x q. g.owns_code x (a.content t x q)) j b (ap (λ xs. slice_get xs j) (sym p.content) ∙ k);
  error = own;
}

-- cells with new bits at one place tell these there, and elsewhere what they told before
pub put_told : {B Bit Code : Type 0} (m n : Meanings Bit Code) (old mid : Cells B Bit Code) (i : ℕ) (c : OneCell B Bit Code)
    → Grows m n → AreCells m old → i < length old.present → IsOne m (λ v. one_told m v c) c → IsPut old i c mid
    → (v : Valuation) → cell_at n v mid ≡ with_cell i (one_told m v c) (cell_at m v old)
put_told m n old mid i c g a h one p v =
    let at = λ (j : ℕ). ap (λ xs. slice_get xs j) p.present ∙ get_set old.present i j c.present h in
    let at_folder = λ (j : ℕ). ap (λ xs. slice_get xs j) p.folder ∙ get_set old.folder i j c.folder (omega (arith, a.folders)) in
    let at_link = λ (j : ℕ). ap (λ xs. slice_get xs j) p.link ∙ get_set old.link i j c.link (omega (arith, a.links)) in
    let at_content = λ (j : ℕ). ap (λ xs. slice_get xs j) p.content ∙ get_set old.content i j c.content (omega (arith, a.contents)) in
    (λ k j. ((λ t. cell_of n v (at j t) (at_folder j t) (at_link j t) (at_content j t)) ∙ cell_told m n old c g a one v j (j == i)) k)

-- new bits at one place, with an error bit for the condition, put that cell where the condition holds
pub put_becomes : {B Bit Code : Type 0} (m n : Meanings Bit Code) (old mid : Cells B Bit Code) (i : ℕ) (c : OneCell B Bit Code) (e : Bit) (ok : Valuation → Bool)
    → Grows m n → AreCells m old → i < length old.present → IsOne m (λ v. one_told m v c) c → IsPut old i c mid → n.owns e → ((v : Valuation) → n.bit v e ≡ (m.bit v old.error || not (ok v)))
    → Becomes m n old (record mid { error = e }) (λ v s. put (Some i) (ok v) (one_told m v c) s)
put_becomes m n old mid i c e ok g a h one p own means = record {
  cells = put_cells m n old mid i c e g a h one p own;
  places = ap length p.present ∙ length-set old.present i c.present;
  told = λ v k. record { cell = put_told m n old mid i c g a h one p v k; error = means v k };
}

-- ---- an entry that goes

-- cells with a false bit for presence at one place tell that nothing is there, and the rest as before
clear_told : {B Bit Code : Type 0} (m n : Meanings Bit Code) (old : Cells B Bit Code) (i : ℕ) (b e : Bit)
    → Grows m n → AreCells m old → i < length old.present → ((v : Valuation) → n.bit v b ≡ false)
    → (v : Valuation) → cell_at n v (record old { present = slice_set old.present i b; error = e }) ≡ with_cell i (record (cell_at m v old i) { present = false }) (cell_at m v old)
clear_told m n old i b e g a h none v =
    let keep = cells_keep m n old g a v in
    let at = λ (j : ℕ). get_set old.present i j b h in
    (λ k j. ((λ t. cell_of n v (at j t) (slice_get old.folder j) (slice_get old.link j) (slice_get old.content j)) ∙ by_case keep j (j == i) (eqb-true j i)) k)
  where
    by_case : cell_at n v old ≡ cell_at m v old → (j : ℕ) (x : Bool) → (x ≡ true → j ≡ i)
        → cell_of n v (cond x (Some b) (slice_get old.present j)) (slice_get old.folder j) (slice_get old.link j) (slice_get old.content j)
        ≡ cond x (record (cell_at m v old i) { present = false }) (cell_at m v old j)
    by_case keep j true same = (λ t. record (keep t j) { present = none v t }) ∙ ap (λ t. record (cell_at m v old t) { present = false }) (same refl)
    by_case keep j false same = λ t. keep t j

-- such a bit, with an error bit for the condition, takes the entry away where the condition holds
pub clear_becomes : {B Bit Code : Type 0} (m n : Meanings Bit Code) (old : Cells B Bit Code) (i : ℕ) (b e : Bit) (ok : Valuation → Bool)
    → Grows m n → AreCells m old → i < length old.present → n.owns b → ((v : Valuation) → n.bit v b ≡ false) → n.owns e → ((v : Valuation) → n.bit v e ≡ (m.bit v old.error || not (ok v)))
    → Becomes m n old (record old { present = slice_set old.present i b; error = e }) (λ v s. put (Some i) (ok v) (record (s.cell i) { present = false }) s)
clear_becomes m n old i b e ok g a h own_b none own means = let same : length (slice_set old.present i b) ≡ length old.present = length-set old.present i b in record {
  cells = record {
    folders = a.folders ∙ sym same;
    links = a.links ∙ sym same;
    contents = a.contents ∙ sym same;
    present = all_set n.owns old.present i b own_b (λ t x q. g.owns x (a.present t x q));
    folder = λ t x q. g.owns x (a.folder t x q);
    link = λ t x q. g.owns x (a.link t x q);
    content = λ t x q. g.owns_code x (a.content t x q);
    error = own;
  };
  places = same;
  told = λ v k. record { cell = clear_told m n old i b e g a h none v k; error = means v k };
}

-- bits of one place go on telling what they told
pub one_keeps : {B Bit Code : Type 0} (m n : Meanings Bit Code) (c : OneCell B Bit Code) → Grows m n → IsOne m (λ v. one_told m v c) c → (v : Valuation) → one_told n v c ≡ one_told m v c
one_keeps m n c g one v = λ k. record { present = g.bit c.present one.present v k; folder = g.bit c.folder one.folder v k; link = g.bit c.link one.link v k; content = g.code c.content one.content v k }

-- an entry goes so, too, where the list of those bits is only equal to the one that was set
pub clear_as : {B Bit Code : Type 0} (m n : Meanings Bit Code) (old : Cells B Bit Code) (i : ℕ) (b e : Bit) (present : List Bit) (ok : Valuation → Bool)
    → Grows m n → AreCells m old → i < length old.present → n.owns b → ((v : Valuation) → n.bit v b ≡ false) → n.owns e → ((v : Valuation) → n.bit v e ≡ (m.bit v old.error || not (ok v)))
    → present ≡ slice_set old.present i b
    → Becomes m n old (record old { present = present; error = e }) (λ v s. put (Some i) (ok v) (record (s.cell i) { present = false }) s)
clear_as {B} {Bit} m n old i b e present ok g a h own_b none own means is =
    subst (λ (ps : List Bit). Becomes m n old (record old { present = ps; error = e }) (λ v s. put (Some i) (ok v) (record (s.cell i) { present = false }) s)) (sym is)
    (clear_becomes m n old i b e ok g a h own_b none own means)
