-- A branch that is tried and undone, and the choice between two.
use Rattle.std.proofs.Common.{◌≡◌, ℕ, Bool, true, false, List, sym, ap, subst, ◌∙◌, if◌then◌else◌}
use Rattle.std.specs.Prelude.{Result, Ok, Err, OnOk}
use Rattle.fs_interpreter.specs.Meanings.{Valuation, Meanings, Grows, IsBit}
use Rattle.fs_interpreter.specs.States.{State, AreCells, cell_at, state_of}
use Rattle.fs_interpreter.specs.Places.{has}
use Rattle.fs_interpreter.specs.Steps.{Cellwise}
use Rattle.fs_interpreter.specs.Changed.{Becomes}
use Rattle.fs_interpreter.specs.Asides.{kept_told, read_at, put_back, put_where, IsAside, IsRead}
use Rattle.fs_interpreter.specs.declared.cells.Cells.{Cells}
use Rattle.fs_interpreter.specs.declared.branch.Aside.{Aside}
use Rattle.fs_interpreter.proofs.Frames.{grows_on, cells_keep, state_keeps}
use Rattle.fs_interpreter.proofs.AsideLaws.{told_later, own_later, back_again, chosen_is}

-- nothing but the cells at these places changes
abbrev pub WritesAt : List ℕ → (State → State) → Type 0
WritesAt places f = (s : State) (j : ℕ) → has j places ≡ false → (f s).cell j ≡ s.cell j

-- what is kept aside is one's own as bits grow, and over as many places
pub aside_later : {B Bit Code : Type 0} (m n : Meanings Bit Code) (c k : ℕ) (a : Aside B Bit Code) → Grows m n → c ≡ k → IsAside m c a → IsAside n k a
aside_later m n c k a g e own = subst (λ x. IsAside n x a) e (record { cells = own_later m n c a.cells.items g own.cells; error = g.owns a.error own.error })

-- what was read of a state was read of each that is the same
pub read_so : {B Bit Code : Type 0} (m : Meanings Bit Code) (places : List ℕ) (f g : Valuation → State) (a : Aside B Bit Code) → IsRead m places f a → ((v : Valuation) → f v ≡ g v) → IsRead m places g a
read_so m places f g a h e = record { cells = λ v. h.cells v ∙ ap (λ (s : State). read_at places s.cell) (e v); error = λ v. h.error v ∙ ap (λ (s : State). s.error) (e v) }

-- a branch that is tried and then undone leaves the cells as they were
pub try_same : {B Bit Code : Type 0} (m0 m1 m2 m3 : Meanings Bit Code) (cells0 cells1 cells2 : Cells B Bit Code) (old : Aside B Bit Code) (places : List ℕ) (n : ℕ) (f : State → State)
    → Grows m0 m1 → Grows m1 m2 → Grows m2 m3 → AreCells m0 cells0 → IsAside m1 n old → IsRead m1 places (λ v. state_of m0 v cells0) old
    → Becomes m1 m2 cells0 cells1 (λ v s. f s)
    → Becomes m3 m3 cells1 cells2 (λ v s. record { cell = put_back (kept_told m3 v old.cells.items) s.cell; error = m3.bit v old.error })
    → WritesAt places f → Becomes m0 m3 cells0 cells2 (λ v s. s)
try_same m0 m1 m2 m3 cells0 cells1 cells2 old places n f g01 g12 g23 a own read change restored frame =
    let g13 = grows_on m1 m2 m3 g12 g23 in
    record {
      cells = restored.cells;
      places = restored.places ∙ change.places;
      told = λ v.
          let was = state_of m0 v cells0 in
          let kept = told_later m1 m3 n old.cells.items g13 own.cells v ∙ read.cells v in
          let cell = cells_keep m2 m3 cells1 g23 change.cells v ∙ ap (λ (s : State). s.cell) (change.told v) ∙ ap (λ (s : State). (f s).cell) (state_keeps m0 m1 cells0 g01 a v) in
          let error = g13.bit old.error own.error v ∙ read.error v in
          let again = (λ t. put_back (kept t) (cell t)) ∙ back_again places was.cell (f was).cell (frame was) in
          restored.told v ∙ (λ k. record { cell = again k; error = error k });
    }

-- the choice of what two branches left is what the one or the other left
either : (b : Bool) (places : List ℕ) (e f s : State) → ((j : ℕ) → has j places ≡ false → e.cell j ≡ s.cell j) → ((j : ℕ) → has j places ≡ false → f.cell j ≡ s.cell j)
    → ◌≡◌ {A = State} (record { cell = put_where b (read_at places e.cell) f.cell; error = if b then e.error else f.error }) (if b then e else f)
either true places e f s h k = let same = chosen_is true places e.cell f.cell (λ j other. k j other ∙ sym (h j other)) in (λ t. record { cell = same t; error = e.error })
either false places e f s h k = let same = chosen_is false places e.cell f.cell (λ j other. k j other ∙ sym (h j other)) in (λ t. record { cell = same t; error = f.error })

-- two branches, tried and chosen between, leave what the branch leaves that the test names
pub branch_is : {B Bit Code : Type 0} (m0 m1 m2 m3 m4 : Meanings Bit Code) (cells0 cells2 cells3 cells4 : Cells B Bit Code) (c : Bit) (made : Aside B Bit Code) (places : List ℕ) (n : ℕ)
    (test : Cellwise → Bool) (e f : State → State)
    → Grows m0 m1 → Grows m1 m2 → Grows m2 m3 → AreCells m0 cells0
    → IsBit m1 (λ v. test (cell_at m0 v cells0)) c → IsAside m2 n made → IsRead m2 places (λ v. e (state_of m1 v cells0)) made
    → Becomes m1 m2 cells0 cells2 (λ v s. s) → Becomes m2 m3 cells2 cells3 (λ v s. f s)
    → WritesAt places e → WritesAt places f
    → Becomes m3 m4 cells3 cells4 (λ v s. record { cell = put_where (m3.bit v c) (kept_told m3 v made.cells.items) s.cell; error = if m3.bit v c then m3.bit v made.error else s.error })
    → Becomes m0 m4 cells0 cells4 (λ v s. if test s.cell then e s else f s)
branch_is m0 m1 m2 m3 m4 cells0 cells2 cells3 cells4 c made places n test e f g01 g12 g23 a bit own read same change frame_e frame_f choice =
    let g13 = grows_on m1 m2 m3 g12 g23 in
    record {
      cells = choice.cells;
      places = choice.places ∙ change.places ∙ same.places;
      told = λ v.
          let was = state_of m0 v cells0 in
          let first = state_keeps m0 m1 cells0 g01 a v in
          let other = change.told v ∙ ap f (same.told v ∙ first) in
          let kept = told_later m2 m3 n made.cells.items g23 own.cells v ∙ read.cells v ∙ ap (λ (s : State). read_at places (e s).cell) first in
          let error = g23.bit made.error own.error v ∙ read.error v ∙ ap (λ (s : State). (e s).error) first in
          let b = g13.bit c bit.owned v ∙ bit.means v in
          choice.told v ∙ (λ k. record { cell = put_where (b k) (kept k) (other k).cell; error = if b k then error k else (other k).error })
          ∙ either (test was.cell) places (e was) (f was) was (frame_e was) (frame_f was);
    }

-- what follows from what holds of an Ok result holds of an Ok result
pub on_ok : {X E P Q : Type 0} (r : Result X E) → (P → Q) → OnOk r P → OnOk r Q
on_ok (Ok x) f h = f h
on_ok (Err e) f h = tt

-- what was read at some places was read at the same places named otherwise
pub read_at_same : {B Bit Code : Type 0} (m : Meanings Bit Code) (places more : List ℕ) (f : Valuation → State) (a : Aside B Bit Code) → more ≡ places → IsRead m more f a → IsRead m places f a
read_at_same m places more f a e h = subst (λ is. IsRead m is f a) e h

-- a change told otherwise
pub becomes_so : {B Bit Code : Type 0} (m n : Meanings Bit Code) (old new : Cells B Bit Code) (f g : Valuation → State → State) → ((v : Valuation) (s : State) → f v s ≡ g v s) → Becomes m n old new f → Becomes m n old new g
becomes_so m n old new f g same b = record { cells = b.cells; places = b.places; told = λ v. b.told v ∙ same v (state_of m v old) }
