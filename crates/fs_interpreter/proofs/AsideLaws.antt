-- Cells kept aside, put back and chosen.
use Rattle.std.proofs.Common.{◌≡◌, ℕ, zero, suc, ◌+◌, ◌<◌, ◌==◌, Bool, true, false, cond, List, [], ◌∷◌, ◌++◌, length, get_or, drop, refl, sym, ap, subst, ◌∙◌, arith, eqb-true, append_assoc}
use Rattle.std.specs.Prelude.{◌||◌}
use Rattle.std.specs.List.{AllByRecursion}
use Rattle.fs_interpreter.specs.Meanings.{Valuation, Meanings, Grows, grows_same}
use Rattle.fs_interpreter.specs.States.{Cell, State, AreCells}
use Rattle.fs_interpreter.specs.Places.{has}
use Rattle.fs_interpreter.specs.Steps.{Cellwise, with_cell}
use Rattle.fs_interpreter.specs.Changed.{IsPut, IsOne, Becomes, one_told}
use Rattle.fs_interpreter.specs.Asides.{kept_told, read_at, put_back, put_where, AreOwn}
use Rattle.fs_interpreter.specs.declared.cells.Cells.{Cells}
use Rattle.fs_interpreter.specs.declared.cells.OneCell.{OneCell}
use Rattle.fs_interpreter.specs.declared.branch.Kept.{Kept}
use Rattle.fs_interpreter.proofs.Frames.{cells_keep, cells_stay}
use Rattle.fs_interpreter.proofs.Put.{put_cells, put_told, one_keeps}
use Rattle.std.proofs.lemmas.List.{length-set}
use Rattle.rh_base.proofs.Lists.{drop_step}

-- bits of one place that are one's own tell what they mean
pub own_again : {B Bit Code : Type 0} (m : Meanings Bit Code) (f : Valuation → Cell) (c : OneCell B Bit Code) → IsOne m f c → IsOne m (λ v. one_told m v c) c
own_again m f c one = record { present = one.present; folder = one.folder; link = one.link; content = one.content; tells = λ v. refl }

-- bits of one place that are one's own are so as bits grow
pub one_later : {B Bit Code : Type 0} (m n : Meanings Bit Code) (c : OneCell B Bit Code) → Grows m n → IsOne m (λ v. one_told m v c) c → IsOne n (λ v. one_told n v c) c
one_later m n c g one = record { present = g.owns _ one.present; folder = g.owns _ one.folder; link = g.owns _ one.link; content = g.owns_code _ one.content; tells = λ v. refl }

-- bits put at a place, and nothing else
pub put_only : {B Bit Code : Type 0} (m n : Meanings Bit Code) (old mid : Cells B Bit Code) (i : ℕ) (c : OneCell B Bit Code) (f : Valuation → Cell)
    → Grows m n → AreCells m old → i < length old.present → IsOne n f c → IsPut old i c mid → Becomes m n old mid (λ v s. record { cell = with_cell i (f v) s.cell; error = s.error })
put_only m n old mid i c f g a h one p =
    let own = own_again n f c one in
    let stay = cells_stay m n old g a in
    record {
      cells = put_cells n n old mid i c mid.error (grows_same n) stay h own p (subst n.owns (sym p.error) (g.owns old.error a.error));
      places = ap length p.present ∙ length-set old.present i c.present;
      told = λ v. let cell = put_told n n old mid i c (grows_same n) stay h own p v ∙ (λ k. with_cell i (one.tells v k) (cells_keep m n old g a v k)) in
          let error = ap (n.bit v) p.error ∙ g.bit old.error a.error v in
          (λ k. record { cell = cell k; error = error k });
    }

-- where all that is kept aside is one's own, the entry at a place is
pub own_at : {B Bit Code : Type 0} (m : Meanings Bit Code) (n : ℕ) (ks : List (Kept B Bit Code)) (i : ℕ) (k : Kept B Bit Code) → AreOwn m n ks → i < length ks → k ≡ get_or ks i k
    → (k.place < n) × IsOne m (λ v. one_told m v k.cell) k.cell
own_at m n [] i k all h e = absurd (omega arith)
own_at {B} {Bit} {Code} m n (x ∷ ks) zero k all h e = subst (λ (y : Kept B Bit Code). (y.place < n) × IsOne m (λ v. one_told m v y.cell) y.cell) (sym e) all.0
own_at m n (x ∷ ks) (suc i) k all h e = own_at m n ks i k all.1 (omega arith) e

-- what is kept aside, with one more that is one's own, is one's own
pub own_snoc : {B Bit Code : Type 0} (m : Meanings Bit Code) (n : ℕ) (ks : List (Kept B Bit Code)) (k : Kept B Bit Code) → AreOwn m n ks → k.place < n → IsOne m (λ v. one_told m v k.cell) k.cell → AreOwn m n (ks ++ k ∷ [])
own_snoc m n [] k all h one = ((h, one), tt)
own_snoc m n (x ∷ ks) k all h one = (all.0, own_snoc m n ks k all.1 h one)

-- of what is kept aside and is one's own, all but the last is
pub own_front : {B Bit Code : Type 0} (m : Meanings Bit Code) (n : ℕ) (ks : List (Kept B Bit Code)) (k : Kept B Bit Code) → AreOwn m n (ks ++ k ∷ []) → AreOwn m n ks
own_front m n [] k all = tt
own_front m n (x ∷ ks) k all = (all.0, own_front m n ks k all.1)

-- of what is kept aside and is one's own, the last is
pub own_last : {B Bit Code : Type 0} (m : Meanings Bit Code) (n : ℕ) (ks : List (Kept B Bit Code)) (k : Kept B Bit Code) → AreOwn m n (ks ++ k ∷ []) → (k.place < n) × IsOne m (λ v. one_told m v k.cell) k.cell
own_last m n [] k all = all.0
own_last m n (x ∷ ks) k all = own_last m n ks k all.1

-- what is kept aside and is one's own is so as bits grow
pub own_later : {B Bit Code : Type 0} (m n : Meanings Bit Code) (c : ℕ) (ks : List (Kept B Bit Code)) → Grows m n → AreOwn m c ks → AreOwn n c ks
own_later m n c [] g all = tt
own_later m n c (k ∷ ks) g all = ((all.0.0, one_later m n k.cell g all.0.1), own_later m n c ks g all.1)

-- what is kept aside and is one's own tells the same as bits grow
pub told_later : {B Bit Code : Type 0} (m n : Meanings Bit Code) (c : ℕ) (ks : List (Kept B Bit Code)) → Grows m n → AreOwn m c ks → (v : Valuation) → kept_told n v ks ≡ kept_told m v ks
told_later m n c [] g all v = refl
told_later m n c (k ∷ ks) g all v = λ t. (k.place, one_keeps m n k.cell g all.0.1 v t) ∷ told_later m n c ks g all.1 v t

-- one more that is kept aside tells its own place and cell at the end
pub told_snoc : {B Bit Code : Type 0} (m : Meanings Bit Code) (v : Valuation) (ks : List (Kept B Bit Code)) (k : Kept B Bit Code) → kept_told m v (ks ++ k ∷ []) ≡ kept_told m v ks ++ (k.place, one_told m v k.cell) ∷ []
told_snoc m v [] k = refl
told_snoc m v (x ∷ ks) k = ap (λ l. (x.place, one_told m v x.cell) ∷ l) (told_snoc m v ks k)

-- to put back all with one more is to put that one back first, then the others
pub back_snoc : (ks : List (ℕ × Cell)) (x : ℕ × Cell) (cell : Cellwise) → put_back (ks ++ x ∷ []) cell ≡ put_back ks (with_cell x.0 x.1 cell)
back_snoc [] x cell = refl
back_snoc (k ∷ ks) x cell = ap (with_cell k.0 k.1) (back_snoc ks x cell)

-- ---- over plain cells

-- what was read of one state and is put into another stands there at those places, and the other stays elsewhere
filled : (places : List ℕ) (f g : Cellwise) (j : ℕ) → put_back (read_at places f) g j ≡ cond (has j places) (f j) (g j)
filled [] f g j = refl
filled (i ∷ places) f g j = elim (j == i) as (λ b. (j == i) ≡ b → cond b (f i) (put_back (read_at places f) g j) ≡ cond (b || has j places) (f j) (g j)) [
  | true ↦ λ e. ap f (sym (eqb-true j i e))
  | false ↦ λ e. filled places f g j
] refl

-- what was read and is put back is there again, where nothing else has changed
pub back_again : (places : List ℕ) (f g : Cellwise) → ((j : ℕ) → has j places ≡ false → g j ≡ f j) → put_back (read_at places f) g ≡ f
back_again places f g h = λ t j. (filled places f g j ∙ by_case j (has j places) (h j)) t
  where
    by_case : (j : ℕ) (b : Bool) → (b ≡ false → g j ≡ f j) → cond b (f j) (g j) ≡ f j
    by_case j true k = refl
    by_case j false k = k refl

-- where the condition fails nothing is put
where_false : (places : List ℕ) (f g : Cellwise) (j : ℕ) → put_where false (read_at places f) g j ≡ g j
where_false [] f g j = refl
where_false (i ∷ places) f g j = where_false places f (with_cell i (g i) g) j ∙ elim (j == i) as (λ b. (j == i) ≡ b → cond b (g i) (g j) ≡ g j) [ true ↦ λ e. ap g (sym (eqb-true j i e)) | false ↦ λ e. refl ] refl

-- where the condition holds, what was read stands at those places, and the rest stays
where_true : (places : List ℕ) (f g : Cellwise) (j : ℕ) → put_where true (read_at places f) g j ≡ cond (has j places) (f j) (g j)
where_true [] f g j = refl
where_true (i ∷ places) f g j = where_true places f (with_cell i (f i) g) j ∙ elim (j == i) as (λ b. (j == i) ≡ b → cond (has j places) (f j) (cond b (f i) (g j)) ≡ cond (b || has j places) (f j) (g j)) [
  | true ↦ λ e. elim (has j places) as (λ b. cond b (f j) (f i) ≡ f j) [ true ↦ refl | false ↦ ap f (sym (eqb-true j i e)) ]
  | false ↦ λ e. refl
] refl

-- the choice is the one or the other, where they differ at these places alone
pub chosen_is : (b : Bool) (places : List ℕ) (f g : Cellwise) → ((j : ℕ) → has j places ≡ false → g j ≡ f j) → put_where b (read_at places f) g ≡ cond b f g
chosen_is true places f g h = λ t j. (where_true places f g j ∙ by_case j (has j places) (h j)) t
  where
    by_case : (j : ℕ) (b : Bool) → (b ≡ false → g j ≡ f j) → cond b (f j) (g j) ≡ f j
    by_case j true k = refl
    by_case j false k = k refl
chosen_is false places f g h = λ t j. where_false places f g j t

-- ---- steps of the loops

-- what holds of all numbers of a list holds of the one at a place
pub all_at : (P : ℕ → Type 0) (xs : List ℕ) (i : ℕ) → AllByRecursion P xs → i < length xs → P (get_or xs i 0)
all_at P [] i all h = absurd (omega arith)
all_at P (x ∷ xs) zero all h = all.0
all_at P (x ∷ xs) (suc i) all h = all_at P xs i all.1 (omega arith)

-- with one more of them chosen, what was chosen and what is left to choose are the same whole
pub choose_step : {B Bit Code : Type 0} (m0 m1 : Meanings Bit Code) (v : Valuation) (c : Bit) (kept : List (Kept B Bit Code)) (i : ℕ) (one : Kept B Bit Code) (f1 f2 w : Cellwise)
    → m1.bit v c ≡ m0.bit v c → one_told m1 v one.cell ≡ one_told m0 v one.cell → i < length kept → one ≡ get_or kept i one
    → f2 ≡ with_cell one.place (cond (m1.bit v c) (one_told m1 v one.cell) (f1 one.place)) f1
    → put_where (m0.bit v c) (kept_told m0 v (drop i kept)) f1 ≡ w → put_where (m0.bit v c) (kept_told m0 v (drop (i + 1) kept)) f2 ≡ w
choose_step m0 m1 v c kept i one f1 f2 w same told h e put_is w_is =
    ap (put_where (m0.bit v c) (kept_told m0 v (drop (i + 1) kept))) (put_is ∙ (λ k. with_cell one.place (cond (same k) (told k) (f1 one.place)) f1))
    ∙ sym (ap (λ ks. put_where (m0.bit v c) (kept_told m0 v ks) f1) (drop_step kept i one one h e)) ∙ w_is

-- with one more place read, what was read and what is left to read are the same whole
pub copy_step : {B Bit Code : Type 0} (m n : Meanings Bit Code) (v : Valuation) (kept more : List (Kept B Bit Code)) (places : List ℕ) (i x : ℕ) (k : Kept B Bit Code) (f : Cellwise) (w : List (ℕ × Cell))
    → kept_told n v kept ≡ kept_told m v kept → i < length places → x ≡ get_or places i 0 → k.place ≡ x → one_told n v k.cell ≡ f x → more ≡ kept ++ k ∷ []
    → kept_told m v kept ++ read_at (drop i places) f ≡ w → kept_told n v more ++ read_at (drop (i + 1) places) f ≡ w
copy_step m n v kept more places i x k f w same h e place told parts w_is =
    ap (λ l. l ++ read_at (drop (i + 1) places) f) (ap (kept_told n v) parts ∙ told_snoc n v kept k)
    ∙ append_assoc (kept_told n v kept) ((k.place, one_told n v k.cell) ∷ []) (read_at (drop (i + 1) places) f)
    ∙ (λ t. same t ++ (place t, told t) ∷ read_at (drop (i + 1) places) f)
    ∙ sym (ap (λ ps. kept_told m v kept ++ read_at ps f) (drop_step places i 0 x h e)) ∙ w_is

-- with the last of them put back, what was put back and what is left are the same whole
pub restore_step : {B Bit Code : Type 0} (m : Meanings Bit Code) (v : Valuation) (kept rest : List (Kept B Bit Code)) (k : Kept B Bit Code) (f1 f2 w : Cellwise)
    → kept ≡ rest ++ k ∷ [] → f2 ≡ with_cell k.place (one_told m v k.cell) f1 → put_back (kept_told m v kept) f1 ≡ w → put_back (kept_told m v rest) f2 ≡ w
restore_step m v kept rest k f1 f2 w parts put_is w_is =
    ap (put_back (kept_told m v rest)) put_is ∙ sym (back_snoc (kept_told m v rest) (k.place, one_told m v k.cell) f1)
    ∙ sym (ap (λ l. put_back l f1) (ap (kept_told m v) parts ∙ told_snoc m v rest k)) ∙ w_is

-- another error bit
pub with_error : {B Bit Code : Type 0} (m n : Meanings Bit Code) (old mid : Cells B Bit Code) (e : Bit) (f : Valuation → State → State) → Becomes m n old mid f → n.owns e
    → Becomes m n old (record mid { error = e }) (λ v s. record { cell = (f v s).cell; error = n.bit v e })
with_error m n old mid e f h own = record {
  cells = record { folders = h.cells.folders; links = h.cells.links; contents = h.cells.contents; present = h.cells.present; folder = h.cells.folder; link = h.cells.link; content = h.cells.content; error = own };
  places = h.places;
  told = λ v k. record { cell = (h.told v k).cell; error = n.bit v e };
}

-- what is kept aside is one's own as bits grow and one more comes to it
pub own_more : {B Bit Code : Type 0} (m n : Meanings Bit Code) (c : ℕ) (kept more : List (Kept B Bit Code)) (k : Kept B Bit Code) (f : Valuation → Cell)
    → Grows m n → AreOwn m c kept → k.place < c → IsOne n f k.cell → more ≡ kept ++ k ∷ [] → AreOwn n c more
own_more {B} {Bit} {Code} m n c kept more k f g all h one parts = subst (λ (ks : List (Kept B Bit Code)). AreOwn n c ks) (sym parts) (own_snoc n c kept k (own_later m n c kept g all) h (own_again n f k.cell one))

-- what is one's own is so when it is told as a front and a last one
pub own_parts : {B Bit Code : Type 0} (m : Meanings Bit Code) (n : ℕ) (kept rest : List (Kept B Bit Code)) (k : Kept B Bit Code) → AreOwn m n kept → kept ≡ rest ++ k ∷ [] → AreOwn m n (rest ++ k ∷ [])
own_parts {B} {Bit} {Code} m n kept rest k all parts = subst (λ (ks : List (Kept B Bit Code)). AreOwn m n ks) parts all
