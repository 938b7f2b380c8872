-- What stays as bits grow.
use Rattle.std.proofs.Common.{◌≡◌, ℕ, Bool, true, false, Option, Some, None, refl, ap, ◌∙◌}
use Rattle.std.specs.Prelude.{not, ◌&&◌, ◌||◌, slice_get, Result, Ok, Err, IfOk, OnOk}
use Rattle.fs_interpreter.specs.Meanings.{Valuation, Meanings, Grows, IsBit}
use Rattle.fs_interpreter.specs.States.{Cell, State, AreCells, cell_at, state_of, truth, number}
use Rattle.fs_interpreter.specs.Changed.{Becomes}
use Rattle.fs_interpreter.specs.declared.cells.Cells.{Cells}

-- what grows twice has grown
pub grows_on : {Bit Code : Type 0} (l m n : Meanings Bit Code) → Grows l m → Grows m n → Grows l n
grows_on l m n g h = record {
  owns = λ b k. h.owns b (g.owns b k);
  owns_code = λ c k. h.owns_code c (g.owns_code c k);
  bit = λ b k v. h.bit b (g.owns b k) v ∙ g.bit b k v;
  code = λ c k v. h.code c (g.owns_code c k) v ∙ g.code c k v;
}

-- cells stay cells as bits grow
pub cells_stay : {B Bit Code : Type 0} (m n : Meanings Bit Code) (cells : Cells B Bit Code) → Grows m n → AreCells m cells → AreCells n cells
cells_stay m n cells g a = record {
  folders = a.folders;
  links = a.links;
  contents = a.contents;
  present = λ i b h. g.owns b (a.present i b h);
  folder = λ i b h. g.owns b (a.folder i b h);
  link = λ i b h. g.owns b (a.link i b h);
  content = λ i c h. g.owns_code c (a.content i c h);
  error = g.owns cells.error a.error;
}

-- two readings of bits that agree on the one that is there tell the same
same_truth : {Bit : Type 0} (f g : Bit → Bool) (o : Option Bit) → ((b : Bit) → o ≡ Some b → f b ≡ g b) → truth f o ≡ truth g o
same_truth f g None h = refl
same_truth f g (Some b) h = h b refl

-- two readings of codes that agree on the one that is there tell the same
same_number : {Code : Type 0} (f g : Code → ℕ) (o : Option Code) → ((c : Code) → o ≡ Some c → f c ≡ g c) → number f o ≡ number g o
same_number f g None h = refl
same_number f g (Some c) h = h c refl

-- cells whose four parts are equal are equal
cell_made : (p q f g l k : Bool) (c d : ℕ) → p ≡ q → f ≡ g → l ≡ k → c ≡ d
    → ◌≡◌ {A = Cell} (record { present = p; folder = f; link = l; content = c }) (record { present = q; folder = g; link = k; content = d })
cell_made p q f g l k c d a b e h = λ i. record { present = a i; folder = b i; link = e i; content = h i }

-- what the cells tell stays
pub cells_keep : {B Bit Code : Type 0} (m n : Meanings Bit Code) (cells : Cells B Bit Code) → Grows m n → AreCells m cells
    → (v : Valuation) → cell_at n v cells ≡ cell_at m v cells
cells_keep m n cells g a v = λ i j. cell_made _ _ _ _ _ _ _ _
    (same_truth (n.bit v) (m.bit v) (slice_get cells.present j) (λ b h. g.bit b (a.present j b h) v))
    (same_truth (n.bit v) (m.bit v) (slice_get cells.folder j) (λ b h. g.bit b (a.folder j b h) v))
    (same_truth (n.bit v) (m.bit v) (slice_get cells.link j) (λ b h. g.bit b (a.link j b h) v))
    (same_number (n.code v) (m.code v) (slice_get cells.content j) (λ c h. g.code c (a.content j c h) v)) i

-- and so does the whole state that they tell
pub state_keeps : {B Bit Code : Type 0} (m n : Meanings Bit Code) (cells : Cells B Bit Code) → Grows m n → AreCells m cells
    → (v : Valuation) → state_of n v cells ≡ state_of m v cells
state_keeps m n cells g a v = λ i. record { cell = cells_keep m n cells g a v i; error = g.bit cells.error a.error v i }

-- or is made of not and and
pub or_is : (a b : Bool) → not (not a && not b) ≡ (a || b)
or_is true b = refl
or_is false true = refl
or_is false false = refl

-- a bit that is made means as well whatever is the same
pub if_means : {Bit Code E : Type 0} (n : Meanings Bit Code) (f g : Valuation → Bool) (r : Result Bit E) → IfOk r (IsBit n f) → ((v : Valuation) → f v ≡ g v) → IfOk r (IsBit n g)
if_means n f g (Ok b) h e = record { owned = h.owned; means = λ v. h.means v ∙ e v }
if_means n f g (Err m) h e = tt

-- a change seen from an earlier moment
pub becomes_from : {B Bit Code : Type 0} (l m n : Meanings Bit Code) (old new : Cells B Bit Code) (f g : Valuation → State → State) → Grows l m → AreCells l old
    → Becomes m n old new f → ((v : Valuation) → f v (state_of l v old) ≡ g v (state_of l v old)) → Becomes l n old new g
becomes_from l m n old new f g grows a h e = record { cells = h.cells; places = h.places; told = λ v. h.told v ∙ ap (f v) (state_keeps l m old grows a v) ∙ e v }

-- a change from a later moment, where the call went well, is one from an earlier moment
pub if_becomes : {B Bit Code X E : Type 0} (l m n : Meanings Bit Code) (old new : Cells B Bit Code) (f g : Valuation → State → State) (r : Result X E) → Grows l m → AreCells l old
    → OnOk r (Becomes m n old new f) → ((v : Valuation) → f v (state_of l v old) ≡ g v (state_of l v old)) → OnOk r (Becomes l n old new g)
if_becomes l m n old new f g (Ok x) grows a h e = becomes_from l m n old new f g grows a h e
if_becomes l m n old new f g (Err x) grows a h e = tt

-- a change, where the call went well, is each change that does the same to these cells
pub becomes_so : {B Bit Code X E : Type 0} (l n : Meanings Bit Code) (old new : Cells B Bit Code) (f g : Valuation → State → State) (r : Result X E)
    → OnOk r (Becomes l n old new f) → ((v : Valuation) → f v (state_of l v old) ≡ g v (state_of l v old)) → OnOk r (Becomes l n old new g)
becomes_so l n old new f g (Ok x) h e = record { cells = h.cells; places = h.places; told = λ v. h.told v ∙ e v }
becomes_so l n old new f g (Err x) h e = tt
