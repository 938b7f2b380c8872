-- Cells tell the same exactly where they stand for the same.
use Rattle.std.proofs.Common.{◌≡◌, ◌≢◌, ◌⊎◌, inl, inr, ℕ, zero, suc, ◌<◌, ◌==◌, Bool, true, false, cond, List, [], ◌∷◌, length, Option, Some, None, slice_get, refl, sym, ap, subst, ◌∙◌, arith, eqb-true, nat_lt, ltb-true}
use Rattle.std.proofs.lemmas.Bool.{ltb-false, and_from}
use Rattle.std.proofs.lemmas.Option.{slice_get_within, slice_get-get_or}
use Rattle.std.specs.Prelude.{◌↔◌, ◌&&◌, get_or}
use Rattle.std.specs.Cmp.Lexicographic.{pointwise}
use Rattle.std.specs.FinMap as map
use Rattle.bool_circuit.specs.declared.gate.Wire.{Wire}
use Rattle.fs_semantics.specs.FileTree.{Path, Tree, Entry, Folder, File, Link}
use Rattle.fs_semantics.specs.Programs.{Outcome}
use Rattle.fs_interpreter.specs.Meanings.{Valuation, Meanings}
use Rattle.fs_interpreter.specs.Places.{Listed, IsTable, place_in}
use Rattle.fs_interpreter.proofs.SearchLaws.{place_there, place_nowhere}
use Rattle.fs_interpreter.specs.States.{Cell, State, cell_at, truth, number}
use Rattle.fs_interpreter.specs.Steps.{Cellwise}
use Rattle.fs_interpreter.specs.Standing.{Tells, Stands, StandsFor}
use Rattle.fs_interpreter.specs.declared.cells.Cells.{Cells}
use Rattle.sym_run.specs.Alike.{same_truth, same_text, same_entry, same_cell, same_cells, same_state, HaveSameWires}
use Rattle.sym_run.proofs.NumberLaws.{eqb_is}
use Rattle.fs_interpreter.proofs.RunLaws.{first}
use Rattle.fs_semantics.proofs.Puts.{and_right}

-- a truth value is told to be the same as itself
truth_same : (x : Bool) → same_truth x x ≡ true
truth_same true = refl
truth_same false = refl

-- truth values that are told to be the same are
same_is : (x y : Bool) → same_truth x y ≡ true → x ≡ y
same_is true true h = refl
same_is true false h = sym h
same_is false true h = h
same_is false false h = refl

-- lists of which a test finds the same at each place, and the test tells what is the same
pub pointwise_same : {X : Type 0} (e : X → X → Bool) (xs ys : List X) → pointwise e xs ys ≡ true → ((x y : X) → e x y ≡ true → x ≡ y) → xs ≡ ys
pointwise_same e [] [] h same = refl
pointwise_same e [] (y ∷ ys) h same = cc
pointwise_same e (x ∷ xs) [] h same = cc
pointwise_same e (x ∷ xs) (y ∷ ys) h same = λ i. same x y (first (e x y) (pointwise e xs ys) h) i ∷ pointwise_same e xs ys (and_right (e x y) (pointwise e xs ys) h) same i

-- a cell tells what it tells
pub same_itself : (c : Cell) → same_cell c c ≡ true
same_itself c = and_from (same_truth c.present c.present) (cond c.present (same_entry c c) true) (truth_same c.present) (when c.present (same_entry c c) (and_from (same_truth c.folder c.folder) (cond c.folder true (same_text c c)) (truth_same c.folder) (unless c.folder (same_text c c) (and_from (same_truth c.link c.link) (c.content == c.content) (truth_same c.link) (eqb_is c.content c.content refl)))))
  where
    when : (b x : Bool) → x ≡ true → cond b x true ≡ true
    when true x h = h
    when false x h = refl

    unless : (b x : Bool) → x ≡ true → cond b true x ≡ true
    unless true x h = refl
    unless false x h = h

-- cells of the same wires tell the same
pub same_wires : {B : Type 0} (m : Meanings Wire (List Wire)) (v : Valuation) (a b : Cells B Wire (List Wire)) (i : ℕ) → HaveSameWires a b i → same_cell (cell_at m v a i) (cell_at m v b i) ≡ true
same_wires m v a b i h = ap (λ (c : Cell). same_cell c (cell_at m v b i)) (λ t. record { present = truth (m.bit v) (h.present t); folder = truth (m.bit v) (h.folder t); link = truth (m.bit v) (h.link t); content = number (m.code v) (h.content t) }) ∙ same_itself (cell_at m v b i)

-- ---- cells and entries

-- what is asked under a condition that holds is so
pub where_true : (b x : Bool) → b ≡ true → cond b x true ≡ true → x ≡ true
where_true true x e h = h
where_true false x e h = cc

-- what is asked unless a condition holds is so where it fails
pub unless_false : (b x : Bool) → b ≡ false → cond b true x ≡ true → x ≡ true
unless_false true x e h = cc
unless_false false x e h = h

-- the other cell tells what the one tells
tells_too : (contents : List (List ℕ)) (c d : Cell) (o : Option Entry) → same_cell c d ≡ true → Tells contents c o → Tells contents d o
tells_too contents c d None h t = sym (same_is c.present d.present (first (same_truth c.present d.present) (cond c.present (same_entry c d) true) h)) ∙ t
tells_too contents c d (Some Folder) h t =
    let present = same_is c.present d.present (first (same_truth c.present d.present) (cond c.present (same_entry c d) true) h) in
    let entry = where_true c.present (same_entry c d) t.0 (and_right (same_truth c.present d.present) (cond c.present (same_entry c d) true) h) in
    let folder = same_is c.folder d.folder (first (same_truth c.folder d.folder) (cond c.folder true (same_text c d)) entry) in
    (sym present ∙ t.0, sym folder ∙ t.1)
tells_too contents c d (Some (File x)) h t =
    let present = same_is c.present d.present (first (same_truth c.present d.present) (cond c.present (same_entry c d) true) h) in
    let entry = where_true c.present (same_entry c d) t.0 (and_right (same_truth c.present d.present) (cond c.present (same_entry c d) true) h) in
    let folder = same_is c.folder d.folder (first (same_truth c.folder d.folder) (cond c.folder true (same_text c d)) entry) in
    let text = unless_false c.folder (same_text c d) t.1 (and_right (same_truth c.folder d.folder) (cond c.folder true (same_text c d)) entry) in
    let link = same_is c.link d.link (first (same_truth c.link d.link) (c.content == d.content) text) in
    let content = eqb-true c.content d.content (and_right (same_truth c.link d.link) (c.content == d.content) text) in
    (sym present ∙ t.0, sym folder ∙ t.1, sym link ∙ t.2, ap (slice_get contents) (sym content) ∙ t.3)
tells_too contents c d (Some (Link x)) h t =
    let present = same_is c.present d.present (first (same_truth c.present d.present) (cond c.present (same_entry c d) true) h) in
    let entry = where_true c.present (same_entry c d) t.0 (and_right (same_truth c.present d.present) (cond c.present (same_entry c d) true) h) in
    let folder = same_is c.folder d.folder (first (same_truth c.folder d.folder) (cond c.folder true (same_text c d)) entry) in
    let text = unless_false c.folder (same_text c d) t.1 (and_right (same_truth c.folder d.folder) (cond c.folder true (same_text c d)) entry) in
    let link = same_is c.link d.link (first (same_truth c.link d.link) (c.content == d.content) text) in
    let content = eqb-true c.content d.content (and_right (same_truth c.link d.link) (c.content == d.content) text) in
    (sym present ∙ t.0, sym folder ∙ t.1, sym link ∙ t.2, ap (slice_get contents) (sym content) ∙ t.3)

-- cells with the same three bits and the same content tell the same
made_same : (c d : Cell) (p f l : Bool) → c.present ≡ p → d.present ≡ p → c.folder ≡ f → d.folder ≡ f → c.link ≡ l → d.link ≡ l → c.content ≡ d.content → same_cell c d ≡ true
made_same c d p f l cp dp cf df cl dl x =
    ap (λ (e : Cell). same_cell e d) (λ i. record { present = (cp ∙ sym dp) i; folder = (cf ∙ sym df) i; link = (cl ∙ sym dl) i; content = x i }) ∙ same_itself d

-- cells that tell one entry tell the same
both_tell : (table : Listed) (c d : Cell) (o : Option Entry) → IsTable table → Tells table.contents c o → Tells table.contents d o → same_cell c d ≡ true
both_tell table c d None is h k = λ i. same_truth (h i) (k i) && cond (h i) (same_entry c d) true
both_tell table c d (Some Folder) is h k = λ i. same_truth (h.0 i) (k.0 i) && cond (h.0 i) (same_truth (h.1 i) (k.1 i) && cond (h.1 i) true (same_text c d)) true
both_tell table c d (Some (File x)) is h k = made_same c d true false false h.0 k.0 h.1 k.1 h.2 k.2 (is.contents_once c.content d.content x h.3 k.3)
both_tell table c d (Some (Link x)) is h k = made_same c d true false true h.0 k.0 h.1 k.1 h.2 k.2 (is.contents_once c.content d.content x h.3 k.3)

-- cells that are told to be the same at the first n places are so at each of them
all_same : (a b : Cellwise) (n : ℕ) → same_cells a b n ≡ true → (i : ℕ) → i < n → same_cell (a i) (b i) ≡ true
all_same a b zero h i k = absurd (omega arith)
all_same a b (suc n) h i k = elim (nat_lt i n) as (λ c. nat_lt i n ≡ c → same_cell (a i) (b i) ≡ true) [
  | true ↦ λ e. all_same a b n (first (same_cells a b n) (same_cell (a n) (b n)) h) i (ltb-true i n e)
  | false ↦ λ e. let past = ltb-false i n e in let here : n ≡ i = omega (arith, k, past) in
      subst (λ j. same_cell (a j) (b j) ≡ true) here (and_right (same_cells a b n) (same_cell (a n) (b n)) h)
] refl

-- and cells that are so at each of them are told to be
same_all : (a b : Cellwise) (n : ℕ) → ((i : ℕ) → i < n → same_cell (a i) (b i) ≡ true) → same_cells a b n ≡ true
same_all a b zero h = refl
same_all a b (suc n) h = and_from (same_cells a b n) (same_cell (a n) (b n)) (same_all a b n (λ i k. h i (omega (arith, k)))) (h n (omega arith))

-- trees with the same at each path are the same
abbrev pub SameMaps : Type 0
SameMaps = (t u : Tree) → ((p : Path) → map.get t p ≡ map.get u p) → t ≡ u

-- a cell tells of one entry only
abbrev pub OneEntry : Type 0
OneEntry = (contents : List (List ℕ)) (c : Cell) (x y : Option Entry) → Tells contents c x → Tells contents c y → x ≡ y

-- states that are told to be the same are both Error or neither is
cond_or : (s t : Bool) (x : Bool) → (same_truth s t && cond s true x) ≡ true → s ≡ t
cond_or s t x h = same_is s t (first (same_truth s t) (cond s true x) h)

-- a path stands at some place of the table or at none
pub somewhere : (table : Listed) (p : Path) → ((i : ℕ) × (slice_get table.paths i ≡ Some p)) ⊎ ((i : ℕ) → slice_get table.paths i ≢ Some p)
somewhere table p = by_place (place_in table.paths p) refl
  where
    by_place : (o : Option ℕ) → place_in table.paths p ≡ o → ((i : ℕ) × (slice_get table.paths i ≡ Some p)) ⊎ ((i : ℕ) → slice_get table.paths i ≢ Some p)
    by_place None e = inr (place_nowhere table.paths p e)
    by_place (Some i) e = inl (i, place_there table.paths p i e)

-- cells that tell the same stand for the same tree
trees_same : SameMaps → OneEntry → (table : Listed) (s t : State) (x y : Tree) → Stands table s x → Stands table t y → same_cells s.cell t.cell (length table.paths) ≡ true → x ≡ y
trees_same maps one table s t x y sx ty h = maps x y (λ p. elim (somewhere table p) [
  | inl there ↦ let i = there.0 in
      one table.contents (t.cell i) (map.get x p) (map.get y p)
      (tells_too table.contents (s.cell i) (t.cell i) (map.get x p) (all_same s.cell t.cell (length table.paths) h i (slice_get_within table.paths i p there.1)) (sx.tells i p there.1))
      (ty.tells i p there.1)
  | inr nowhere ↦ sx.nothing_else p nowhere ∙ sym (ty.nothing_else p nowhere)
])

-- cells that stand for the same tree tell the same
cells_same : (table : Listed) (s t : State) (x : Tree) → IsTable table → Stands table s x → Stands table t x → same_cells s.cell t.cell (length table.paths) ≡ true
cells_same table s t x is sx tx = same_all s.cell t.cell (length table.paths) (λ i h.
    let p = get_or table.paths i [] in
    let at = slice_get-get_or table.paths i [] h in
    both_tell table (s.cell i) (t.cell i) (map.get x p) is (sx.tells i p at) (tx.tells i p at))

-- states are told to be the same exactly where they stand for the same outcome
pub alike_exactly : SameMaps → OneEntry → (table : Listed) (s t : State) (o u : Outcome) → IsTable table → StandsFor table s o → StandsFor table t u → (same_state s t (length table.paths) ≡ true) ↔ (o ≡ u)
alike_exactly maps one table s t None None is so tu = ((λ h. refl), (λ h. λ i. same_truth (so i) (tu i) && cond (so i) true (same_cells s.cell t.cell (length table.paths))))
alike_exactly maps one table s t None (Some y) is so tu = (
  (λ h. let same = cond_or s.error t.error (same_cells s.cell t.cell (length table.paths)) h in let clash : ◌≡◌ {A = Bool} true false = sym so ∙ same ∙ tu.no_error in cc),
  (λ h. cc),
)
alike_exactly maps one table s t (Some x) None is so tu = (
  (λ h. let same = cond_or s.error t.error (same_cells s.cell t.cell (length table.paths)) h in let clash : ◌≡◌ {A = Bool} true false = sym tu ∙ sym same ∙ so.no_error in cc),
  (λ h. cc),
)
alike_exactly maps one table s t (Some x) (Some y) is so tu = (
  (λ h. ap Some (trees_same maps one table s t x y so tu (unless_false s.error (same_cells s.cell t.cell (length table.paths)) so.no_error (and_right (same_truth s.error t.error) (cond s.error true (same_cells s.cell t.cell (length table.paths))) h)))),
  (λ h. let same : x ≡ y = cc in
      let cells = cells_same table s t y is (subst (Stands table s) same so) tu in
      λ i. same_truth (so.no_error i) (tu.no_error i) && cond (so.no_error i) true (cells i)),
)
