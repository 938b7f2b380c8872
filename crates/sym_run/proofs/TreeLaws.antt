-- Cells that fit stand for a tree, and only they.
use Rattle.std.proofs.Common.{◌≡◌, ◌≢◌, inl, inr, ℕ, zero, suc, ◌<◌, ◌≤◌, Bool, true, false, cond, List, [], ◌∷◌, length, Option, Some, None, slice_get, refl, sym, ap, subst, ◌∙◌, arith, nat_lt, ltb-true, is_some, IsTrue}
use Rattle.std.proofs.lemmas.Bool.{ltb-false, lt-ltb, and_from}
use Rattle.std.proofs.lemmas.Option.{slice_get_within, slice_get-get_or}
use Rattle.std.specs.Prelude.{◌&&◌, get_or, slice_index_or}
use Rattle.std.specs.List.{AllByRecursion}
use Rattle.std.specs.FinMap as map
use Rattle.fs_semantics.specs.FileTree.{Path, Tree, Entry, Folder, File, Link, IsTree, IsSegment, IsBytes, HasText, parent, is_dir}
use Rattle.fs_semantics.specs.Entries.{IsWith}
use Rattle.fs_interpreter.specs.Places.{Listed, IsTable, place_in}
use Rattle.fs_interpreter.specs.States.{Cell, State}
use Rattle.fs_interpreter.specs.Steps.{Cellwise, dir_at}
use Rattle.fs_interpreter.specs.Standing.{Tells, Stands}
use Rattle.fs_interpreter.proofs.SearchLaws.{place_there, place_nowhere}
use Rattle.sym_run.specs.Fitting.{fits_at, all_fit}
use Rattle.fs_replay.specs.Told.{with_entry}
use Rattle.sym_run.specs.Trees.{entry_in, grown}
use Rattle.sym_run.proofs.AlikeLaws.{somewhere, where_true, unless_false}
use Rattle.fs_interpreter.proofs.RunLaws.{dir_entry, first}
use Rattle.fs_interpreter.proofs.TestLaws.{cell_dir}
use Rattle.fs_semantics.proofs.Puts.{and_right}

-- what it means that a cell fits
pub record Fits (table : Listed) (cell : Cellwise) (i : ℕ) (p : Path) : Type 0 where
  pub above : (cell i).present ≡ true → dir_at (place_in table.paths (parent p)) cell ≡ true
  pub known : (cell i).present ≡ true → (cell i).folder ≡ false → (cell i).content < length table.contents

-- where the first n cells are told to fit, each of them is
pub all_at : (table : Listed) (cell : Cellwise) (n : ℕ) → all_fit table cell n ≡ true → (i : ℕ) → i < n → fits_at table cell i ≡ true
all_at table cell zero h i k = absurd (omega arith)
all_at table cell (suc n) h i k = elim (nat_lt i n) as (λ c. nat_lt i n ≡ c → fits_at table cell i ≡ true) [
  | true ↦ λ e. all_at table cell n (first (all_fit table cell n) (fits_at table cell n) h) i (ltb-true i n e)
  | false ↦ λ e. let past = ltb-false i n e in let here : n ≡ i = omega (arith, k, past) in
      subst (λ j. fits_at table cell j ≡ true) here (and_right (all_fit table cell n) (fits_at table cell n) h)
] refl

-- and where each of them is, all are
pub at_all : (table : Listed) (cell : Cellwise) (n : ℕ) → ((i : ℕ) → i < n → fits_at table cell i ≡ true) → all_fit table cell n ≡ true
at_all table cell zero h = refl
at_all table cell (suc n) h = and_from (all_fit table cell n) (fits_at table cell n) (at_all table cell n (λ i k. h i (omega (arith, k)))) (h n (omega arith))

-- what a condition implies is so under that condition
when : (b x : Bool) → (b ≡ true → x ≡ true) → cond b x true ≡ true
when true x h = h refl
when false x h = refl

-- what holds where a condition fails is so unless the condition holds
unless : (b x : Bool) → (b ≡ false → x ≡ true) → cond b true x ≡ true
unless true x h = refl
unless false x h = h refl

-- the path that stands at a place is the one that is read there
pub path_is : (paths : List Path) (i : ℕ) (p : Path) → slice_get paths i ≡ Some p → slice_index_or paths i [] ≡ p
path_is [] i p h = cc
path_is (q ∷ paths) zero p h = cc
path_is (q ∷ paths) (suc i) p h = path_is paths i p h

-- a cell that is told to fit fits
pub fits_means : (table : Listed) (cell : Cellwise) (i : ℕ) (p : Path) → slice_get table.paths i ≡ Some p → fits_at table cell i ≡ true → Fits table cell i p
fits_means table cell i p at h =
    let q = slice_index_or table.paths i [] in
    let known = nat_lt (cell i).content (length table.contents) in
    record {
      above = λ there. subst (λ r. dir_at (place_in table.paths (parent r)) cell ≡ true) (path_is table.paths i p at)
          (first (dir_at (place_in table.paths (parent q)) cell) (cond (cell i).folder true known) (where_true (cell i).present _ there h));
      known = λ there text. ltb-true (cell i).content (length table.contents)
          (unless_false (cell i).folder known text (and_right (dir_at (place_in table.paths (parent q)) cell) (cond (cell i).folder true known) (where_true (cell i).present _ there h)));
    }

-- and a cell that fits is told to
pub means_fits : (table : Listed) (cell : Cellwise) (i : ℕ) (p : Path) → slice_get table.paths i ≡ Some p → Fits table cell i p → fits_at table cell i ≡ true
means_fits table cell i p at f =
    let q = slice_index_or table.paths i [] in
    let known = nat_lt (cell i).content (length table.contents) in
    when (cell i).present _ (λ there. and_from (dir_at (place_in table.paths (parent q)) cell) (cond (cell i).folder true known)
    (subst (λ r. dir_at (place_in table.paths (parent r)) cell ≡ true) (sym (path_is table.paths i p at)) (f.above there))
    (unless (cell i).folder known (λ text. lt-ltb (cell i).content (length table.contents) (f.known there text))))

-- ---- the tree that cells tell

-- what is put into a tree stands there, and the rest stays
abbrev pub Putting : Type 0
Putting = (t : Tree) (p : Path) (x : Entry) → IsWith t (map.insert t p x) p (Some x)

-- u has what the cells at the first n places tell, and nothing else
record IsGrown (table : Listed) (cell : Cellwise) (n : ℕ) (u : Tree) : Type 0 where
  below : (k : ℕ) (p : Path) → k < n → slice_get table.paths k ≡ Some p → map.get u p ≡ entry_in table.contents (cell k)
  above : (k : ℕ) (p : Path) → n ≤ k → slice_get table.paths k ≡ Some p → map.get u p ≡ None
  elsewhere : (p : Path) → ((k : ℕ) → slice_get table.paths k ≢ Some p) → map.get u p ≡ None

-- with the cell of one more place the tree has what one place more tells
one_more : Putting → (table : Listed) (cell : Cellwise) (n : ℕ) (u : Tree) (p : Path) → IsTable table → IsGrown table cell n u → slice_get table.paths n ≡ Some p
    → (o : Option Entry) → entry_in table.contents (cell n) ≡ o → IsGrown table cell (suc n) (with_entry u p o)
one_more put table cell n u p is g at None e = record {
  below = λ k q h there. elim (nat_lt k n) as (λ b. nat_lt k n ≡ b → map.get u q ≡ entry_in table.contents (cell k)) [
    | true ↦ λ low. g.below k q (ltb-true k n low) there
    | false ↦ λ high. let past = ltb-false k n high in let here : n ≡ k = omega (arith, h, past) in
        g.above k q past there ∙ sym e ∙ ap (λ j. entry_in table.contents (cell j)) here
  ] refl;
  above = λ k q h there. g.above k q (omega (arith, h)) there;
  elsewhere = g.elsewhere;
}
one_more put table cell n u p is g at (Some x) e = let with = put u p x in record {
  below = λ k q h there. elim (nat_lt k n) as (λ b. nat_lt k n ≡ b → map.get (map.insert u p x) q ≡ entry_in table.contents (cell k)) [
    | true ↦ λ low. let under = ltb-true k n low in
        with.elsewhere q (λ same. let one = is.once k n p (there ∙ ap Some same) at in absurd (omega (arith, under, one))) ∙ g.below k q under there
    | false ↦ λ high. let past = ltb-false k n high in let here : n ≡ k = omega (arith, h, past) in
        let two : ◌≡◌ {A = Option Path} (Some p) (Some q) = sym at ∙ ap (slice_get table.paths) here ∙ there in
        let same : q ≡ p = cc in
        ap (map.get (map.insert u p x)) same ∙ with.here ∙ sym e ∙ ap (λ j. entry_in table.contents (cell j)) here
  ] refl;
  above = λ k q h there. with.elsewhere q (λ same. let one = is.once k n p (there ∙ ap Some same) at in absurd (omega (arith, h, one))) ∙ g.above k q (omega (arith, h)) there;
  elsewhere = λ q nowhere. with.elsewhere q (λ same. nowhere n (at ∙ ap Some (sym same))) ∙ g.elsewhere q nowhere;
}

-- the tree that is made of the first n cells has what they tell, and nothing else
is_grown : Putting → (table : Listed) (cell : Cellwise) → IsTable table → (n : ℕ) → n ≤ length table.paths → IsGrown table cell n (grown table cell n)
is_grown put table cell is zero h = record {
  below = λ k p low there. absurd (omega (arith, low));
  above = λ k p high there. map.get-empty _ p;
  elsewhere = λ p nowhere. map.get-empty _ p;
}
is_grown put table cell is (suc n) h =
    let at = slice_get-get_or table.paths n [] (omega (arith, h)) in
    one_more put table cell n (grown table cell n) (slice_index_or table.paths n []) is (is_grown put table cell is n (omega (arith, h))) (at ∙ ap Some (sym (path_is table.paths n (get_or table.paths n []) at))) (entry_in table.contents (cell n)) refl

-- a text stands at each number below the count of contents
text_at : (contents : List (List ℕ)) (n : ℕ) → n < length contents → slice_get contents n ≡ Some (slice_index_or contents n [])
text_at [] n h = absurd (omega arith)
text_at (c ∷ contents) zero h = refl
text_at (c ∷ contents) (suc n) h = text_at contents n (omega (arith, h))

-- a cell tells the entry that is made of it, where its content is known
cell_tells : (contents : List (List ℕ)) (c : Cell) → (c.present ≡ true → c.folder ≡ false → c.content < length contents) → Tells contents c (entry_in contents c)
cell_tells contents c known = by_present c.present c.folder c.link refl refl refl
  where
    by_present : (p f l : Bool) → c.present ≡ p → c.folder ≡ f → c.link ≡ l → Tells contents c (cond p (Some (cond f Folder (cond l (Link (slice_index_or contents c.content [])) (File (slice_index_or contents c.content []))))) None)
    by_present false f l p k m = p
    by_present true true l p k m = (p, k)
    by_present true false true p k m = (p, k, m, text_at contents c.content (known p k))
    by_present true false false p k m = (p, k, m, text_at contents c.content (known p k))

-- cells that fit stand for the tree that they tell
pub grown_stands : Putting → (table : Listed) (s : State) → IsTable table → s.error ≡ false → ((i : ℕ) (p : Path) → slice_get table.paths i ≡ Some p → Fits table s.cell i p)
    → Stands table s (grown table s.cell (length table.paths))
grown_stands put table s is fine fit = let g = is_grown put table s.cell is (length table.paths) (omega arith) in record {
  no_error = fine;
  tells = λ i p at. subst (Tells table.contents (s.cell i)) (sym (g.below i p (slice_get_within table.paths i p at) at)) (cell_tells table.contents (s.cell i) (fit i p at).known);
  nothing_else = λ p nowhere. g.elsewhere p nowhere;
}

-- ---- what stands for a tree fits, and what fits is a tree

-- a cell that is present tells of an entry
there_is : (contents : List (List ℕ)) (c : Cell) (o : Option Entry) → Tells contents c o → c.present ≡ true → IsTrue (is_some o)
there_is contents c None h e = let clash : ◌≡◌ {A = Bool} true false = sym e ∙ h in cc
there_is contents c (Some x) h e = refl

-- a cell that tells of an entry is present
is_there : (contents : List (List ℕ)) (c : Cell) (o : Option Entry) → Tells contents c o → IsTrue (is_some o) → c.present ≡ true
is_there contents c None h e = cc
is_there contents c (Some Folder) h e = h.0
is_there contents c (Some (File x)) h e = h.0
is_there contents c (Some (Link x)) h e = h.0

-- a cell that is present and no folder has a content that is known
pub known_is : (contents : List (List ℕ)) (c : Cell) (o : Option Entry) → Tells contents c o → c.present ≡ true → c.folder ≡ false → c.content < length contents
known_is contents c None h p f = let clash : ◌≡◌ {A = Bool} true false = sym p ∙ h in cc
known_is contents c (Some Folder) h p f = let clash : ◌≡◌ {A = Bool} true false = sym h.1 ∙ f in cc
known_is contents c (Some (File x)) h p f = slice_get_within contents c.content x h.3
known_is contents c (Some (Link x)) h p f = slice_get_within contents c.content x h.3

-- whether a folder is above a path of the table
dir_above : (table : Listed) (s : State) (t : Tree) (i : ℕ) (p : Path) → IsTable table → Stands table s t → slice_get table.paths i ≡ Some p → dir_at (place_in table.paths (parent p)) s.cell ≡ is_dir t (parent p)
dir_above table s t i p is st at = by_place (place_in table.paths (parent p)) refl
  where
    by_place : (o : Option ℕ) → place_in table.paths (parent p) ≡ o → dir_at o s.cell ≡ is_dir t (parent p)
    by_place None e = elim (is.parents i p at) [
      | inl top ↦ sym (ap (is_dir t) top)
      | inr there ↦ absurd (place_nowhere table.paths (parent p) e there.0 there.1)
    ]
    by_place (Some j) e = let there = place_there table.paths (parent p) j e in
        cell_dir table.contents (s.cell j) (map.get t (parent p)) (st.tells j (parent p) there)
        ∙ sym (dir_entry t (parent p) (λ top. is.no_root j (there ∙ ap Some top)))

-- cells that stand for a file tree fit
pub stands_fits : (table : Listed) (s : State) (t : Tree) → IsTable table → Stands table s t → IsTree t → (i : ℕ) (p : Path) → slice_get table.paths i ≡ Some p → Fits table s.cell i p
stands_fits table s t is st tree i p at = record {
  above = λ there. dir_above table s t i p is st at ∙ tree.parents p (there_is table.contents (s.cell i) (map.get t p) (st.tells i p at) there);
  known = known_is table.contents (s.cell i) (map.get t p) (st.tells i p at);
}

-- the content or target of an entry is the text with the number in its cell
pub text_in : (contents : List (List ℕ)) (c : Cell) (o : Option Entry) (text : List ℕ) → Tells contents c o → HasText o text → slice_get contents c.content ≡ Some text
text_in contents c None text h k = absurd k
text_in contents c (Some Folder) text h k = absurd k
text_in contents c (Some (File x)) text h k = h.3 ∙ ap Some (sym k)
text_in contents c (Some (Link x)) text h k = h.3 ∙ ap Some (sym k)

-- where nothing is, no text is
pub nothing_has_text : (o : Option Entry) (text : List ℕ) → o ≡ None → HasText o text → ⊥
nothing_has_text None text e h = h
nothing_has_text (Some x) text e h = cc

-- where nothing is, no entry is
pub nothing_there : (o : Option Entry) → o ≡ None → IsTrue (is_some o) → ⊥
nothing_there None e h = cc
nothing_there (Some x) e h = cc

-- a tree for which fitting cells stand is a file tree, where all paths are of segments and all contents of bytes
pub stands_for_tree : (table : Listed) (s : State) (t : Tree) → IsTable table → ((i : ℕ) (p : Path) → slice_get table.paths i ≡ Some p → AllByRecursion IsSegment p) → ((i : ℕ) (c : List ℕ) → slice_get table.contents i ≡ Some c → IsBytes c)
    → Stands table s t → ((i : ℕ) (p : Path) → slice_get table.paths i ≡ Some p → Fits table s.cell i p) → IsTree t
stands_for_tree table s t is proper bytes st fit = record {
  no_root = st.nothing_else [] is.no_root;
  paths = λ p h. elim (somewhere table p) [
    | inl there ↦ proper there.0 p there.1
    | inr nowhere ↦ absurd (nothing_there (map.get t p) (st.nothing_else p nowhere) h)
  ];
  parents = λ p h. elim (somewhere table p) [
    | inl there ↦ sym (dir_above table s t there.0 p is st there.1) ∙ (fit there.0 p there.1).above (is_there table.contents (s.cell there.0) (map.get t p) (st.tells there.0 p there.1) h)
    | inr nowhere ↦ absurd (nothing_there (map.get t p) (st.nothing_else p nowhere) h)
  ];
  texts = λ p text h. elim (somewhere table p) [
    | inl there ↦ bytes (s.cell there.0).content text (text_in table.contents (s.cell there.0) (map.get t p) text (st.tells there.0 p there.1) h)
    | inr nowhere ↦ absurd (nothing_has_text (map.get t p) text (st.nothing_else p nowhere) h)
  ];
}
