-- Trees for which cells stand are those over the domain.
use Rattle.std.proofs.Common.{◌≡◌, ◌≢◌, ◌⊎◌, inl, inr, ℕ, zero, suc, ◌-◌, ◌<◌, ◌≤◌, Bool, true, false, cond, List, [], ◌∷◌, length, map, Option, Some, None, slice_get, refl, sym, ap, subst, ◌∙◌, arith, nat_lt, ltb-true, is_some, IsTrue}
use Rattle.std.proofs.lemmas.Bool.{ltb-false, or_right, or_left, or_cases}
use Rattle.std.proofs.lemmas.Option.{slice_get_within, slice_get-get_or}
use Rattle.std.proofs.lemmas.Map.Views.{any-filter_same}
use Rattle.std.specs.Prelude.{not, ◌||◌, filter, get_or, slice_index_or}
use Rattle.std.specs.FinMap as map
use Rattle.fs_semantics.specs.FileTree.{Path, Tree, Entry, Folder, File, Link, IsTree, HasText, path_eq, is_among, is_root}
use Rattle.fs_semantics.proofs.Trees.{path_eq_same, path_eq_refl}
use Rattle.finite_domain.specs.Domains.{text_eq, is_text_among}
use Rattle.finite_domain.specs.Shadows.{IsOver}
use Rattle.finite_domain.specs.Layouts.{Layout, fresh_paths, domain_of}
use Rattle.finite_domain.proofs.Texts.{text_same, text_itself}
use Rattle.fs_interpreter.specs.Places.{content_place, number_in, or_zero}
use Rattle.fs_interpreter.specs.States.{Cell, State}
use Rattle.fs_interpreter.specs.Standing.{Tells, Stands}
use Rattle.fs_interpreter.proofs.SearchLaws.{content_there, content_found}
use Rattle.path_domain.specs.declared.listed.Domain.{Domain}
use Rattle.path_domain.specs.Laid.{layout_of}
use Rattle.sym_run.specs.Trees.{IsTreeOver, cell_for}
use Rattle.sym_run.proofs.AlikeLaws.{somewhere}
use Rattle.sym_run.proofs.TreeLaws.{path_is, text_in, nothing_has_text, nothing_there}

-- ---- what is at a place is among all

-- a path that stands at a place is among all
path_among : (ps : List Path) (i : ℕ) (p : Path) → slice_get ps i ≡ Some p → is_among p ps ≡ true
path_among [] i p h = cc
path_among (q ∷ ps) zero p h = let same : q ≡ p = cc in or_left (path_eq p q) (is_among p ps) (ap (path_eq p) same ∙ path_eq_refl p)
path_among (q ∷ ps) (suc i) p h = or_right (path_eq p q) (is_among p ps) (path_among ps i p h)

-- and one that is among all stands at some place
among_path : (ps : List Path) (p : Path) → is_among p ps ≡ true → (i : ℕ) × (slice_get ps i ≡ Some p)
among_path [] p h = cc
among_path (q ∷ ps) p h = elim (or_cases (path_eq p q) (is_among p ps) h) [
  | inl here ↦ (0, ap Some (sym (path_eq_same p q here)))
  | inr there ↦ let more = among_path ps p there in (suc more.0, more.1)
]

-- a text that stands at a place is among all
text_among : (cs : List (List ℕ)) (i : ℕ) (c : List ℕ) → slice_get cs i ≡ Some c → is_text_among c cs ≡ true
text_among [] i c h = cc
text_among (d ∷ cs) zero c h = let same : d ≡ c = cc in or_left (text_eq c d) (is_text_among c cs) (text_itself c d (sym same))
text_among (d ∷ cs) (suc i) c h = or_right (text_eq c d) (is_text_among c cs) (text_among cs i c h)

-- and one that is among all stands at some place
among_text : (cs : List (List ℕ)) (c : List ℕ) → is_text_among c cs ≡ true → (i : ℕ) × (slice_get cs i ≡ Some c)
among_text [] c h = cc
among_text (d ∷ cs) c h = elim (or_cases (text_eq c d) (is_text_among c cs) h) [
  | inl here ↦ (0, ap Some (sym (text_same c d here)))
  | inr there ↦ let more = among_text cs c there in (suc more.0, more.1)
]

-- ---- the paths of a layout

-- a path that isn't fresh is among those that aren't exactly where it is among all
kept : (ps fresh : List Path) (p : Path) → is_among p fresh ≡ false → is_among p (filter (λ q. not (is_among q fresh)) ps) ≡ is_among p ps
kept ps fresh p h = any-filter_same (path_eq p) (λ q. not (is_among q fresh)) true (λ q e. ap not (ap (λ r. is_among r fresh) (sym (path_eq_same p q e)) ∙ h)) ps

-- each path of a layout is named in its domain or is a fresh child there
known_or_fresh : (l : Layout) (p : Path) → is_among p l.paths ≡ true → ((is_root p || is_among p (domain_of l).named) || is_among p (domain_of l).fresh) ≡ true
known_or_fresh l p h = elim (is_among p (fresh_paths l)) as (λ b. is_among p (fresh_paths l) ≡ b → ((is_root p || is_among p (domain_of l).named) || is_among p (fresh_paths l)) ≡ true) [
  | true ↦ λ e. or_right (is_root p || is_among p (domain_of l).named) (is_among p (fresh_paths l)) e
  | false ↦ λ e. or_left (is_root p || is_among p (domain_of l).named) (is_among p (fresh_paths l)) (or_right (is_root p) (is_among p (domain_of l).named) (kept l.paths (fresh_paths l) p e ∙ h))
] refl

-- a path among those that pass a test is among all
filtered : (f : Path → Bool) (ps : List Path) (p : Path) → is_among p (filter f ps) ≡ true → is_among p ps ≡ true
filtered f [] p h = h
filtered f (q ∷ ps) p h = elim (f q) as (λ b. is_among p (cond b (q ∷ filter f ps) (filter f ps)) ≡ true → (path_eq p q || is_among p ps) ≡ true) [
  | true ↦ λ k. elim (or_cases (path_eq p q) (is_among p (filter f ps)) k) [
    | inl here ↦ or_left (path_eq p q) (is_among p ps) here
    | inr there ↦ or_right (path_eq p q) (is_among p ps) (filtered f ps p there)
  ]
  | false ↦ λ k. or_right (path_eq p q) (is_among p ps) (filtered f ps p k)
] h

-- what stands in the image of a list is the image of some number
mapped : (f : ℕ → Path) (is : List ℕ) (j : ℕ) (p : Path) → slice_get (map f is) j ≡ Some p → (i : ℕ) × (f i ≡ p)
mapped f [] j p h = cc
mapped f (i ∷ is) zero p h = (i, cc)
mapped f (i ∷ is) (suc j) p h = mapped f is j p h

-- past the end the root is read
past : (ps : List Path) (i : ℕ) → length ps ≤ i → slice_index_or ps i [] ≡ []
past [] i h = refl
past (p ∷ ps) zero h = absurd (omega (arith, h))
past (p ∷ ps) (suc i) h = past ps i (omega (arith, h))

-- a path but the root that is read at a place stands somewhere
fresh_place : (ps : List Path) (i : ℕ) (p : Path) → p ≢ [] → slice_index_or ps i [] ≡ p → (j : ℕ) × (slice_get ps j ≡ Some p)
fresh_place ps i p h e = elim (nat_lt i (length ps)) as (λ b. nat_lt i (length ps) ≡ b → (j : ℕ) × (slice_get ps j ≡ Some p)) [
  | true ↦ λ k. let at = slice_get-get_or ps i [] (ltb-true i (length ps) k) in (i, at ∙ ap Some (sym (path_is ps i (get_or ps i []) at) ∙ e))
  | false ↦ λ k. absurd (h (sym e ∙ past ps i (ltb-false i (length ps) k)))
] refl

-- a path that is told to be the root is the root
root_is : (p : Path) → is_root p ≡ true → p ≡ []
root_is [] h = refl
root_is (s ∷ p) h = cc

-- a path but the root that is named in the domain or a fresh child there is in the layout
laid : (l : Layout) (p : Path) → p ≢ [] → ((is_root p || is_among p (domain_of l).named) || is_among p (domain_of l).fresh) ≡ true → (i : ℕ) × (slice_get l.paths i ≡ Some p)
laid l p h e = elim (or_cases (is_root p || is_among p (domain_of l).named) (is_among p (fresh_paths l)) e) [
  | inl known ↦ elim (or_cases (is_root p) (is_among p (domain_of l).named) known) [
    | inl root ↦ absurd (h (root_is p root))
    | inr named ↦ among_path l.paths p (filtered (λ q. not (is_among q (fresh_paths l))) l.paths p named)
  ]
  | inr fresh ↦
      let there = among_path (fresh_paths l) p fresh in
      let from = mapped (λ i. slice_index_or l.paths i []) l.fresh there.0 p there.1 in
      fresh_place l.paths from.0 p h from.1
]

-- ---- what stands over the table is over the domain

-- a tree for which cells over the table stand is over the domain
pub stands_over : (d : Domain) (s : State) (t : Tree) → Stands d.table s t → IsOver (domain_of (layout_of d)) t
stands_over d s t st = record {
  paths = λ p h. elim (somewhere d.table p) [
    | inl there ↦ known_or_fresh (layout_of d) p (path_among d.table.paths there.0 p there.1)
    | inr nowhere ↦ absurd (nothing_there (map.get t p) (st.nothing_else p nowhere) h)
  ];
  contents = λ p c h. elim (somewhere d.table p) [
    | inl there ↦ text_among d.table.contents (s.cell there.0).content c (text_in d.table.contents (s.cell there.0) (map.get t p) c (st.tells there.0 p there.1) h)
    | inr nowhere ↦ absurd (nothing_has_text (map.get t p) c (st.nothing_else p nowhere) h)
  ];
}

-- the number of a content that is known leads to it
numbered : (contents : List (List ℕ)) (c : List ℕ) → is_text_among c contents ≡ true → slice_get contents (number_in contents c) ≡ Some c
numbered contents c h =
    let at = among_text contents c h in
    let found = content_found contents c at.0 at.1 in
    ap (slice_get contents) (ap or_zero found.1) ∙ content_there contents c found.0 found.1

-- the cell that is made for an entry tells it, where its content or target is known
tells_for : (contents : List (List ℕ)) (o : Option Entry) → ((c : List ℕ) → HasText o c → is_text_among c contents ≡ true) → Tells contents (cell_for contents o) o
tells_for contents None h = refl
tells_for contents (Some Folder) h = (refl, refl)
tells_for contents (Some (File c)) h = (refl, refl, refl, numbered contents c (h c refl))
tells_for contents (Some (Link c)) h = (refl, refl, refl, numbered contents c (h c refl))

-- where no entry can be there is none
no_entry : (o : Option Entry) → (IsTrue (is_some o) → ⊥) → o ≡ None
no_entry None h = refl
no_entry (Some x) h = absurd (h refl)

-- a path at which a file tree has an entry isn't the root
not_root : (t : Tree) (p : Path) → IsTree t → IsTrue (is_some (map.get t p)) → p ≢ []
not_root t p is h e = nothing_there (map.get t p) (ap (map.get t) e ∙ is.no_root) h

-- cells that tell each entry of a tree over the domain stand for it
pub cells_stand : (d : Domain) (s : State) (t : Tree) → IsTreeOver d t → s.error ≡ false
    → ((i : ℕ) → i < length d.table.paths → s.cell i ≡ cell_for d.table.contents (map.get t (slice_index_or d.table.paths i []))) → Stands d.table s t
cells_stand d s t over fine want = record {
  no_error = fine;
  tells = λ i p at.
      let told = want i (slice_get_within d.table.paths i p at) ∙ ap (λ q. cell_for d.table.contents (map.get t q)) (path_is d.table.paths i p at) in
      subst (λ (c : Cell). Tells d.table.contents c (map.get t p)) (sym told) (tells_for d.table.contents (map.get t p) (λ c h. over.is_over.contents p c h));
  nothing_else = λ p nowhere. no_entry (map.get t p) (λ h.
      let there = laid (layout_of d) p (not_root t p over.is_tree h) (over.is_over.paths p h) in nowhere there.0 there.1);
}

-- a number above the last of the contents is above the number of each text
place_small : (contents : List (List ℕ)) (c : List ℕ) (n : ℕ) → length contents - 1 < n → number_in contents c < n
place_small contents c n h = by_place (content_place contents c) refl
  where
    by_place : (o : Option ℕ) → content_place contents c ≡ o → or_zero o < n
    by_place None e = omega (arith, h)
    by_place (Some i) e = let low = slice_get_within contents i c (content_there contents c i e) in omega (arith, h, low)

-- and above the number in the cell of each entry
pub content_small : (contents : List (List ℕ)) (o : Option Entry) (n : ℕ) → length contents - 1 < n → (cell_for contents o).content < n
content_small contents None n h = omega (arith, h)
content_small contents (Some Folder) n h = omega (arith, h)
content_small contents (Some (File c)) n h = place_small contents c n h
content_small contents (Some (Link c)) n h = place_small contents c n h
