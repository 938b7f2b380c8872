-- Lists of all differences.
use Rattle.std.proofs.Common.{◌≡◌, ◌≢◌, ◌⊎◌, inl, inr, ℕ, Bool, true, List, [], ◌∷◌, map, Option, Some, None, is_some, IsTrue, refl, sym, ap, subst, ◌∙◌}
use Rattle.std.specs.declared.cmp.Ordering.{Ordering}
use Rattle.std.specs.declared.cmp.Ordering.TheVariants.{Less, Equal, Greater}
use Rattle.std.specs.Ordering.{nat_cmp, eq_by_cmp, ordering_reverse}
use Rattle.std.specs.Prelude.{◌↔◌}
use Rattle.std.specs.Cmp.{tied_itself}
use Rattle.std.specs.Cmp.Lexicographic.{slice_cmp}
use Rattle.std.specs.List.{AllByRecursion, list_any}
use Rattle.std.specs.FinMap as finite
use Rattle.std.specs.FinMap.{contains_key-keys}
use Rattle.std.proofs.lemmas.Bool.{or_cases}
use Rattle.fs_semantics.specs.FileTree.{Path, Entry, Tree, IsSegment, IsTree, path_cmp}
use Rattle.fs_semantics.proofs.Trees.{path_eq_same, at_inserted}
use Rattle.fs_semantics.proofs.Words.{same_tree}
use Rattle.fs_semantics.proofs.Decided.{outcome_told}
use Rattle.fs_lang.specs.PathText.{path_text}
use Rattle.tree_differences.specs.declared.placing.Difference as code
use Rattle.tree_differences.specs.Differences.{Difference, IsDifference, Has, IsBefore, Rises, AreDifferences}
use Rattle.tree_differences.specs.Listed.{difference_of, HasText, TextsRise, AreListed}
use Rattle.tree_differences.proofs.OrderLaws.{text_total, text_same, any_order}

-- ---- one list

-- nothing of the same text stands behind what comes before it
no_equal : (x y : List ℕ) → x ≡ y → slice_cmp nat_cmp x y ≡ Less → ⊥
no_equal x y e h =
    let tied = tied_itself text_total y in
    let less = ap (λ z. slice_cmp nat_cmp z y) (sym e) ∙ h in
    let clash : ◌≡◌ {A = Ordering} Equal Less = sym tied ∙ less in cc

-- what comes before all of a list isn't in it
not_behind : (d : Difference) (es : List Difference) → AllByRecursion (IsBefore d) es → Has es d.path → ⊥
not_behind d [] h k = k
not_behind d (e ∷ es) h k = elim k [
  | inl here ↦ no_equal (path_text d.path) (path_text e.path) (ap path_text (sym here)) h.0
  | inr there ↦ not_behind d es h.1 there
]

-- nor behind a later one
not_later : (d e : Difference) (es : List Difference) → IsBefore d e → AllByRecursion (IsBefore e) es → Has (e ∷ es) d.path → ⊥
not_later d e es h all k = not_behind d (e ∷ es) (h, later es all) k
  where
    later : (xs : List Difference) → AllByRecursion (IsBefore e) xs → AllByRecursion (IsBefore d) xs
    later [] g = tt
    later (x ∷ xs) g = (text_total.trans (path_text d.path) (path_text e.path) (path_text x.path) h g.0, later xs g.1)

-- trees have one difference at a path
one_difference : (t u : Tree) (d e : Difference) → d.path ≡ e.path → IsDifference t u d → IsDifference t u e → d ≡ e
one_difference t u d e same h k =
    let first = sym h.first ∙ ap (finite.get t) same ∙ k.first in
    let second = sym h.second ∙ ap (finite.get u) same ∙ k.second in
    λ i. record { path = same i; first = first i; second = second i }

-- the heads of two lists of the same paths have one path
heads : (d e : Difference) (ds es : List Difference) → Rises (d ∷ ds) → Rises (e ∷ es) → Has (e ∷ es) d.path → Has (d ∷ ds) e.path → d.path ≡ e.path
heads d e ds es h k x y = elim (any_order (slice_cmp nat_cmp (path_text d.path) (path_text e.path))) [
  | inl less ↦ absurd (not_later d e es less k.0 x)
  | inr more ↦ elim more [
    | inl same ↦ elim x [
      | inl here ↦ sym here
      | inr there ↦
          let text = text_same (path_text d.path) (path_text e.path) same in
          absurd (not_behind (record { path = d.path; first = e.first; second = e.second }) es (along es text k.0) there)
    ]
    | inr later ↦ absurd (not_later e d ds (text_total.antisymm (path_text e.path) (path_text d.path) ∙ ap ordering_reverse later) h.0 y)
  ]
]
  where
    along : (xs : List Difference) → path_text d.path ≡ path_text e.path → AllByRecursion (IsBefore e) xs → AllByRecursion (IsBefore (record { path = d.path; first = e.first; second = e.second })) xs
    along [] text g = tt
    along (z ∷ xs) text g = (ap (λ w. slice_cmp nat_cmp w (path_text z.path)) text ∙ g.0, along xs text g.1)

-- the rests of two lists of the same paths have the same paths
tails : (d e : Difference) (ds es : List Difference) → d.path ≡ e.path → AllByRecursion (IsBefore d) ds → ((p : Path) → Has (d ∷ ds) p → Has (e ∷ es) p) → (p : Path) → Has ds p → Has es p
tails d e ds es same h f p k = elim (f p (inr k)) [
  | inl here ↦ absurd (not_behind d ds h (subst (Has ds) (sym here ∙ sym same) k))
  | inr there ↦ there
]

-- two lists of differences that rise and have the same paths are the same
one_list : (t u : Tree) (ds es : List Difference) → AllByRecursion (IsDifference t u) ds → AllByRecursion (IsDifference t u) es → Rises ds → Rises es
    → ((p : Path) → Has ds p → Has es p) → ((p : Path) → Has es p → Has ds p) → ds ≡ es
one_list t u [] [] a b h k f g = refl
one_list t u [] (e ∷ es) a b h k f g = absurd (g e.path (inl refl))
one_list t u (d ∷ ds) [] a b h k f g = absurd (f d.path (inl refl))
one_list t u (d ∷ ds) (e ∷ es) a b h k f g =
    let same = heads d e ds es h k (f d.path (inl refl)) (g e.path (inl refl)) in
    let first = one_difference t u d e same a.0 b.0 in
    let rest = one_list t u ds es a.1 b.1 h.1 k.1 (tails d e ds es same h.0 f) (tails e d es ds (sym same) k.0 g) in
    λ i. first i ∷ rest i

-- trees differ at each path of a list of their differences
differs_in : (t u : Tree) (ds : List Difference) (p : Path) → AllByRecursion (IsDifference t u) ds → Has ds p → finite.get t p ≢ finite.get u p
differs_in t u [] p h k = absurd k
differs_in t u (d ∷ ds) p h k = elim k [
  | inl here ↦ λ e. h.0.differ (sym h.0.first ∙ ap (finite.get t) here ∙ e ∙ ap (finite.get u) (sym here) ∙ h.0.second)
  | inr there ↦ differs_in t u ds p h.1 there
]

-- there is one list of all differences
pub lists_alike : (t u : Tree) (ds es : List Difference) → AreDifferences t u ds → AreDifferences t u es → ds ≡ es
lists_alike t u ds es a b = one_list t u ds es a.each b.each a.order b.order (λ p h. b.all p (differs_in t u ds p a.each h)) (λ p h. a.all p (differs_in t u es p b.each h))

-- ---- none

-- entries are the same or not
entry_told : (x y : Entry) → (x ≡ y) ⊎ (x ≡ y → ⊥)
entry_told x y = elim (outcome_told (Some (finite.insert finite.empty [] x)) (Some (finite.insert finite.empty [] y))) [
  | inl e ↦
      let same : ◌≡◌ {A = Tree} (finite.insert finite.empty [] x) (finite.insert finite.empty [] y) = cc in
      let there = sym (at_inserted finite.empty [] x) ∙ ap (λ t. finite.get t []) same ∙ at_inserted finite.empty [] y in
      inl cc
  | inr n ↦ inr (λ e. n (ap (λ z. Some (finite.insert finite.empty [] z)) e))
]

-- and so is what may stand at a path
found_told : (a b : Option Entry) → (a ≡ b) ⊎ (a ≡ b → ⊥)
found_told None None = inl refl
found_told None (Some y) = inr (λ h. cc)
found_told (Some x) None = inr (λ h. cc)
found_told (Some x) (Some y) = elim (entry_told x y) [ inl e ↦ inl (ap (λ z. Some z) e) | inr n ↦ inr (λ h. n cc) ]

-- the list is empty exactly where the trees are the same
pub no_difference : (t u : Tree) (ds : List Difference) → AreDifferences t u ds → (ds ≡ []) ↔ (t ≡ u)
no_difference t u ds a = (
  (λ e. same_tree t u (λ p. elim (found_told (finite.get t p) (finite.get u p)) [
    | inl same ↦ same
    | inr differ ↦ absurd (subst (λ xs. Has xs p) e (a.all p differ))
  ])),
  (λ e. no_entry ds a.each e),
)
  where
    no_entry : (xs : List Difference) → AllByRecursion (IsDifference t u) xs → t ≡ u → xs ≡ []
    no_entry [] h e = refl
    no_entry (d ∷ xs) h e = absurd (h.0.differ (sym h.0.first ∙ ap (λ v. finite.get v d.path) e ∙ h.0.second))

-- ---- of a list that was made

-- a path at which trees differ is one of their entries
pub in_either : (t u : Tree) (p : Path) → finite.get t p ≢ finite.get u p → IsTrue (finite.contains_key t p) ⊎ IsTrue (finite.contains_key u p)
in_either t u p h = cases (finite.get t p) (finite.get u p) h
  where
    cases : (a b : Option Entry) → a ≢ b → IsTrue (is_some a) ⊎ IsTrue (is_some b)
    cases None None h = absurd (h refl)
    cases (Some x) b h = inl refl
    cases None (Some y) h = inr refl

-- a path at which file trees differ is made of segments
segments : (t u : Tree) → IsTree t → IsTree u → (p : Path) → finite.get t p ≢ finite.get u p → AllByRecursion IsSegment p
segments t u a b p h = elim (in_either t u p h) [ inl x ↦ a.paths p x | inr y ↦ b.paths p y ]

-- paths that are written alike are the same
abbrev OneText : Type 0
OneText = (p q : Path) → AllByRecursion IsSegment p → AllByRecursion IsSegment q → path_text p ≡ path_text q → p ≡ q

-- differences of the code are differences
each_map : (t u : Tree) (ds : List code.Difference) → AllByRecursion (λ d. IsDifference t u (difference_of d)) ds → AllByRecursion (IsDifference t u) (map difference_of ds)
each_map t u [] h = tt
each_map t u (d ∷ ds) h = (h.0, each_map t u ds h.1)

-- those whose texts come before the others' come before them
before_map : (d : code.Difference) (ds : List code.Difference) → d.text ≡ path_text d.path.now → AllByRecursion (λ e. e.text ≡ path_text e.path.now) ds → AllByRecursion (λ e. slice_cmp nat_cmp d.text e.text ≡ Less) ds
    → AllByRecursion (IsBefore (difference_of d)) (map difference_of ds)
before_map d [] x h k = tt
before_map d (e ∷ ds) x h k = (ap (λ y. slice_cmp nat_cmp y (path_text e.path.now)) (sym x) ∙ ap (slice_cmp nat_cmp d.text) (sym h.0) ∙ k.0, before_map d ds x h.1 k.1)

-- and where the texts rise they rise
rises_map : (ds : List code.Difference) → AllByRecursion (λ e. e.text ≡ path_text e.path.now) ds → TextsRise ds → Rises (map difference_of ds)
rises_map [] h k = tt
rises_map (d ∷ ds) h k = (before_map d ds h.0 h.1 k.0, rises_map ds h.1 k.1)

-- a list that has the text of a path at which trees differ has the path
has_map : (t u : Tree) → IsTree t → IsTree u → OneText → (p : Path) → finite.get t p ≢ finite.get u p → (ds : List code.Difference) → AllByRecursion (λ e. e.text ≡ path_text e.path.now) ds
    → AllByRecursion (λ d. IsDifference t u (difference_of d)) ds → HasText ds (path_text p) → Has (map difference_of ds) p
has_map t u a b one p h [] x y k = absurd k
has_map t u a b one p h (d ∷ ds) x y k = elim k [
  | inl here ↦
      let apart : finite.get t d.path.now ≢ finite.get u d.path.now = λ e. y.0.differ (sym y.0.first ∙ e ∙ y.0.second) in
      inl (one d.path.now p (segments t u a b d.path.now apart) (segments t u a b p h) (sym x.0 ∙ here))
  | inr there ↦ inr (has_map t u a b one p h ds x.1 y.1 there)
]

-- a list of differences that has the text of each path at which the trees differ is that of all
pub are_differences : (t u : Tree) → IsTree t → IsTree u → OneText → (ds : List code.Difference) → AreListed t u ds → ((p : Path) → finite.get t p ≢ finite.get u p → HasText ds (path_text p))
    → AreDifferences t u (map difference_of ds)
are_differences t u a b one ds h all = record {
  each = each_map t u ds h.each;
  all = λ p k. has_map t u a b one p k ds h.texts h.each (all p k);
  order = rises_map ds h.texts h.order;
}

-- ---- of each entry

-- where the trees differ at the path of one of these entries, its text is in the list
abbrev pub HasAll : Tree → Tree → List code.Difference → List (Path × Entry) → Type 0
HasAll t u ds es = AllByRecursion (λ e. finite.get t e.0 ≢ finite.get u e.0 → HasText ds (path_text e.0)) es

-- where trees differ at the path of one of the entries, its text is there
at_key : (t u : Tree) (ds : List code.Difference) (es : List (Path × Entry)) (p : Path) → HasAll t u ds es → list_any (eq_by_cmp path_cmp p) (map (λ e. e.0) es) ≡ true → finite.get t p ≢ finite.get u p → HasText ds (path_text p)
at_key t u ds [] p h k d = cc
at_key t u ds (e ∷ es) p h k d = elim (or_cases (eq_by_cmp path_cmp p e.0) (list_any (eq_by_cmp path_cmp p) (map (λ e. e.0) es)) k) [
  | inl here ↦
      let same = path_eq_same p e.0 here in
      subst (λ q. HasText ds (path_text q)) (sym same) (h.0 (λ x. d (ap (finite.get t) same ∙ x ∙ ap (finite.get u) (sym same))))
  | inr there ↦ at_key t u ds es p h.1 there d
]

-- and so it is at each path of a tree whose entries are these
pub each_key : (t u from : Tree) (ds : List code.Difference) (p : Path) → HasAll t u ds (finite.entries from) → IsTrue (finite.contains_key from p) → finite.get t p ≢ finite.get u p → HasText ds (path_text p)
each_key t u from ds p h k d = at_key t u ds (finite.entries from) p h (sym (contains_key-keys from p) ∙ k) d
