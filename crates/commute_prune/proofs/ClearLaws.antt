-- Numbers in common are paths in common.
use Rattle.std.proofs.Common.{◌≡◌, ℕ, zero, suc, ◌<◌, Bool, true, false, not, ◌&&◌, ◌||◌, ◌==◌, List, [], ◌∷◌, map, length, get_or, Option, Some, None, inl, inr, refl, sym, ap, subst, subst₂, ◌∙◌, arith, eqb-true, eq-eqb}
use Rattle.std.specs.Prelude.{◌↔◌, slice_get, IsTrue}
use Rattle.std.specs.List.{AllByRecursion}
use Rattle.std.specs.BTreeMap.{BTreeMap, btree_map_len}
use Rattle.std.proofs.lemmas.Bool.{or_cases, or_left, or_right, cases_Bool, and_parts, and_from}
use Rattle.fs_semantics.specs.FileTree.{Path, is_among}
use Rattle.fs_semantics.specs.Programs.{Program, Id}
use Rattle.effect_sets.specs.Footprints.{Paths, Footprint, footprint, IsClearOf}
use Rattle.effect_sets.specs.Members.{Lists, is_parent_of, sets_of}
use Rattle.effect_sets.proofs.ClearLaws.{Apart, clear_of_three, clear_of_children}
use Rattle.commute_prune.specs.declared.numbered.Numbered.{Numbered}
use Rattle.commute_prune.specs.Numbers.{number_in, IsNumbering, has, AreNumbers}
use Rattle.commute_prune.specs.Numbered.{AreSets, AreSetsOf, shares, is_clear, AreOf, IsBelow}
use Rattle.commute_prune.specs.Matrix.{cell, IsMatrixOf}

-- ---- what is below the count

-- what holds of each number that stands in a list holds of all
all_has : (P : ℕ → Type 0) (ns : List ℕ) → ((n : ℕ) → IsTrue (has n ns) → P n) → AllByRecursion P ns
all_has P [] h = tt
all_has P (k ∷ ns) h = (h k (or_left (k == k) (has k ns) (eq-eqb k k refl)), all_has P ns (λ n i. h n (or_right (n == k) (has n ns) i)))

-- the numbers of a set of paths are below the count
numbers_below : (m : BTreeMap Path ℕ) (f : Paths) (ns : List ℕ) → IsNumbering m → AreNumbers m f ns → AllByRecursion (λ n. n < btree_map_len m) ns
numbers_below m f ns is a = all_has (λ n. n < btree_map_len m) ns (λ n h. let s = a.stems n h in is.below s.0 n s.2)

-- the numbers of a footprint are below the count
sets_below : (m : BTreeMap Path ℕ) (f : Footprint) (x : Numbered) → IsNumbering m → AreSetsOf m f x → IsBelow (btree_map_len m) x
sets_below m f x is s = record {
  writes = numbers_below m _ x.writes.items is s.2.writes;
  folders = numbers_below m _ x.folders.items is s.2.folders;
  parents = numbers_below m _ x.parents.items is s.2.parents;
  sure = numbers_below m _ x.sure.items is s.2.sure;
}

-- what holds of the entry at each place holds of all
by_place : (P : Numbered → Type 0) (xs : List Numbered) → ((i : ℕ) (x : Numbered) → slice_get xs i ≡ Some x → P x) → AllByRecursion P xs
by_place P [] h = tt
by_place P (x ∷ xs) h = (h 0 x refl, by_place P xs (λ i y e. h (suc i) y e))

-- the sets at each place are those of the footprint there
abbrev pub AreFootprints : BTreeMap Path ℕ → (ℕ → Footprint) → List Numbered → Type 0
AreFootprints m f xs = (i : ℕ) (x : Numbered) → slice_get xs i ≡ Some x → AreSetsOf m (f i) x

-- the sets of programs are those of their footprints
pub of_programs : (m : BTreeMap Path ℕ) (es : List Program) (xs : List Numbered) → AreOf m es xs → AreFootprints m (λ i. footprint (get_or es i Id)) xs
of_programs m es xs are i x h = let s = are i x h in (s.0, s.1, s.2)

-- the numbers of all footprints are below the count
pub all_below : (m : BTreeMap Path ℕ) (f : ℕ → Footprint) (xs : List Numbered) → IsNumbering m → AreFootprints m f xs → AllByRecursion (IsBelow (btree_map_len m)) xs
all_below m f xs is are = by_place (IsBelow (btree_map_len m)) xs (λ i x h. sets_below m (f i) x is (are i x h))

-- ---- numbers in common

-- a number that stands in both lists is shared
shares_from : (ns ks : List ℕ) (n : ℕ) → has n ns ≡ true → has n ks ≡ true → shares ns ks ≡ true
shares_from ns [] n h k = cc
shares_from ns (j ∷ ks) n h k = elim (or_cases (n == j) (has n ks) k) [
  | inl here ↦ or_left (has j ns) (shares ns ks) (ap (λ i. has i ns) (sym (eqb-true n j here)) ∙ h)
  | inr there ↦ or_right (has j ns) (shares ns ks) (shares_from ns ks n h there)
]

-- and where two lists share, some number stands in both
shares_at : (ns ks : List ℕ) → shares ns ks ≡ true → (n : ℕ) × (has n ns ≡ true) × (has n ks ≡ true)
shares_at ns [] h = cc
shares_at ns (j ∷ ks) h = elim (or_cases (has j ns) (shares ns ks) h) [
  | inl here ↦ (j, here, or_left (j == j) (has j ks) (eq-eqb j j refl))
  | inr there ↦ let more = shares_at ns ks there in (more.0, more.1, or_right (more.0 == j) (has more.0 ks) more.2)
]

-- a path has one number at most
pub same_number : {n k : ℕ} (o : Option ℕ) → o ≡ Some n → o ≡ Some k → n ≡ k
same_number {n} {k} o h i = let both : ◌≡◌ {A = Option ℕ} (Some n) (Some k) = sym h ∙ i in cc

-- no number in common is no path in common
nothing_shared : (m : BTreeMap Path ℕ) (f g : Paths) (ns ks : List ℕ) → IsNumbering m → AreNumbers m f ns → AreNumbers m g ks → IsTrue (not (shares ns ks)) ↔ Apart f g
nothing_shared m f g ns ks is a b = (
  (λ h q here. elim (cases_Bool (g q)) [
    | inl there ↦
        let s = a.stands q here in
        let r = b.stands q there in
        let same = same_number (number_in m q) r.1 s.1 in
        let stand = shares_from ns ks s.0 s.2 (ap (λ n. has n ks) (sym same) ∙ r.2) in
        let no : false ≡ true = ap not (sym stand) ∙ h in
        cc
    | inr none ↦ none
  ]),
  (λ h. elim (cases_Bool (shares ns ks)) [
    | inl stand ↦
        let n = shares_at ns ks stand in
        let s = a.stems n.0 n.1 in
        let r = b.stems n.0 n.2 in
        let same = is.apart s.0 r.0 n.0 s.2 r.2 in
        let no : false ≡ true = sym (h s.0 s.1) ∙ ap g same ∙ r.1 in
        cc
    | inr none ↦ ap not none
  ]),
)

-- a disjunction of three is false exactly where each of them is
none_of_three : (a b c : Bool) → not (a || b || c) ≡ (not a && not b && not c)
none_of_three true true true = refl
none_of_three true true false = refl
none_of_three true false true = refl
none_of_three true false false = refl
none_of_three false true true = refl
none_of_three false true false = refl
none_of_three false false c = refl

-- by numbers one is clear of another exactly where by the lists of paths it is
clear_lists : (m : BTreeMap Path ℕ) (l k : Lists) (x y : Numbered) → IsNumbering m → AreSets m l x → AreSets m k y → IsTrue (is_clear x y) ↔ IsClearOf (sets_of l) (sets_of k)
clear_lists m l k x y is a b =
    let w = clear_of_three (λ q. is_among q l.writes) (λ q. is_among q k.reads) (λ q. is_among q k.writes) (λ q. is_among q k.folders)
    (not (shares x.writes.items y.reads.items)) (not (shares x.writes.items y.writes.items)) (not (shares x.writes.items y.folders.items))
    (nothing_shared m _ _ x.writes.items y.reads.items is a.writes b.reads)
    (nothing_shared m _ _ x.writes.items y.writes.items is a.writes b.writes)
    (nothing_shared m _ _ x.writes.items y.folders.items is a.writes b.folders) in
    let three = none_of_three (shares x.writes.items y.reads.items) (shares x.writes.items y.writes.items) (shares x.writes.items y.folders.items) in
    let d = nothing_shared m _ _ x.folders.items y.reads.items is a.folders b.reads in
    let e = nothing_shared m _ _ x.parents.items y.children.items is a.parents b.children in
    let c = clear_of_children (λ q. is_parent_of q l.writes || is_parent_of q l.folders) (λ q. is_among q k.children) l.writes l.folders (λ q. refl) in
    let first : Bool = not (shares x.writes.items y.reads.items || shares x.writes.items y.writes.items || shares x.writes.items y.folders.items) in
    let second : Bool = not (shares x.folders.items y.reads.items) in
    let third : Bool = not (shares x.parents.items y.children.items) in (
      (λ h.
          let both = and_parts (first && second) third h in
          let two = and_parts first second both.0 in
          record { writes = w.0 (sym three ∙ two.0); folders = d.0 two.1; children = c.0 (e.0 both.1) }),
      (λ h. and_from (first && second) third (and_from first second (three ∙ w.1 h.writes) (d.1 h.folders)) (e.1 (c.1 h.children))),
    )

-- by numbers one is clear of another exactly where by footprints it is
clear_is : (m : BTreeMap Path ℕ) (f g : Footprint) (x y : Numbered) → IsNumbering m → AreSetsOf m f x → AreSetsOf m g y → IsTrue (is_clear x y) ↔ IsClearOf f g
clear_is m f g x y is s r = subst₂ (λ (a b : Footprint). IsTrue (is_clear x y) ↔ IsClearOf a b) s.1 r.1 (clear_lists m s.0 r.0 x y is s.2 r.2)

-- ---- the matrix

-- a place within the list has an entry
got : (xs : List Numbered) (i : ℕ) → i < length xs → (x : Numbered) × (slice_get xs i ≡ Some x)
got [] i h = absurd (omega arith)
got (x ∷ xs) zero h = (x, refl)
got (x ∷ xs) (suc i) h = got xs i (omega arith)

-- the image of the entry at a place stands at that place
map_got : {B : Type 0} (f : Numbered → B) (d : B) (xs : List Numbered) (i : ℕ) (x : Numbered) → slice_get xs i ≡ Some x → get_or (map f xs) i d ≡ f x
map_got f d [] i x h = let no : ◌≡◌ {A = Option Numbered} None (Some x) = h in cc
map_got f d (y ∷ xs) zero x h = let same : y ≡ x = of_some h in ap f same
  where
    of_some : {u v : Numbered} → ◌≡◌ {A = Option Numbered} (Some u) (Some v) → u ≡ v
    of_some e = cc
map_got f d (y ∷ xs) (suc i) x h = map_got f d xs i x h

-- the matrix of these: each row tells of which the one is clear
abbrev pub rows_of : List Numbered → List (List Bool)
rows_of xs = map (λ f. map (is_clear f) xs) xs

-- a cell of the matrix tells whether the one is clear of the other
cell_at : (xs : List Numbered) (i j : ℕ) (x y : Numbered) → slice_get xs i ≡ Some x → slice_get xs j ≡ Some y → cell (rows_of xs) i j ≡ is_clear x y
cell_at xs i j x y h k = ap (λ row. get_or row j false) (map_got (λ f. map (is_clear f) xs) [] xs i x h) ∙ map_got (is_clear x) false xs j y k

-- the matrix of the numbered sets is that of the footprints
pub matrix_is : (m : BTreeMap Path ℕ) (f : ℕ → Footprint) (n : ℕ) (xs : List Numbered) → IsNumbering m → length xs ≡ n → AreFootprints m f xs → length (rows_of xs) ≡ length xs → IsMatrixOf n f (rows_of xs)
matrix_is m f n xs is long are rows = record {
  long = rows ∙ long;
  cells = λ i j h k.
      let x = got xs i (omega (arith, long)) in
      let y = got xs j (omega (arith, long)) in
      subst (λ b. IsTrue b ↔ IsClearOf (f i) (f j)) (sym (cell_at xs i j x.0 y.0 x.1 y.1)) (clear_is m (f i) (f j) x.0 y.0 is (are i x.0 x.1) (are j y.0 y.1));
}
