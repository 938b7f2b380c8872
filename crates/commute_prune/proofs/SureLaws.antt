-- The numbers of folders that surely stand, and footprints without what is looked at of these.
use Rattle.std.proofs.Common.{◌≡◌, ℕ, zero, suc, ◌<◌, ◌++◌, inl, inr, subst₂, Bool, true, false, not, ◌&&◌, ◌||◌, ◌==◌, List, [], ◌∷◌, length, get_or, if◌then◌else◌, Some, refl, sym, ap, ap₂, subst, ◌∙◌, arith, eqb-true}
use Rattle.std.specs.Prelude.{slice_get, IsTrue}
use Rattle.std.specs.List.{list_any}
use Rattle.std.specs.BTreeMap.{BTreeMap}
use Rattle.std.proofs.lemmas.Bool.{and_parts, and_from}
use Rattle.fs_semantics.specs.FileTree.{Path, path_eq, is_among}
use Rattle.fs_semantics.specs.Programs.{Program, Id}
use Rattle.fs_semantics.proofs.Keys.{same_bool}
use Rattle.fs_semantics.proofs.Trees.{path_eq_same}
use Rattle.effect_sets.specs.Footprints.{Paths, Footprint, footprint}
use Rattle.effect_sets.specs.Members.{sets_of}
use Rattle.sure_folders.specs.Apart.{where_stand}
use Rattle.commute_prune.specs.declared.numbered.Numbered.{Numbered}
use Rattle.commute_prune.specs.Numbers.{number_in, IsNumbering, has, AreNumbers}
use Rattle.commute_prune.specs.Numbered.{AreSetsOf, AreOf}
use Rattle.commute_prune.specs.Sure.{is_written, is_left_before, surely_stands, footprint_at}
use Rattle.commute_prune.specs.Reduced.{marked_before, stands_at, unsure, IsReduced, AreReduced}
use Rattle.commute_prune.proofs.ClearLaws.{same_number, AreFootprints}
use Rattle.commute_prune.proofs.MatrixLaws.{get_last}

-- a number is among those of a set exactly where its path is in the set
number_told : (m : BTreeMap Path ℕ) (f : Paths) (ns : List ℕ) (q : Path) (n : ℕ) → IsNumbering m → AreNumbers m f ns → number_in m q ≡ Some n → has n ns ≡ f q
number_told m f ns q n is a here = same_bool (has n ns) (f q)
    (λ h. let s = a.stems n h in subst (λ p. IsTrue (f p)) (is.apart s.0 q n s.2 here) s.1)
    (λ h. let s = a.stands q h in subst (λ k. IsTrue (has k ns)) (same_number (number_in m q) s.1 here) s.2)

-- what is marked of the programs is what they leave
left_told : (before : ℕ → ℕ → Bool) (m : BTreeMap Path ℕ) (i k : ℕ) (es : List Program) (xs : List Numbered) (q : Path) (n : ℕ) → IsNumbering m → length xs ≡ length es → AreOf m es xs
    → number_in m q ≡ Some n → marked_before before i k xs n ≡ is_left_before before i k es q
left_told before m i k [] [] q n is long are here = refl
left_told before m i k (e ∷ es) [] q n is long are here = absurd (omega (arith, long))
left_told before m i k [] (x ∷ xs) q n is long are here = absurd (omega (arith, long))
left_told before m i k (e ∷ es) (x ∷ xs) q n is long are here =
    let s = are 0 x refl in
    let own = number_told m (λ p. is_among p s.0.sure) x.sure.items q n is s.2.sure here ∙ ap (λ (f : Paths). f q) s.3 in
    let rest = left_told before m i (suc k) es xs q n is (omega (arith, long)) (λ j y h. are (suc j) y h) here in
    ap₂ (λ a b. (not (k == i) && before k i && a) || b) own rest

-- and what they may write
written_told : (m : BTreeMap Path ℕ) (es : List Program) (xs : List Numbered) (q : Path) (n : ℕ) → IsNumbering m → length xs ≡ length es → AreOf m es xs → number_in m q ≡ Some n
    → list_any (λ (f : Numbered). has n f.writes.items) xs ≡ is_written es q
written_told m [] [] q n is long are here = refl
written_told m (e ∷ es) [] q n is long are here = absurd (omega (arith, long))
written_told m [] (x ∷ xs) q n is long are here = absurd (omega (arith, long))
written_told m (e ∷ es) (x ∷ xs) q n is long are here =
    let s = are 0 x refl in
    let own = number_told m (λ p. is_among p s.0.writes) x.writes.items q n is s.2.writes here ∙ ap (λ (f : Footprint). f.writes q) s.1 in
    let rest = written_told m es xs q n is (omega (arith, long)) (λ j y h. are (suc j) y h) here in
    ap₂ (λ a b. a || b) own rest

-- by numbers a folder surely stands exactly where by paths it does
stands_told : (before : ℕ → ℕ → Bool) (m : BTreeMap Path ℕ) (i : ℕ) (es : List Program) (xs : List Numbered) (q : Path) (n : ℕ) → IsNumbering m → length xs ≡ length es → AreOf m es xs
    → number_in m q ≡ Some n → stands_at before i xs n ≡ surely_stands es before i q
stands_told before m i es xs q n is long are here = ap₂ (λ a b. a && not b) (left_told before m i 0 es xs q n is long are here) (written_told m es xs q n is long are here)

-- ---- what is left of a list

-- what is left out of one side is left out of both
left_out : (a b c : Bool) → (a ≡ true → c ≡ true) → (b && not c) ≡ ((a || b) && not c)
left_out true true true h = refl
left_out true false true h = refl
left_out true b false h = let no : false ≡ true = h refl in cc
left_out false b c h = refl

-- what isn't left out stays
stays_in : (a b c : Bool) → (a ≡ true → c ≡ false) → (a || (b && not c)) ≡ ((a || b) && not c)
stays_in true b true h = let no : true ≡ false = h refl in cc
stays_in true b false h = refl
stays_in false b c h = refl

-- a number is among those that aren't sure exactly where it is there and isn't
has_unsure : (stands : ℕ → Bool) (ns : List ℕ) (n : ℕ) → has n (unsure stands ns) ≡ (has n ns && not (stands n))
has_unsure stands [] n = refl
has_unsure stands (k ∷ ns) n = elim (stands k) as (λ b. stands k ≡ b → has n (if b then unsure stands ns else (k ∷ unsure stands ns)) ≡ (((n == k) || has n ns) && not (stands n))) [
  | true ↦ λ e. has_unsure stands ns n ∙ left_out (n == k) (has n ns) (stands n) (λ h. ap stands (eqb-true n k h) ∙ e)
  | false ↦ λ e. ap (λ b. (n == k) || b) (has_unsure stands ns n) ∙ stays_in (n == k) (has n ns) (stands n) (λ h. ap stands (eqb-true n k h) ∙ e)
] refl

-- the paths of a list that aren't in the set
abbrev without : Paths → List Path → List Path
without folders [] = []
without folders (p ∷ ps) = if folders p then without folders ps else (p ∷ without folders ps)

-- a path is left without the folders exactly where it is there and is none of them
among_without : (folders : Paths) (ps : List Path) (q : Path) → is_among q (without folders ps) ≡ (is_among q ps && not (folders q))
among_without folders [] q = refl
among_without folders (p ∷ ps) q = elim (folders p) as (λ b. folders p ≡ b → is_among q (if b then without folders ps else (p ∷ without folders ps)) ≡ ((path_eq q p || is_among q ps) && not (folders q))) [
  | true ↦ λ e. among_without folders ps q ∙ left_out (path_eq q p) (is_among q ps) (folders q) (λ h. ap folders (path_eq_same q p h) ∙ e)
  | false ↦ λ e. ap (λ b. path_eq q p || b) (among_without folders ps q) ∙ stays_in (path_eq q p) (is_among q ps) (folders q) (λ h. ap folders (path_eq_same q p h) ∙ e)
] refl

-- ---- footprints

-- the numbers without those of the folders are those of the paths without these
reads_left : (m : BTreeMap Path ℕ) (folders : Paths) (stands : ℕ → Bool) (ps : List Path) (ns : List ℕ) → ((q : Path) (n : ℕ) → number_in m q ≡ Some n → stands n ≡ folders q)
    → AreNumbers m (λ q. is_among q ps) ns → AreNumbers m (λ q. is_among q (without folders ps)) (unsure stands ns)
reads_left m folders stands ps ns told a = record {
  stands = λ q h.
      let two = and_parts (is_among q ps) (not (folders q)) (sym (among_without folders ps q) ∙ h) in
      let s = a.stands q two.0 in
      (s.0, s.1, has_unsure stands ns s.0 ∙ and_from (has s.0 ns) (not (stands s.0)) s.2 (ap not (told q s.0 s.1) ∙ two.1));
  stems = λ n h.
      let two = and_parts (has n ns) (not (stands n)) (sym (has_unsure stands ns n) ∙ h) in
      let s = a.stems n two.0 in
      (s.0, among_without folders ps s.0 ∙ and_from (is_among s.0 ps) (not (folders s.0)) s.1 (ap not (sym (told s.0 n s.2)) ∙ two.1), s.2);
}

-- the sets without the folders are those of the footprint without these
reduced_sets : (m : BTreeMap Path ℕ) (x y : Numbered) (f : Footprint) (folders : Paths) (stands : ℕ → Bool) → AreSetsOf m f x → ((q : Path) (n : ℕ) → number_in m q ≡ Some n → stands n ≡ folders q)
    → IsReduced stands x y → AreSetsOf m (where_stand folders f) y
reduced_sets m x y f folders stands s told r =
    let less = record s.0 { reads = without folders s.0.reads } in
    let are : sets_of less ≡ where_stand folders (sets_of s.0) = λ i. record {
      reads = λ q. among_without folders s.0.reads q i;
      writes = λ q. is_among q s.0.writes;
      folders = λ q. is_among q s.0.folders;
      children = λ q. is_among q s.0.children;
    } in (
      less,
      are ∙ ap (where_stand folders) s.1,
      record {
        reads = subst (AreNumbers m (λ q. is_among q (without folders s.0.reads))) (sym r.reads) (reads_left m folders stands s.0.reads x.reads.items told s.2.reads);
        writes = subst (AreNumbers m _) (sym r.writes) s.2.writes;
        folders = subst (AreNumbers m _) (sym r.folders) s.2.folders;
        children = subst (AreNumbers m _) (sym r.children) s.2.children;
        parents = subst (AreNumbers m _) (sym r.parents) s.2.parents;
        sure = subst (AreNumbers m _) (sym r.sure) s.2.sure;
      },
    )

-- the reduced sets are those of the footprints where the sure folders stand
pub footprints_at : (before : ℕ → ℕ → Bool) (m : BTreeMap Path ℕ) (es : List Program) (xs ys : List Numbered) → IsNumbering m → length xs ≡ length es → AreOf m es xs → AreReduced before xs ys
    → AreFootprints m (footprint_at es before) ys
footprints_at before m es xs ys is long are reduced i y h =
    let r = reduced i y h in
    let s = are i r.0 r.1 in
    reduced_sets m r.0 y (footprint (get_or es i Id)) (surely_stands es before i) (stands_at before i xs) (s.0, s.1, s.2) (λ q n here. stands_told before m i es xs q n is long are here) r.2

-- ---- one after the other

-- what stands at a place within the list is there
got_at : (xs : List Numbered) (i : ℕ) (x : Numbered) → i < length xs → x ≡ get_or xs i x → slice_get xs i ≡ Some x
got_at [] i x low is = absurd (omega (arith, low))
got_at (y ∷ xs) zero x low is = ap Some (sym is)
got_at (y ∷ xs) (suc i) x low is = got_at xs i x (omega (arith, low)) is

-- one footprint more, as the marks tell it
pub one_more_reduced : (before : ℕ → ℕ → Bool) (fs gs : List Numbered) (i k : ℕ) (f g : Numbered) (left written : List Bool) → k ≡ i → length gs ≡ i → i < length fs → f ≡ get_or fs i f
    → ((n : ℕ) → get_or left n false ≡ marked_before before k 0 fs n) → ((n : ℕ) → get_or written n false ≡ list_any (λ (x : Numbered). has n x.writes.items) fs)
    → IsReduced (λ n. get_or left n false && not (get_or written n false)) f g → AreReduced before fs gs → AreReduced before fs (gs ++ g ∷ [])
one_more_reduced before fs gs i k f g left written same long low is lefts writes reduced are j y h = elim (get_last gs g j y h) [
  | inl old ↦ are j y old
  | inr new ↦
      let here : j ≡ i = new.0 ∙ long in
      let told : IsReduced (stands_at before k fs) f g = subst (λ p. IsReduced p f g) (λ d n. lefts n d && not (writes n d)) reduced in
      (f, ap (slice_get fs) here ∙ got_at fs i f low is, subst₂ (λ n z. IsReduced (stands_at before n fs) f z) (same ∙ sym here) new.1 told)
]
