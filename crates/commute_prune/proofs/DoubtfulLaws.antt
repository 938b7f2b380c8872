-- Which pairs are doubtful; and that others commute where the folders stand that are sure before them.
use Rattle.std.proofs.Common.{◌≡◌, ◌≢◌, ◌⊎◌, ℕ, suc, ◌+◌, ◌<◌, Bool, true, false, not, ◌&&◌, ◌||◌, ◌==◌, List, [], ◌∷◌, length, get_or, inl, inr, refl, sym, ap, ◌∙◌, arith, nat_lt, ltb-true, ltb-false, eq-eqb}
use Rattle.std.specs.List.{Contains, AllByRecursion}
use Rattle.std.proofs.lemmas.Bool.{or_cases, or_left, or_right, and_parts, and_from, cases_Bool, cases_order}
use Rattle.fs_semantics.specs.FileTree.{Path}
use Rattle.fs_semantics.specs.Programs.{Program, Id}
use Rattle.fs_semantics.specs.Changes.{CommuteFrom, Commutes}
use Rattle.fs_semantics.specs.Orders.{Told, IsFree}
use Rattle.effect_sets.specs.Footprints.{Footprint, footprint, sure_after, IsClearOf, AreApart}
use Rattle.effect_sets.specs.Footprints as prints
use Rattle.sure_folders.specs.Folders.{Paths, nowhere, either, In, IsTreeWith}
use Rattle.sure_folders.specs.Before.{IsSureBefore, IsSureBeforeEither, FreeCommuteWhereSure}
use Rattle.sure_folders.specs.Apart.{where_stand}
use Rattle.orders.specs.Relation.{Relation, comes, Comes}
use Rattle.commute_prune.specs.Matrix.{cell, IsMatrixOf}
use Rattle.commute_prune.specs.Steps.{are_apart}
use Rattle.commute_prune.specs.Pairs.{pairs_of}
use Rattle.commute_prune.specs.Sure.{is_written, is_left_before, surely_stands, footprint_at}
use Rattle.commute_prune.specs.Doubtful.{AreApartWhereSure, AreDoubtful, AreTouching, is_doubtful}
use Rattle.commute_prune.proofs.PairLaws.{pairs_from, pairs_in}

-- ---- what is listed

-- whichever order the pairs are told by
module _ (es : List Program) (before : ℕ → ℕ → Bool) (order : Relation) (rows : List (List Bool)) (matrix : IsMatrixOf (length es) (footprint_at es before) rows) (long : length es ≡ order.count) where
  -- programs that the rows tell to be apart are
  apart_from_rows : (a b : ℕ) → a < length es → b < length es → are_apart rows a b ≡ true → AreApartWhereSure es before a b
  apart_from_rows a b low high h =
      let two = and_parts (cell rows a b) (cell rows b a) h in
      record { left = (matrix.cells a b low high).0 two.0; right = (matrix.cells b a high low).0 two.1 }

  -- and programs that are apart are told to be
  rows_from_apart : (a b : ℕ) → a < length es → b < length es → AreApartWhereSure es before a b → are_apart rows a b ≡ true
  rows_from_apart a b low high h = and_from (cell rows a b) (cell rows b a) ((matrix.cells a b low high).1 h.left) ((matrix.cells b a high low).1 h.right)

  -- that one doesn't come before another is told
  not_told : (a b : ℕ) → (Comes order a b → ⊥) → not (comes order a b) ≡ true
  not_told a b h = elim (cases_Bool (comes order a b)) [ inl yes_ ↦ absurd (h yes_) | inr none ↦ ap not none ]

  -- and what is told so is so
  told_not : (a b : ℕ) → not (comes order a b) ≡ true → Comes order a b → ⊥
  told_not a b h k = let wrong : false ≡ true = sym (ap not k) ∙ h in cc

  -- that a number is less is told
  less_told : (a b : ℕ) → a < b → nat_lt a b ≡ true
  less_told a b h = elim (cases_Bool (nat_lt a b)) [ inl yes_ ↦ yes_ | inr none ↦ absurd (omega (arith, h, ltb-false a b none)) ]

  -- a free pair is listed, or apart
  listed : (a b : ℕ) → a < b → b < length es → IsFree (Told (comes order)) a b → Contains (pairs_of (is_doubtful order rows) order.count order.count) (a, b) ⊎ AreApartWhereSure es before a b
  listed a b less high free =
      let low : a < length es = omega (arith, less, high) in
      elim (cases_Bool (are_apart rows a b)) [
        | inl apart ↦ inr (apart_from_rows a b low high apart)
        | inr meet ↦
            let first = and_from (nat_lt a b) (not (comes order a b)) (less_told a b less) (not_told a b free.not_before) in
            let second = and_from (nat_lt a b && not (comes order a b)) (not (comes order b a)) first (not_told b a free.not_after) in
            inl (pairs_in (is_doubtful order rows) order.count order.count a b (omega (arith, low, long)) (omega (arith, high, long))
            (and_from (nat_lt a b && not (comes order a b) && not (comes order b a)) (not (are_apart rows a b)) second (ap not meet)))
      ]

  -- a listed pair is free, and isn't apart
  of_pair : (a b : ℕ) → Contains (pairs_of (is_doubtful order rows) order.count order.count) (a, b) → (a < b) × (b < length es) × IsFree (Told (comes order)) a b × (AreApartWhereSure es before a b → ⊥)
  of_pair a b h =
      let pair = pairs_from (is_doubtful order rows) order.count order.count (a, b) h in
      let last = and_parts (nat_lt a b && not (comes order a b) && not (comes order b a)) (not (are_apart rows a b)) pair.passes in
      let more = and_parts (nat_lt a b && not (comes order a b)) (not (comes order b a)) last.0 in
      let first = and_parts (nat_lt a b) (not (comes order a b)) more.0 in
      let less : a < b = ltb-true a b first.0 in
      let high = pair.right in (
        less,
        omega (arith, high, long),
        record { differ = λ same. omega (arith, less, same); not_before = told_not a b first.1; not_after = told_not b a more.1 },
        (λ apart. let wrong : false ≡ true = sym (ap not (rows_from_apart a b (omega (arith, less, high, long)) (omega (arith, high, long)) apart)) ∙ last.1 in cc),
      )

  -- where nothing comes before another, the listed pairs are just those that aren't apart
  pub are_touching : ((a b : ℕ) → Comes order a b → ⊥) → AreTouching es before (pairs_of (is_doubtful order rows) order.count order.count)
  are_touching free = record {
    all = λ a b less high. listed a b less high (record { differ = λ same. omega (arith, less, same); not_before = free a b; not_after = free b a });
    only = λ a b h. let pair = of_pair a b h in (pair.0, pair.1, pair.3);
  }

-- the listed pairs are just the doubtful ones
pub are_doubtful : (es : List Program) (order : Relation) (rows : List (List Bool)) → IsMatrixOf (length es) (footprint_at es (comes order)) rows → length es ≡ order.count
    → AreDoubtful es (comes order) (pairs_of (is_doubtful order rows) order.count order.count)
are_doubtful es order rows matrix long = record {
  all = listed es (comes order) order rows matrix long;
  only = λ a b h.
      let pair = of_pair es (comes order) order rows matrix long a b h in
      record { ordered = pair.0; below = pair.1; free = pair.2; meet = pair.3 };
}

-- ---- what commutes

-- who leaves the folder
left_by : (before : ℕ → ℕ → Bool) (i n : ℕ) (es : List Program) (q : Path) → is_left_before before i n es q ≡ true
    → (k : ℕ) × (k < length es) × (n + k ≢ i) × (before (n + k) i ≡ true) × (sure_after (get_or es k Id) prints.nowhere q ≡ true)
left_by before i n [] q h = cc
left_by before i n (e ∷ es) q h = elim (or_cases (not (n == i) && before n i && sure_after e prints.nowhere q) (is_left_before before i (suc n) es q) h) [
  | inl here ↦
      let two = and_parts (not (n == i) && before n i) (sure_after e prints.nowhere q) here in
      let one = and_parts (not (n == i)) (before n i) two.0 in
      let none : n + 0 ≡ n = omega arith in (
        0,
        omega arith,
        (λ same. let wrong : false ≡ true = sym (ap not (eq-eqb n i (sym none ∙ same))) ∙ one.0 in cc),
        ap (λ k. before k i) none ∙ one.1,
        two.1,
      )
  | inr there ↦
      let rest = left_by before i (suc n) es q there in
      let next : n + suc rest.0 ≡ suc n + rest.0 = omega arith in (
        suc rest.0,
        omega (arith, rest.1),
        (λ same. rest.2 (sym next ∙ same)),
        ap (λ k. before k i) next ∙ rest.3,
        rest.4,
      )
]

-- none of the programs may write a path that isn't written
none_writes : (es : List Program) (q : Path) → not (is_written es q) ≡ true → AllByRecursion (λ e. (footprint e).writes q ≡ false) es
none_writes [] q h = tt
none_writes (e ∷ es) q h = elim (cases_Bool ((footprint e).writes q)) [
  | inl writes ↦ let wrong : false ≡ true = sym (ap not (or_left ((footprint e).writes q) (is_written es q) writes)) ∙ h in cc
  | inr none ↦ (none, none_writes es q (sym (ap not (ap (λ b. b || is_written es q) none)) ∙ h))
]

-- whatever is said of the makers of folders and of footprints
module _ (es : List Program) (before : ℕ → ℕ → Bool) where
  -- what footprints tell of folders is true: a folder that is made before and written by none is sure
  abbrev pub ByFootprints : Type 0
  ByFootprints = (i maker : ℕ) (p : Path) → maker < length es → maker ≢ i → Told before maker i → In (sure_after (get_or es maker Id) nowhere) p
      → AllByRecursion (λ e. (footprint e).writes p ≡ false) es → IsSureBefore nowhere es (Told before) i p

  -- the folders that surely stand by footprints are sure
  sure_there : ByFootprints → (i : ℕ) (p : Path) → surely_stands es before i p ≡ true → IsSureBefore nowhere es (Told before) i p
  sure_there by i p h =
      let two = and_parts (is_left_before before i 0 es p) (not (is_written es p)) h in
      let maker = left_by before i 0 es p two.0 in
      let same : 0 + maker.0 ≡ maker.0 = omega arith in
      by i maker.0 p maker.1 (λ e. maker.2 (same ∙ e)) (ap (λ k. before k i) (sym same) ∙ maker.3) maker.4 (none_writes es p two.1)

  -- to look at less is to be apart from more
  fewer_reads : (x y : Footprint) (f g h k : Paths) → ((q : Path) → f q ≡ true → h q ≡ true) → ((q : Path) → g q ≡ true → k q ≡ true)
      → IsClearOf (where_stand f x) (where_stand g y) → IsClearOf (where_stand h x) (where_stand k y)
  fewer_reads x y f g h k fewer more clear = record {
    writes = λ q w. three (y.reads q) (y.writes q) (y.folders q) (g q) (k q) (more q) (clear.writes q w);
    folders = λ q w. less (y.reads q) (g q) (k q) (more q) (clear.folders q w);
    children = clear.children;
  }
    where
      less : (r s t : Bool) → (s ≡ true → t ≡ true) → (r && not s) ≡ false → (r && not t) ≡ false
      less false s t m e = refl
      less true false t m e = let wrong : true ≡ false = e in cc
      less true true true m e = refl
      less true true false m e = let wrong : false ≡ true = m refl in cc

      three : (r w d s t : Bool) → (s ≡ true → t ≡ true) → ((r && not s) || w || d) ≡ false → ((r && not t) || w || d) ≡ false
      three false w d s t m e = e
      three true w d true true m e = e
      three true w d true false m e = let wrong : false ≡ true = m refl in cc
      three true w d false t m e = cc

  -- programs that are apart, each with its own sure folders, are apart with those of both
  pub apart_with_both : (a b : ℕ) → AreApartWhereSure es before a b
      → AreApart (where_stand (either (surely_stands es before a) (surely_stands es before b)) (footprint (get_or es a Id)))
      (where_stand (either (surely_stands es before a) (surely_stands es before b)) (footprint (get_or es b Id)))
  apart_with_both a b apart =
      let f = surely_stands es before a in
      let g = surely_stands es before b in record {
        left = fewer_reads _ _ f g (either f g) (either f g) (λ q. or_left (f q) (g q)) (λ q. or_right (f q) (g q)) apart.left;
        right = fewer_reads _ _ g f (either f g) (either f g) (λ q. or_right (f q) (g q)) (λ q. or_left (f q) (g q)) apart.right;
      }

  -- the folders of both are sure before the one or before the other
  pub sure_either : ByFootprints → (a b : ℕ) (p : Path) → In (either (surely_stands es before a) (surely_stands es before b)) p → IsSureBeforeEither nowhere es (Told before) a b p
  sure_either by a b p h = elim (or_cases (surely_stands es before a p) (surely_stands es before b p) h) [
    | inl left ↦ inl (sure_there by a p left)
    | inr right ↦ inr (sure_there by b p right)
  ]

  -- where those of each doubtful pair commute, free programs do where the folders stand that are sure before either
  pub all_free_commute : ((a b : ℕ) → AreApartWhereSure es before a b → CommuteFrom (IsTreeWith (IsSureBeforeEither nowhere es (Told before) a b)) (get_or es a Id) (get_or es b Id))
      → (pairs : List (ℕ × ℕ)) → AreDoubtful es before pairs → ((a b : ℕ) → Contains pairs (a, b) → Commutes (get_or es a Id) (get_or es b Id)) → FreeCommuteWhereSure nowhere es (Told before)
  all_free_commute commute pairs are all a b low high free = elim (cases_order a b) [
    | inl same ↦ absurd (free.differ same)
    | inr other ↦ elim other [
      | inl less ↦ elim (are.all a b less high free) [ inl here ↦ from_all (IsSureBeforeEither nowhere es (Told before) a b) (get_or es a Id) (get_or es b Id) (all a b here) | inr apart ↦ commute a b apart ]
      | inr more ↦ λ t tree. sym ((elim (are.all b a more low (record { differ = λ e. free.differ (sym e); not_before = free.not_after; not_after = free.not_before })) as (λ x. CommuteFrom (IsTreeWith (IsSureBeforeEither nowhere es (Told before) b a)) (get_or es b Id) (get_or es a Id)) [
        | inl here ↦ from_all (IsSureBeforeEither nowhere es (Told before) b a) (get_or es b Id) (get_or es a Id) (all b a here)
        | inr apart ↦ commute b a apart
      ]) t (record { is_tree = tree.is_tree; stand = λ p h. tree.stand p (turned p h) }))
    ]
  ]
    where
      from_all : (P : Path → Type 0) (e f : Program) → Commutes e f → CommuteFrom (IsTreeWith P) e f
      from_all P e f h t tree = h t tree.is_tree

      turned : (p : Path) → IsSureBeforeEither nowhere es (Told before) b a p → IsSureBeforeEither nowhere es (Told before) a b p
      turned p (inl h) = inr h
      turned p (inr h) = inl h
