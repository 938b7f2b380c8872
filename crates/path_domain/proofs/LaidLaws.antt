-- Paths with those above them, and in order.
use Rattle.std.proofs.Common.{◌≡◌, ◌≢◌, ◌⊎◌, inl, inr, ℕ, zero, suc, ◌+◌, ◌<◌, true, false, cond, ◌||◌, List, [], ◌∷◌, ◌++◌, map, length, take, drop, get_or, Option, Some, None, Less, Equal, refl, sym, ap, subst, ◌∙◌, arith, append_assoc}
use Rattle.std.specs.Prelude.{slice_get}
use Rattle.std.specs.List.{list_any, AllByRecursion}
use Rattle.std.specs.List.Sorted.{IsStrictlySortedBy}
use Rattle.std.specs.Ordering.{ordering_then}
use Rattle.std.specs.Cmp.{tied_itself}
use Rattle.std.specs.Cmp.Lexicographic.{nat_list_cmp_total}
use Rattle.std.proofs.lemmas.Bool.{or_cases, or_left, or_right, false_from_ne_true}
use Rattle.std.proofs.lemmas.List.{map-append, drop_more}
use Rattle.std.proofs.lemmas.Option.{slice_get-get_or, slice_get_within}
use Rattle.std.proofs.lemmas.Map.Keys.{sorted_head, sorted_tail}
use Rattle.std.proofs.lemmas.List.Folds.{list_any-append}
use Rattle.fs_semantics.specs.FileTree.{Path, path_cmp, path_eq, parent, is_among}
use Rattle.fs_semantics.proofs.Trees.{path_total, path_eq_refl, path_eq_same}
use Rattle.fs_interpreter.specs.Places.{Listed, HasPath, place_in, one_further, or_added}
use Rattle.finite_domain.specs.Matters.{fronts, all_fronts}
use Rattle.path_domain.specs.Gathered.{Paths, with_one}
use Rattle.path_domain.specs.Laid.{places_from, HaveParents}
use Rattle.path_domain.proofs.TextLaws.{next_number, moved}
use Rattle.std.proofs.Math.Bool.{or-false}
use Rattle.path_domain.proofs.SetLaws.{path_eq_flip}

-- ---- fronts

-- a front of a path with one segment more has itself as the one more path
fronts_suc : (k : ℕ) (p : Path) → k < length p → fronts (take (suc k) p) ≡ fronts (take k p) ++ take (suc k) p ∷ []
fronts_suc k [] h = absurd (omega (arith, h))
fronts_suc zero (s ∷ p) h = refl
fronts_suc (suc k) (s ∷ p) h =
    ap (λ fs. (s ∷ []) ∷ map (λ q. s ∷ q) fs) (fronts_suc k p (omega (arith, h)))
    ∙ ap (λ fs. (s ∷ []) ∷ fs) (map-append (λ q. s ∷ q) (fronts (take k p)) (take (suc k) p ∷ []))

-- the same with one added to the count
fronts_more : (k : ℕ) (p : Path) → k < length p → fronts (take (k + 1) p) ≡ fronts (take k p) ++ take (k + 1) p ∷ []
fronts_more k p h = subst (λ n. fronts (take n p) ≡ fronts (take k p) ++ take n p ∷ []) (next_number k) (fronts_suc k p h)

-- one front more
pub front_put : (p front : Path) (k : ℕ) (f g h : Paths) (q : Path) → k < length p → front ≡ take (k + 1) p → g q ≡ (is_among q (fronts (take k p)) || f q) → h ≡ with_one front g
    → h q ≡ (is_among q (fronts (take (k + 1) p)) || f q)
front_put p front k f g h q below is before put =
    ap (λ s. s q) put ∙ ap (λ b. path_eq q front || b) before ∙ ap (λ r. path_eq q r || (is_among q (fronts (take k p)) || f q)) is
    ∙ moved (path_eq q (take (k + 1) p)) (is_among q (fronts (take k p))) (f q)
    ∙ ap (λ b. (is_among q (fronts (take k p)) || b) || f q) (sym (or-false (path_eq q (take (k + 1) p))))
    ∙ ap (λ b. b || f q) (sym (list_any-append (path_eq q) (fronts (take k p)) (take (k + 1) p ∷ [])))
    ∙ ap (λ ps. is_among q ps || f q) (sym (fronts_more k p below))

-- with one path and those above it put, what was put and what is left are the same whole
pub fronts_put : (old rest : List Path) (p : Path) (f g : Paths) (q : Path) → old ≡ p ∷ rest → g q ≡ (is_among q (fronts p) || f q)
    → (is_among q (all_fronts rest) || g q) ≡ (is_among q (all_fronts old) || f q)
fronts_put old rest p f g q next is =
    ap (λ b. is_among q (all_fronts rest) || b) is ∙ moved (is_among q (all_fronts rest)) (is_among q (fronts p)) (f q)
    ∙ ap (λ b. b || f q) (sym (list_any-append (path_eq q) (fronts p) (all_fronts rest)))
    ∙ sym (ap (λ l. is_among q (all_fronts l) || f q) next)

-- ---- one path more of a walk

-- with one path put, what was put and what is left are the same whole
pub path_put : (old rest : List Path) (p : Path) (f g : Paths) (q : Path) → old ≡ p ∷ rest → g ≡ with_one p f → (is_among q rest || g q) ≡ (is_among q old || f q)
path_put old rest p f g q next is = ap (λ k. is_among q rest || k q) is ∙ moved (is_among q rest) (path_eq q p) (f q) ∙ sym (ap (λ l. is_among q l || f q) next)

-- with one path's child put, what was put and what is left are the same whole
pub child_put : (old rest : List Path) (p made : Path) (name : List ℕ) (f g : Paths) (q : Path) → old ≡ p ∷ rest → made ≡ p ++ name ∷ [] → g ≡ with_one made f
    → (list_any (λ r. path_eq q (r ++ name ∷ [])) rest || g q) ≡ (list_any (λ r. path_eq q (r ++ name ∷ [])) old || f q)
child_put old rest p made name f g q next is put =
    ap (λ k. list_any (λ r. path_eq q (r ++ name ∷ [])) rest || k q) put
    ∙ ap (λ c. list_any (λ r. path_eq q (r ++ name ∷ [])) rest || (path_eq q c || f q)) is
    ∙ moved (list_any (λ r. path_eq q (r ++ name ∷ [])) rest) (path_eq q (p ++ name ∷ [])) (f q)
    ∙ sym (ap (λ l. list_any (λ r. path_eq q (r ++ name ∷ [])) l || f q) next)

-- ---- in order

-- a parent is less than its child
parent_less : (p : Path) → p ≢ [] → path_cmp (parent p) p ≡ Less
parent_less [] h = absurd (h refl)
parent_less (s ∷ []) h = refl
parent_less (s ∷ r ∷ p) h =
    ap (λ o. ordering_then o (path_cmp (parent (r ∷ p)) (r ∷ p))) (tied_itself nat_list_cmp_total s) ∙ parent_less (r ∷ p) (λ e. cc)

-- each path is less than the next
abbrev Sorted : List Path → Type 0
Sorted ps = IsStrictlySortedBy path_cmp ps

-- in order, a path is less than all behind it
behind_all : (front rest : List Path) (p : Path) → Sorted (front ++ p ∷ rest) → AllByRecursion (λ r. path_cmp p r ≡ Less) rest
behind_all [] rest p sorted = sorted_head path_cmp p rest sorted
behind_all (f ∷ front) rest p sorted = behind_all front rest p (sorted_tail path_cmp f (front ++ p ∷ rest) sorted)

-- what is less than all of a list is less than each of them
at_last : (front rest : List Path) (p f : Path) → AllByRecursion (λ r. path_cmp f r ≡ Less) (front ++ p ∷ rest) → path_cmp f p ≡ Less
at_last [] rest p f all = all.0
at_last (g ∷ front) rest p f all = at_last front rest p f all.1

-- a path isn't one that is less
differs : (p f : Path) → path_cmp f p ≡ Less → path_eq p f ≡ false
differs p f less = false_from_ne_true _ (λ e.
    let itself : path_cmp f f ≡ Less = ap (path_cmp f) (sym (path_eq_same p f e)) ∙ less in
    let tied : path_cmp f f ≡ Equal = tied_itself path_total f in
    cc)

-- in order, a path isn't among those ahead of it
before_all : (front rest : List Path) (p : Path) → Sorted (front ++ p ∷ rest) → is_among p front ≡ false
before_all [] rest p sorted = refl
before_all (f ∷ front) rest p sorted =
    ap (λ b. b || is_among p front) (differs p f (at_last front rest p f (sorted_head path_cmp f (front ++ p ∷ rest) sorted)))
    ∙ before_all front rest p (sorted_tail path_cmp f (front ++ p ∷ rest) sorted)

-- a path that isn't among all has no place
no_place : (ps : List Path) (p : Path) → is_among p ps ≡ false → place_in ps p ≡ None
no_place [] p h = refl
no_place (q ∷ ps) p h = elim (path_eq q p) as (λ b. (b || is_among p ps) ≡ false → cond b (Some 0) (one_further (place_in ps p)) ≡ None) [
  | true ↦ λ k. cc
  | false ↦ λ k. ap one_further (no_place ps p k)
] (ap (λ b. b || is_among p ps) (path_eq_flip q p) ∙ h)

-- the next path is put last
pub next_path : (front rest all : List Path) (p : Path) → front ++ p ∷ rest ≡ all → Sorted all → or_added (place_in front p) front p ++ rest ≡ all
next_path front rest all p is sorted =
    ap (λ o. or_added o front p ++ rest) (no_place front p (before_all front rest p (subst Sorted (sym is) sorted))) ∙ append_assoc front (p ∷ []) rest ∙ is

-- a path that is among all stands at some place
pub stands : (ps : List Path) (p : Path) → is_among p ps ≡ true → (i : ℕ) × (slice_get ps i ≡ Some p)
stands [] p h = cc
stands (q ∷ ps) p h = elim (or_cases (path_eq p q) (is_among p ps) h) [
  | inl here ↦ (0, ap Some (sym (path_eq_same p q here)))
  | inr there ↦ let more = stands ps p there in (suc more.0, more.1)
]

-- what is among all is in the front, is the next, or is in the rest
in_both : (front rest : List Path) (p q : Path) → is_among q (front ++ p ∷ rest) ≡ true → (is_among q front ≡ true) ⊎ (q ≡ p) ⊎ (is_among q rest ≡ true)
in_both front rest p q h = elim (or_cases _ _ (sym (list_any-append (path_eq q) front (p ∷ rest)) ∙ h)) [
  | inl left ↦ inl left
  | inr more ↦ elim (or_cases (path_eq q p) (is_among q rest) more) [ inl here ↦ inr (inl (path_eq_same q p here)) | inr there ↦ inr (inr there) ]
]

-- the next one is among all
is_there : (front rest : List Path) (p : Path) → is_among p (front ++ p ∷ rest) ≡ true
is_there front rest p = list_any-append (path_eq p) front (p ∷ rest) ∙ or_right (is_among p front) _ (or_left _ _ (path_eq_refl p))

-- what is less than all of a list is less than each member
pub all_at : (f : Path) (ps : List Path) (q : Path) → AllByRecursion (λ r. path_cmp f r ≡ Less) ps → is_among q ps ≡ true → path_cmp f q ≡ Less
all_at f [] q all h = cc
all_at f (r ∷ ps) q all h = elim (or_cases (path_eq q r) (is_among q ps) h) [
  | inl here ↦ ap (path_cmp f) (path_eq_same q r here) ∙ all.0
  | inr there ↦ all_at f ps q all.1 there
]

-- of two paths not each is less than the other
not_both : (p q : Path) → path_cmp p q ≡ Less → path_cmp q p ≡ Less → ⊥
not_both p q h k =
    let itself : path_cmp p p ≡ Less = path_total.trans p q p h k in
    let tied : path_cmp p p ≡ Equal = tied_itself path_total p in
    cc

-- where no path of all is the root, the next one isn't
pub not_root : (front rest all : List Path) (p : Path) → front ++ p ∷ rest ≡ all → HaveParents all → p ≢ []
not_root front rest all p is parents = (parents p (ap (is_among p) (sym is) ∙ is_there front rest p)).0

-- the parent of the next path stands before it
pub above_there : (table : Listed) (rest all : List Path) (p : Path) → table.paths ++ p ∷ rest ≡ all → Sorted all → HaveParents all → HasPath table (parent p)
above_there table rest all p is sorted parents =
    let at = parents p (ap (is_among p) (sym is) ∙ is_there table.paths rest p) in
    elim at.1 [
      | inl root ↦ inl root
      | inr among ↦ elim (in_both table.paths rest p (parent p) (ap (is_among (parent p)) is ∙ among)) [
        | inl left ↦ inr (stands table.paths (parent p) left)
        | inr (inl same) ↦
            let less : path_cmp p p ≡ Less = ap (λ q. path_cmp q p) (sym same) ∙ parent_less p at.0 in
            let tied : path_cmp p p ≡ Equal = tied_itself path_total p in
            cc
        | inr (inr later) ↦
            let less = all_at p rest (parent p) (behind_all table.paths rest p (subst Sorted (sym is) sorted)) later in
            absurd (not_both (parent p) p (parent_less p at.0) less)
      ]
    ]

-- ---- places

-- what is left from a place on is the path there and what is left behind it
next_at : (ps : List Path) (i : ℕ) (p : Path) → slice_get ps i ≡ Some p → drop i ps ≡ p ∷ drop (i + 1) ps
next_at ps i p h =
    let below = slice_get_within ps i p h in
    let is : ◌≡◌ {A = Option Path} (Some (get_or ps i [])) (Some p) = sym (slice_get-get_or ps i [] below) ∙ h in
    let same : get_or ps i [] ≡ p = cc in
    drop_more ps i [] below ∙ ap (λ q. q ∷ drop (i + 1) ps) same

-- with the place of a path that passes put, what was put and what is left are the same whole
pub place_more : (f : Paths) (ps : List Path) (i : ℕ) (p : Path) (xs : List ℕ) (all : List ℕ) → slice_get ps i ≡ Some p → f p ≡ true → xs ++ places_from i f (drop i ps) ≡ all
    → (xs ++ i ∷ []) ++ places_from (i + 1) f (drop (i + 1) ps) ≡ all
place_more f ps i p xs all at h before =
    append_assoc xs (i ∷ []) (places_from (i + 1) f (drop (i + 1) ps))
    ∙ ap (λ ys. xs ++ ys) (sym (ap (λ b. cond b (i ∷ places_from (i + 1) f (drop (i + 1) ps)) (places_from (i + 1) f (drop (i + 1) ps))) h))
    ∙ ap (λ qs. xs ++ places_from i f qs) (sym (next_at ps i p at)) ∙ before

-- with a path that doesn't pass left out, what was put and what is left are the same whole
pub place_less : (f : Paths) (ps : List Path) (i : ℕ) (p : Path) (xs : List ℕ) (all : List ℕ) → slice_get ps i ≡ Some p → f p ≡ false → xs ++ places_from i f (drop i ps) ≡ all
    → xs ++ places_from (i + 1) f (drop (i + 1) ps) ≡ all
place_less f ps i p xs all at h before =
    ap (λ ys. xs ++ ys) (sym (ap (λ b. cond b (i ∷ places_from (i + 1) f (drop (i + 1) ps)) (places_from (i + 1) f (drop (i + 1) ps))) h))
    ∙ ap (λ qs. xs ++ places_from i f qs) (sym (next_at ps i p at)) ∙ before
