-- The places of the paths that pass a test.
use Rattle.std.proofs.Common.{◌≡◌, ℕ, zero, suc, ◌+◌, ◌<◌, Bool, true, false, cond, ◌&&◌, List, [], ◌∷◌, ◌++◌, map, length, refl, sym, ap, subst, ◌∙◌, arith, append_assoc}
use Rattle.std.specs.Prelude.{slice_index, slice_index_or}
use Rattle.std.specs.List.{filter, AllByRecursion}
use Rattle.std.specs.List.Sorted.{IsStrictlyIncreasing}
use Rattle.std.proofs.lemmas.List.{length_push}
use Rattle.std.proofs.lemmas.Map.Views.{any-filter_same}
use Rattle.fs_semantics.specs.FileTree.{Path, path_eq, is_among}
use Rattle.fs_semantics.proofs.Trees.{path_eq_same}
use Rattle.path_domain.specs.Gathered.{Paths}
use Rattle.path_domain.specs.Laid.{places_from}

-- places that are counted from a number on are above each lesser number
all_above : (j k : ℕ) (f : Paths) (ps : List Path) → j < k → AllByRecursion (λ y. j < y) (places_from k f ps)
all_above j k f [] h = tt
all_above j k f (p ∷ ps) h = by (f p) (all_above j (k + 1) f ps (omega (arith, h)))
  where
    by : (b : Bool) → AllByRecursion (λ y. j < y) (places_from (k + 1) f ps) → AllByRecursion (λ y. j < y) (cond b (k ∷ places_from (k + 1) f ps) (places_from (k + 1) f ps))
    by true more = (h, more)
    by false more = more

-- a number below all of a rising list may stand in front of it
put_first : (x : ℕ) (xs : List ℕ) → AllByRecursion (λ y. x < y) xs → IsStrictlyIncreasing xs → IsStrictlyIncreasing (x ∷ xs)
put_first x [] all inc k h = absurd (omega (arith, h))
put_first x (y ∷ ys) all inc zero h = all.0
put_first x (y ∷ ys) all inc (suc k) h = subst (λ n. slice_index (y ∷ ys) k < slice_index (x ∷ y ∷ ys) n) (next k) (inc k (omega (arith, h)))
  where
    next : (k : ℕ) → suc (k + 1) ≡ suc k + 1
    next k = omega arith

-- and so it may, or be left out
rise_by : (k : ℕ) (xs : List ℕ) (b : Bool) → AllByRecursion (λ y. k < y) xs → IsStrictlyIncreasing xs → IsStrictlyIncreasing (cond b (k ∷ xs) xs)
rise_by k xs true all more = put_first k xs all more
rise_by k xs false all more = more

-- the places of the paths that pass rise
pub places_rise : (k : ℕ) (f : Paths) (ps : List Path) → IsStrictlyIncreasing (places_from k f ps)
places_rise k f [] = λ i h. absurd (omega (arith, h))
places_rise k f (p ∷ ps) = rise_by k (places_from (k + 1) f ps) (f p) (all_above k (k + 1) f ps (omega arith)) (places_rise (k + 1) f ps)

-- what comes behind a front stands at the front's length
at_end : (front ps : List Path) (p : Path) → slice_index_or (front ++ p ∷ ps) (length front) [] ≡ p
at_end [] ps p = refl
at_end (q ∷ front) ps p = at_end front ps p

-- where places tell paths, one more place, or none, tells one more path, or none
told_by : (all : List Path) (k : ℕ) (p : Path) (xs : List ℕ) (ps : List Path) (b : Bool) → slice_index_or all k [] ≡ p → map (λ i. slice_index_or all i []) xs ≡ ps
    → map (λ i. slice_index_or all i []) (cond b (k ∷ xs) xs) ≡ cond b (p ∷ ps) ps
told_by all k p xs ps true is more = ap (λ q. q ∷ map (λ i. slice_index_or all i []) xs) is ∙ ap (λ qs. p ∷ qs) more
told_by all k p xs ps false is more = more

-- the places of the paths that pass tell these paths
told : (front ps : List Path) (k : ℕ) (f : Paths) → k ≡ length front → map (λ i. slice_index_or (front ++ ps) i []) (places_from k f ps) ≡ filter f ps
told front [] k f e = refl
told front (p ∷ ps) k f e =
    told_by (front ++ p ∷ ps) k p (places_from (k + 1) f ps) (filter f ps) (f p)
    (ap (λ n. slice_index_or (front ++ p ∷ ps) n []) e ∙ at_end front ps p)
    (ap (λ qs. map (λ i. slice_index_or qs i []) (places_from (k + 1) f ps)) (sym (append_assoc front (p ∷ []) ps))
    ∙ told (front ++ p ∷ []) ps (k + 1) f (omega (arith, e, length_push front p)))

-- a path is at one of the places where it passes the test and is in the list
pub at_places : (q : Path) (f : Paths) (ps : List Path) → is_among q (map (λ i. slice_index_or ps i []) (places_from 0 f ps)) ≡ (f q && is_among q ps)
at_places q f ps = ap (is_among q) (told [] ps 0 f refl) ∙ any-filter_same (path_eq q) f (f q) (λ k h. ap f (sym (path_eq_same q k h))) ps
