-- Numbers that are given to paths, one after the other.
use Rattle.std.proofs.Common.{◌≡◌, ◌⊎◌, ℕ, ◌+◌, Bool, true, false, cond, ◌||◌, ◌==◌, List, [], ◌∷◌, ◌++◌, Option, Some, None, inl, inr, refl, sym, ap, ◌∙◌, arith, eqb-true, eq-eqb}
use Rattle.std.specs.BTreeMap.{BTreeMap, btree_map_len, Updates}
use Rattle.std.proofs.lemmas.Bool.{or_cases, or_left, or_right, cases_Bool}
use Rattle.fs_semantics.specs.FileTree.{Path, path_cmp, path_eq, is_among}
use Rattle.fs_semantics.proofs.Trees.{path_eq_refl, path_eq_same}
use Rattle.effect_sets.specs.Footprints.{Paths}
use Rattle.commute_prune.specs.Numbers.{number_in, IsNumbering, Extends, has, AreNumbers}

-- what a new path changes
at : (m more : BTreeMap Path ℕ) (p : Path) (n : ℕ) → Updates path_cmp m more p (Some n) → (q : Path) → number_in more q ≡ cond (path_eq p q) (Some n) (number_in m q)
at m more p n u q = u.0 q

-- what is there twice is one
of_some : {x y : ℕ} → ◌≡◌ {A = Option ℕ} (Some x) (Some y) → x ≡ y
of_some e = cc

-- what isn't there has no number
no_number : {n : ℕ} (o : Option ℕ) → o ≡ None → o ≡ Some n → ⊥
no_number {n} o h k = let no : ◌≡◌ {A = Option ℕ} None (Some n) = sym h ∙ k in cc

-- where a number comes from: it is the new path's, or was given before
from : (m more : BTreeMap Path ℕ) (p : Path) (n : ℕ) → Updates path_cmp m more p (Some n) → (q : Path) (k : ℕ) → number_in more q ≡ Some k
    → ((p ≡ q) × (k ≡ n)) ⊎ (number_in m q ≡ Some k)
from m more p n u q k h = elim (cases_Bool (path_eq p q)) [
  | inl same ↦ inl (path_eq_same p q same, sym (of_some (sym (at m more p n u q ∙ ap (λ b. cond b (Some n) (number_in m q)) same) ∙ h)))
  | inr other ↦ inr (sym (at m more p n u q ∙ ap (λ b. cond b (Some n) (number_in m q)) other) ∙ h)
]

-- a new path with the count as its number leaves different paths different numbers
pub numbering_more : (m more : BTreeMap Path ℕ) (p : Path) → IsNumbering m → number_in m p ≡ None → Updates path_cmp m more p (Some (btree_map_len m)) → btree_map_len more ≡ btree_map_len m + 1
    → IsNumbering more
numbering_more m more p is new u long = record {
  below = λ q k h. elim (from m more p (btree_map_len m) u q k h) [
    | inl here ↦ omega (arith, here.1, long)
    | inr old ↦ let b = is.below q k old in omega arith
  ];
  apart = λ q r k h i. elim (from m more p (btree_map_len m) u q k h) [
    | inl here ↦ elim (from m more p (btree_map_len m) u r k i) [
      | inl there ↦ sym here.0 ∙ there.0
      | inr old ↦ let b = is.below r k old in absurd (omega (arith, here.1))
    ]
    | inr was ↦ elim (from m more p (btree_map_len m) u r k i) [
      | inl there ↦ let b = is.below q k was in absurd (omega (arith, there.1))
      | inr old ↦ is.apart q r k was old
    ]
  ];
}

-- a new path keeps the numbers that were given
pub extends_more : (m more : BTreeMap Path ℕ) (p : Path) (n : ℕ) → number_in m p ≡ None → Updates path_cmp m more p (Some n) → Extends m more
extends_more m more p n new u q k h = elim (cases_Bool (path_eq p q)) [
  | inl same ↦ absurd (no_number (number_in m p) new (ap (number_in m) (path_eq_same p q same) ∙ h))
  | inr other ↦ at m more p n u q ∙ ap (λ b. cond b (Some n) (number_in m q)) other ∙ h
]

-- a numbering keeps its own numbers
pub extends_same : (m : BTreeMap Path ℕ) → Extends m m
extends_same m p n h = h

-- numbers of a set are its numbers still when more are given
pub still_numbers : (m more : BTreeMap Path ℕ) (f : Paths) (ns : List ℕ) → Extends m more → AreNumbers m f ns → AreNumbers more f ns
still_numbers m more f ns x a = record {
  stands = λ p h. let s = a.stands p h in (s.0, x p s.0 s.1, s.2);
  stems = λ n h. let s = a.stems n h in (s.0, s.1, x s.0 n s.2);
}

-- a number stands in a list with one more exactly where it stood there, or is that one
has_last : (n k : ℕ) (ns : List ℕ) → has n (ns ++ k ∷ []) ≡ (has n ns || (n == k))
has_last n k [] = or_nothing (n == k)
  where
    or_nothing : (b : Bool) → (b || false) ≡ b
    or_nothing true = refl
    or_nothing false = refl
has_last n k (j ∷ ns) = ap (λ b. (n == j) || b) (has_last n k ns) ∙ move (n == j) (has n ns) (n == k)
  where
    move : (a b c : Bool) → (a || (b || c)) ≡ ((a || b) || c)
    move true b c = refl
    move false b c = refl

-- one path more, with its number
pub one_number : (m more : BTreeMap Path ℕ) (f g : Paths) (p : Path) (n : ℕ) (ns : List ℕ) → Extends m more → AreNumbers m f ns → number_in more p ≡ Some n
    → ((q : Path) → g q ≡ (path_eq q p || f q)) → AreNumbers more g (ns ++ n ∷ [])
one_number m more f g p n ns x a here is = record {
  stands = λ q h. elim (or_cases (path_eq q p) (f q) (sym (is q) ∙ h)) [
    | inl same ↦ (n, ap (number_in more) (path_eq_same q p same) ∙ here, has_last n n ns ∙ or_right (has n ns) (n == n) (eq-eqb n n refl))
    | inr old ↦ let s = a.stands q old in (s.0, x q s.0 s.1, has_last s.0 n ns ∙ or_left (has s.0 ns) (s.0 == n) s.2)
  ];
  stems = λ k h. elim (or_cases (has k ns) (k == n) (sym (has_last k n ns) ∙ h)) [
    | inl old ↦ let s = a.stems k old in (s.0, is s.0 ∙ or_right (path_eq s.0 p) (f s.0) s.1, x s.0 k s.2)
    | inr new ↦ (p, is p ∙ or_left (path_eq p p) (f p) (path_eq_refl p), here ∙ ap Some (sym (eqb-true k n new)))
  ];
}

-- a path is in a list with one more exactly where it was there, or is that one
pub among_last : (q p : Path) (front : List Path) → is_among q (front ++ p ∷ []) ≡ (path_eq q p || is_among q front)
among_last q p [] = refl
among_last q p (r ∷ front) = ap (λ b. path_eq q r || b) (among_last q p front) ∙ move (path_eq q r) (path_eq q p) (is_among q front)
  where
    move : (a b c : Bool) → (a || (b || c)) ≡ (b || (a || c))
    move true true c = refl
    move true false c = refl
    move false b c = refl
