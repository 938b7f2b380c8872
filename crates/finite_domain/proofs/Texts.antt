-- Lists of texts: those of programs, without repetitions, and numbered ones.
use Rattle.std.proofs.Common.{◌≡◌, ◌⊎◌, ℕ, ◌+◌, ◌<◌, Bool, true, false, cond, not, ◌&&◌, ◌||◌, List, [], ◌∷◌, ◌++◌, length, inl, inr, refl, sym, ap, ◌∙◌, arith, decimal}
use Rattle.std.specs.Prelude.{IsTrue}
use Rattle.std.specs.List.{AllByRecursion}
use Rattle.std.specs.List.Sorted.{IsStrictlySortedBy}
use Rattle.std.specs.Ordering.{is_eq, nat_cmp}
use Rattle.std.proofs.Common.{Less, Equal}
use Rattle.std.specs.Cmp.{tied_itself, Equal-is}
use Rattle.std.specs.Cmp.Lexicographic.{slice_cmp, nat_list_cmp_total}
use Rattle.std.specs.FinMap.{nat_cmp-IsAntisymmetric, slice_cmp-IsAntisymmetric}
use Rattle.std.proofs.lemmas.Bool.{or_cases, or_left, or_right, cases_Bool, both_ways, false_from_ne_true}
use Rattle.std.proofs.lemmas.List.Folds.{list_any-append}
use Rattle.std.proofs.lemmas.Map.Views.{any-filter_same}
use Rattle.std.proofs.lemmas.Map.Keys.{sorted_head, sorted_tail}
use Rattle.fs_semantics.specs.FileTree.{Path, path_cmp, path_eq, is_among}
use Rattle.fs_semantics.proofs.Trees.{path_total, path_eq_refl, path_eq_same}
use Rattle.finite_domain.specs.Domains.{text_eq, is_text_among}
use Rattle.finite_domain.specs.Layouts.{first_uses, numbered}

-- texts that are told to be the same are
pub text_same : (c d : List ℕ) → text_eq c d ≡ true → c ≡ d
text_same c d h = slice_cmp-IsAntisymmetric nat_cmp-IsAntisymmetric c d ((Equal-is (slice_cmp nat_cmp c d)).0 h)

-- and the same texts are told to be
pub text_itself : (c d : List ℕ) → c ≡ d → text_eq c d ≡ true
text_itself c d e = ap (text_eq c) (sym e) ∙ ap is_eq (tied_itself nat_list_cmp_total c)

-- ---- in two lists

-- a text of two lists joined is in one of them
pub among_append : (c : List ℕ) (cs ds : List (List ℕ)) → is_text_among c (cs ++ ds) ≡ true → (is_text_among c cs ≡ true) ⊎ (is_text_among c ds ≡ true)
among_append c cs ds h = or_cases _ _ (sym (list_any-append (text_eq c) cs ds) ∙ h)

-- a text of the first of two lists is in both joined
pub among_left : (c : List ℕ) (cs ds : List (List ℕ)) → is_text_among c cs ≡ true → is_text_among c (cs ++ ds) ≡ true
among_left c cs ds h = list_any-append (text_eq c) cs ds ∙ or_left _ _ h

-- and so is one of the second
pub among_right : (c : List ℕ) (cs ds : List (List ℕ)) → is_text_among c ds ≡ true → is_text_among c (cs ++ ds) ≡ true
among_right c cs ds h = list_any-append (text_eq c) cs ds ∙ or_right _ _ h

-- ---- without repetitions

-- of a disjunction only what the first side lacks counts of the second
either : (a b : Bool) → (a || (not a && b)) ≡ (a || b)
either true b = refl
either false b = refl

-- that texts are the same holds either way round
pub text_eq_sym : (c d : List ℕ) → text_eq c d ≡ text_eq d c
text_eq_sym c d = elim (cases_Bool (text_eq c d)) [
  | inl is ↦ is ∙ sym (text_itself d c (sym (text_same c d is)))
  | inr other ↦ other ∙ sym (false_from_ne_true _ (λ h. both_ways _ other (text_itself c d (sym (text_same d c h)))))
]

-- without repetitions the same texts are in the list
pub first_uses_are : (c : List ℕ) (cs : List (List ℕ)) → is_text_among c (first_uses cs) ≡ is_text_among c cs
first_uses_are c [] = refl
first_uses_are c (d ∷ cs) =
    ap (λ b. text_eq c d || b) (any-filter_same (text_eq c) (λ k. not (text_eq d k)) (not (text_eq c d)) (λ k h. ap not (ap (text_eq d) (sym (text_same c k h)) ∙ text_eq_sym d c)) (first_uses cs))
    ∙ either (text_eq c d) (is_text_among c (first_uses cs)) ∙ ap (λ b. text_eq c d || b) (first_uses_are c cs)

-- ---- numbered texts

-- the place of a path in a list
abbrev pub place : Path → List Path → ℕ
place p [] = 0
place p (q ∷ ps) = cond (path_eq p q) 0 (place p ps + 1)

-- the place of a path is within the list
pub place_below : (p : Path) (ps : List Path) → is_among p ps ≡ true → place p ps < length ps
place_below p [] h = cc
place_below p (q ∷ ps) h = elim (path_eq p q) as (λ b. (b || is_among p ps) ≡ true → cond b 0 (place p ps + 1) < length (q ∷ ps)) [
  | true ↦ λ k. omega arith
  | false ↦ λ k. omega (arith, place_below p ps k)
] h

-- paths of the list with one place are one
pub one_place : (p q : Path) (ps : List Path) → is_among p ps ≡ true → is_among q ps ≡ true → place p ps ≡ place q ps → p ≡ q
one_place p q [] h k e = cc
one_place p q (r ∷ ps) h k e =
    elim (path_eq p r) as (λ b. path_eq p r ≡ b → (b || is_among p ps) ≡ true → cond b 0 (place p ps + 1) ≡ place q (r ∷ ps) → p ≡ q) [
      | true ↦ λ u h e. elim (path_eq q r) as (λ b. path_eq q r ≡ b → 0 ≡ cond b 0 (place q ps + 1) → p ≡ q) [
        | true ↦ λ v e. path_eq_same p r u ∙ sym (path_eq_same q r v)
        | false ↦ λ v e. absurd (omega arith)
      ] refl e
      | false ↦ λ u h e. elim (path_eq q r) as (λ b. path_eq q r ≡ b → (b || is_among q ps) ≡ true → place p ps + 1 ≡ cond b 0 (place q ps + 1) → p ≡ q) [
        | true ↦ λ v k e. absurd (omega arith)
        | false ↦ λ v k e. one_place p q ps h k (omega arith)
      ] refl k e
    ] refl h e

-- equal numbers have one decimal text
pub numbers : (start : List ℕ) (k n : ℕ) → k ≡ n → start ++ decimal k ≡ start ++ decimal n
numbers start k n e = ap (λ x. start ++ decimal x) e

-- the text with the number of a path's place is among the numbered ones
pub number_among : (start : List ℕ) (n : ℕ) (p : Path) (ps : List Path) → is_among p ps ≡ true → is_text_among (start ++ decimal (n + place p ps)) (numbered start n ps) ≡ true
number_among start n p [] h = cc
number_among start n p (q ∷ ps) h = elim (path_eq p q) as (λ b. (b || is_among p ps) ≡ true → is_text_among (start ++ decimal (n + cond b 0 (place p ps + 1))) (numbered start n (q ∷ ps)) ≡ true) [
  | true ↦ λ k. or_left _ _ (text_itself _ _ (numbers start (n + 0) n (omega arith)))
  | false ↦ λ k. or_right _ _ (ap (λ c. is_text_among c (numbered start (n + 1) ps)) (numbers start (n + (place p ps + 1)) (n + 1 + place p ps) (omega arith)) ∙ number_among start (n + 1) p ps k)
] h

-- in a list with no repetitions
later_differs : (p q : Path) (ps : List Path) → AllByRecursion (λ r. path_cmp q r ≡ Less) ps → is_among p ps ≡ true → path_eq p q ≡ false
later_differs p q [] all h = cc
later_differs p q (r ∷ ps) all h = elim (or_cases (path_eq p r) (is_among p ps) h) [
  | inl here ↦ false_from_ne_true _ (λ e.
      let less : path_cmp q q ≡ Less = ap (path_cmp q) (sym (path_eq_same p q e) ∙ path_eq_same p r here) ∙ all.0 in
      let tied : path_cmp q q ≡ Equal = tied_itself path_total q in
      cc)
  | inr there ↦ later_differs p q ps all.1 there
]

-- and each of the numbered texts has the number of a path's place
pub among_numbers : (start : List ℕ) (n : ℕ) (c : List ℕ) (ps : List Path) → IsStrictlySortedBy path_cmp ps → is_text_among c (numbered start n ps) ≡ true
    → (p : Path) × IsTrue (is_among p ps) × (c ≡ start ++ decimal (n + place p ps))
among_numbers start n c [] sorted h = cc
among_numbers start n c (q ∷ ps) sorted h = elim (or_cases (text_eq c (start ++ decimal n)) (is_text_among c (numbered start (n + 1) ps)) h) [
  | inl here ↦ (q, or_left _ _ (path_eq_refl q), text_same c _ here ∙ numbers start n (n + cond (path_eq q q) 0 (place q ps + 1)) (omega (arith, ap (λ b. cond b 0 (place q ps + 1)) (path_eq_refl q))))
  | inr there ↦
      let more = among_numbers start (n + 1) c ps (sorted_tail path_cmp q ps sorted) there in
      let other = later_differs more.0 q ps (sorted_head path_cmp q ps sorted) more.1 in
      (more.0, or_right _ _ more.1, more.2 ∙ numbers start (n + 1 + place more.0 ps) (n + cond (path_eq more.0 q) 0 (place more.0 ps + 1)) (omega (arith, ap (λ b. cond b 0 (place more.0 ps + 1)) other)))
]
