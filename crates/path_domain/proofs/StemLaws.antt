-- Stems, and the texts that begin with them.
use Rattle.std.proofs.Common.{◌≡◌, ◌≢◌, ◌⊎◌, inl, inr, ℕ, zero, suc, ◌+◌, ◌<◌, ◌≤◌, ◌^◌, true, false, cond, ◌||◌, List, [], ◌∷◌, ◌++◌, length, take, get_or, Option, Some, None, refl, sym, ap, ◌∙◌, arith, decimal, append_assoc}
use Rattle.std.specs.Prelude.{◌↔◌, slice_get}
use Rattle.std.proofs.lemmas.Bool.{or_cases, or_left, false_from_ne_true, both_ways}
use Rattle.std.proofs.lemmas.Fmt.{decimal_injective}
use Rattle.std.proofs.lemmas.List.{append_cancel_left, take_more}
use Rattle.std.proofs.lemmas.Option.{slice_get-get_or, slice_get_within}
use Rattle.fs_semantics.specs.FileTree.{Path}
use Rattle.fs_interpreter.specs.Places.{content_place, one_further, or_added}
use Rattle.finite_domain.specs.Domains.{text_eq, is_text_among}
use Rattle.finite_domain.specs.Layouts.{letters, stem, numbered}
use Rattle.finite_domain.proofs.Texts.{text_same, text_itself, among_append, among_left, among_right, text_eq_sym}
use Rattle.path_domain.specs.Laid.{Starts}
use Rattle.path_domain.proofs.TextLaws.{next_number, letters_end}

-- the text begins with this start
abbrev pub Begins : List ℕ → List ℕ → Type 0
Begins c start = (rest : List ℕ) × (c ≡ start ++ rest)

-- a text that begins with so many letters x begins with fewer, too
fewer : (n k : ℕ) (left : List ℕ) → n ≤ k → Begins (letters k ++ left) (letters n)
fewer zero k left h = (letters k ++ left, refl)
fewer (suc n) zero left h = absurd (omega (arith, h))
fewer (suc n) (suc k) left h = let more = fewer n k left (omega (arith, h)) in (more.0, ap (λ c. 120 ∷ c) more.1)

-- where no further letter x follows, it begins with no more
not_more : (n k : ℕ) (left : List ℕ) → ((rest : List ℕ) → left ≢ 120 ∷ rest) → Begins (letters k ++ left) (letters n) → n ≤ k
not_more zero k left h b = omega arith
not_more (suc n) zero left h b = absurd (h (letters n ++ b.0) b.1)
not_more (suc n) (suc k) left h b = let same : letters k ++ left ≡ letters n ++ b.0 = cc in let more = not_more n k left h (b.0, same) in omega (arith, more)

-- a text of so many letters x, and then none, begins with just as many or fewer
pub counted : (c left : List ℕ) (k : ℕ) → c ≡ letters k ++ left → ((rest : List ℕ) → left ≢ 120 ∷ rest) → (n : ℕ) → (n ≤ k) ↔ Begins c (letters n)
counted c left k is h n = (
  (λ l. let f = fewer n k left l in (f.0, is ∙ f.1)),
  (λ b. not_more n k left h (b.0, sym is ∙ b.1)),
)

-- a text that begins with n letters is no shorter than n
pub letters_long : (n : ℕ) (left : List ℕ) → n ≤ length (letters n ++ left)
letters_long zero left = omega arith
letters_long (suc n) left = omega (arith, letters_long n left)

-- a text begins with `text` and so many letters
pub stems_are : (c rest : List ℕ) (k : ℕ) → c ≡ 116 ∷ 101 ∷ 120 ∷ 116 ∷ rest → ((n : ℕ) → (n ≤ k) ↔ Begins rest (letters n)) → (n : ℕ) → (n < k + 1) ↔ Begins c (stem n)
stems_are c rest k is counts n = (
  (λ l. let b = (counts n).0 (omega (arith, l)) in (b.0, is ∙ ap (λ r. 116 ∷ 101 ∷ 120 ∷ 116 ∷ r) b.1)),
  (λ b.
      let whole : ◌≡◌ {A = List ℕ} (116 ∷ 101 ∷ 120 ∷ 116 ∷ rest) (116 ∷ 101 ∷ 120 ∷ 116 ∷ (letters n ++ b.0)) = sym is ∙ b.1 in
      let same : rest ≡ letters n ++ b.0 = cc in
      let few = (counts n).1 (b.0, same) in omega (arith, few)),
)

-- a stem with a letter more is the next stem
pub stem_more : (n : ℕ) → stem n ++ 120 ∷ [] ≡ stem (suc n)
stem_more n = ap (λ c. 116 ∷ 101 ∷ 120 ∷ 116 ∷ c) (letters_end n)

-- the front of a list with the next one is one longer
take_next : (cs : List (List ℕ)) (i : ℕ) (c : List ℕ) → slice_get cs i ≡ Some c → take (i + 1) cs ≡ take i cs ++ c ∷ []
take_next cs i c h =
    let below = slice_get_within cs i c h in
    let is : ◌≡◌ {A = Option (List ℕ)} (Some (get_or cs i [])) (Some c) = sym (slice_get-get_or cs i [] below) ∙ h in
    let same : get_or cs i [] ≡ c = cc in
    take_more cs i [] below ∙ ap (λ d. take i cs ++ d ∷ []) same

-- where no contents are, none begins with a stem
pub start_none : (cs : List (List ℕ)) → cs ≡ [] → Starts 0 cs
start_none cs e n = ((λ h. absurd (omega (arith, h))), (λ h. let no : false ≡ true = sym (ap (is_text_among (stem n ++ h.0)) e) ∙ h.1 in cc))

-- a content more was looked at
pub start_more : (cs : List (List ℕ)) (i : ℕ) (c : List ℕ) (a b r : ℕ) → slice_get cs i ≡ Some c → Starts a (take i cs) → ((n : ℕ) → (n < b) ↔ Begins c (stem n))
    → a ≤ r → b ≤ r → (r ≡ a) ⊎ (r ≡ b) → Starts r (take (i + 1) cs)
start_more cs i c a b r at before this left right one n = (
  (λ h.
      let more : (n < a) ⊎ (n < b) = elim one [ inl e ↦ inl (omega (arith, e, h)) | inr e ↦ inr (omega (arith, e, h)) ] in
      elim more [
        | inl l ↦ let s = (before n).0 l in (s.0, ap (is_text_among (stem n ++ s.0)) (take_next cs i c at) ∙ among_left (stem n ++ s.0) (take i cs) (c ∷ []) s.1)
        | inr l ↦ let s = (this n).0 l in (s.0, ap (is_text_among (stem n ++ s.0)) (take_next cs i c at) ∙ among_right (stem n ++ s.0) (take i cs) (c ∷ []) (or_left (text_eq (stem n ++ s.0) c) false (text_itself (stem n ++ s.0) c (sym s.1))))
      ]),
  (λ s. elim (among_append (stem n ++ s.0) (take i cs) (c ∷ []) (sym (ap (is_text_among (stem n ++ s.0)) (take_next cs i c at)) ∙ s.1)) [
    | inl old ↦ let l = (before n).1 (s.0, old) in omega (arith, l, left)
    | inr new ↦ let l = (this n).1 (s.0, elim (or_cases (text_eq (stem n ++ s.0) c) false new) [ inl e ↦ sym (text_same (stem n ++ s.0) c e) | inr none ↦ absurd (both_ways false refl none) ]) in omega (arith, l, right)
  ]),
)

-- ---- numbered texts

-- the first texts by number
pub numbers_to : List ℕ → ℕ → List (List ℕ)
numbers_to start zero = []
numbers_to start (suc n) = numbers_to start n ++ (start ++ decimal n) ∷ []

-- no numbered texts behind contents leave these
pub numbers_none : (start : List ℕ) (cs ds : List (List ℕ)) → cs ≡ ds → cs ≡ ds ++ numbers_to start 0
unfolding numbers_to
numbers_none start cs ds e = e ∙ sym (nothing ds)
  where
    nothing : (cs : List (List ℕ)) → cs ++ [] ≡ cs
    nothing [] = refl
    nothing (c ∷ cs) = ap (λ ds. c ∷ ds) (nothing cs)

-- each of the first texts by number has a number below their count
in_numbers : (start : List ℕ) (n : ℕ) (c : List ℕ) → is_text_among c (numbers_to start n) ≡ true → (k : ℕ) × (k < n) × (c ≡ start ++ decimal k)
unfolding numbers_to
in_numbers start zero c h = cc
in_numbers start (suc n) c h = elim (among_append c (numbers_to start n) ((start ++ decimal n) ∷ []) h) [
  | inl old ↦ let more = in_numbers start n c old in (more.0, omega (arith, more.1), more.2)
  | inr new ↦ (n, omega arith, elim (or_cases (text_eq c (start ++ decimal n)) false new) [ inl e ↦ text_same c _ e | inr none ↦ absurd (both_ways false refl none) ])
]

-- a content that isn't among all has no place
pub not_placed : (cs : List (List ℕ)) (c : List ℕ) → is_text_among c cs ≡ false → content_place cs c ≡ None
not_placed [] c h = refl
not_placed (d ∷ cs) c h = elim (text_eq d c) as (λ b. (b || is_text_among c cs) ≡ false → cond b (Some 0) (one_further (content_place cs c)) ≡ None) [
  | true ↦ λ k. cc
  | false ↦ λ k. ap one_further (not_placed cs c k)
] (ap (λ b. b || is_text_among c cs) (text_eq_sym d c) ∙ h)

-- the next text by number isn't among the earlier ones
is_new : (start : List ℕ) (i : ℕ) (cs : List (List ℕ)) → i < 2 ^ 64 → is_text_among (start ++ decimal i) cs ≡ false → is_text_among (start ++ decimal i) (cs ++ numbers_to start i) ≡ false
is_new start i cs few h = false_from_ne_true _ (λ k. elim (among_append (start ++ decimal i) cs (numbers_to start i) k) [
  | inl old ↦ both_ways _ h old
  | inr new ↦
      let n = in_numbers start i (start ++ decimal i) new in
      let same = decimal_injective i n.0 few (omega (arith, few, n.1)) (append_cancel_left start _ _ n.2) in
      omega (arith, same, n.1)
])

-- the next text by number comes last
pub number_more : (start : List ℕ) (i : ℕ) (old cs : List (List ℕ)) (c : List ℕ) → i < 2 ^ 64 → cs ≡ old ++ numbers_to start i → c ≡ start ++ decimal i → is_text_among (start ++ decimal i) old ≡ false
    → or_added (content_place cs c) cs c ≡ old ++ numbers_to start (i + 1)
unfolding numbers_to
number_more start i old cs c few is new fresh =
    let none : content_place cs c ≡ None = ap (content_place cs) new ∙ not_placed cs (start ++ decimal i) (ap (is_text_among (start ++ decimal i)) is ∙ is_new start i old few fresh) in
    ap (λ o. or_added o cs c) none ∙ ap (λ d. cs ++ d ∷ []) new ∙ ap (λ ds. ds ++ (start ++ decimal i) ∷ []) is ∙ append_assoc old (numbers_to start i) ((start ++ decimal i) ∷ []) ∙ ap (λ n. old ++ numbers_to start n) (next_number i)

-- zero more is as many
no_more : (n : ℕ) → n ≡ n + 0
no_more n = omega arith

-- from zero on is as many
from_none : (n : ℕ) → n ≡ 0 + n
from_none n = omega arith

-- one added to either side of a sum is the same
one_moved : (n m : ℕ) → n + 1 + m ≡ n + suc m
one_moved n m = omega arith

-- the first texts by number, with one more for each path, are the first of so many
numbers_are : (start : List ℕ) (n : ℕ) (ps : List Path) → numbers_to start n ++ numbered start n ps ≡ numbers_to start (n + length ps)
unfolding numbers_to
numbers_are start n [] = nothing (numbers_to start n) ∙ ap (numbers_to start) (no_more n)
  where
    nothing : (cs : List (List ℕ)) → cs ++ [] ≡ cs
    nothing [] = refl
    nothing (c ∷ cs) = ap (λ ds. c ∷ ds) (nothing cs)
numbers_are start n (p ∷ ps) = sym (append_assoc (numbers_to start n) ((start ++ decimal n) ∷ []) (numbered start (n + 1) ps)) ∙ ap (λ ds. ds ++ numbered start (n + 1) ps) (ap (numbers_to start) (next_number n)) ∙ numbers_are start (n + 1) ps ∙ ap (numbers_to start) (one_moved n (length ps))

-- when there is one for each path, these are the numbered texts of the paths
pub all_numbers : (start : List ℕ) (i : ℕ) (ps : List Path) (cs old : List (List ℕ)) → i ≡ length ps → cs ≡ old ++ numbers_to start i → cs ≡ old ++ numbered start 0 ps
unfolding numbers_to
all_numbers start i ps cs old done is = is ∙ ap (λ n. old ++ numbers_to start n) done ∙ ap (λ n. old ++ numbers_to start n) (from_none (length ps)) ∙ ap (λ ds. old ++ ds) (sym (numbers_are start 0 ps))

-- no content begins with the stem that isn't among the first ones
pub no_start : (a : ℕ) (cs : List (List ℕ)) (start : List ℕ) → start ≡ stem a → Starts a cs → (n : ℕ) → is_text_among (start ++ decimal n) cs ≡ false
no_start a cs start is starts n = false_from_ne_true _ (λ h. let less = (starts a).1 (decimal n, ap (λ t. is_text_among (t ++ decimal n) cs) (sym is) ∙ h) in omega (arith, less))
