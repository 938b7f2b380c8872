-- Sets of segments, and the first segment that isn't among them.
use Rattle.std.proofs.Common.{◌≡◌, inl, inr, ℕ, zero, suc, ◌+◌, ◌<◌, ◌≤◌, max, Bool, true, false, cond, ◌||◌, List, [], ◌∷◌, ◌++◌, length, refl, sym, ap, ◌∙◌, arith}
use Rattle.std.specs.Prelude.{String, string_bytes, IsTrue}
use Rattle.std.specs.BTreeSet.{BTreeSet, Updates}
use Rattle.std.specs.String.{string_cmp}
use Rattle.std.specs.Str.{bytes_eq}
use Rattle.std.specs.List.{list_any}
use Rattle.std.proofs.Math.Nat.{eq-or-lt_of_le}
use Rattle.std.proofs.lemmas.Bool.{or_cases}
use Rattle.std.proofs.lemmas.Slice.Eq.{bytes_eq-Decides}
use Rattle.std.proofs.lemmas.Map.Text.{btree_set_updates_text}
use Rattle.fs_semantics.specs.FileTree.{Path}
use Rattle.fs_semantics.proofs.Keys.{same_bool}
use Rattle.finite_domain.specs.Domains.{text_eq, is_text_among}
use Rattle.finite_domain.specs.Layouts.{letters, other_segment}
use Rattle.finite_domain.specs.Matters.{has_segment}
use Rattle.finite_domain.proofs.Texts.{text_same, text_itself}
use Rattle.path_domain.specs.Segments.{Texts, texts_in, with_text}
use Rattle.std.proofs.lemmas.List.{append-nil}
use Rattle.path_domain.proofs.SetLaws.{same_or, one_more}

-- a text that is in the set is one more without a change
pub already : {Y : Type 0} (s : BTreeSet (String Y)) (c : List ℕ) → texts_in s c ≡ true → texts_in s ≡ with_text c (texts_in s)
already s c h = λ i d. same_or (text_eq d c) (texts_in s d) (λ e. ap (texts_in s) (text_same d c e) ∙ h) i

-- two texts are the same either way round, byte by byte or in order
bytes_flip : (c d : List ℕ) → bytes_eq c d ≡ text_eq d c
bytes_flip c d = same_bool (bytes_eq c d) (text_eq d c) (λ h. text_itself d c (sym ((bytes_eq-Decides c d).0 h))) (λ h. (bytes_eq-Decides c d).1 (sym (text_same d c h)))

-- a set into which a text was put has that text more
pub put_in : {Y : Type 0} (s n : BTreeSet (String Y)) (k : String Y) (c : List ℕ) → string_bytes k ≡ c → Updates string_cmp s n k true → texts_in n ≡ with_text c (texts_in s)
put_in s n k c is u = λ i d.
    (btree_set_updates_text (string_bytes k) s n true u d ∙ ap (λ b. cond (bytes_eq b d) true (texts_in s d)) is ∙ ap (λ b. cond b true (texts_in s d)) (bytes_flip c d) ∙ one_more (text_eq d c) (texts_in s d)) i

-- the sides of a disjunction may be told in another order
pub moved : (a b c : Bool) → (a || (b || c)) ≡ ((b || a) || c)
moved true true c = refl
moved true false c = refl
moved false true c = refl
moved false false c = refl

-- the next text of a walk
pub one_text : (old rest : List (List ℕ)) (t : List ℕ) (f g : Texts) (c : List ℕ) → old ≡ t ∷ rest → g ≡ with_text t f → (is_text_among c rest || g c) ≡ (is_text_among c old || f c)
one_text old rest t f g c next is = ap (λ k. is_text_among c rest || k c) is ∙ moved (is_text_among c rest) (text_eq c t) (f c) ∙ sym (ap (λ l. is_text_among c l || f c) next)

-- with the segments of one path put, what was put and what is left are the same whole
pub one_path : (old rest : List Path) (p : Path) (f g : Texts) (c : List ℕ) → old ≡ p ∷ rest → g c ≡ (is_text_among c p || f c) → (has_segment c rest || g c) ≡ (has_segment c old || f c)
one_path old rest p f g c next is = ap (λ k. has_segment c rest || k) is ∙ moved (has_segment c rest) (is_text_among c p) (f c) ∙ sym (ap (λ l. has_segment c l || f c) next)

-- how long the longest text of a list is
pub longest : {Y : Type 0} → List (String Y) → ℕ
longest [] = 0
longest (k ∷ ks) = max (length (string_bytes k)) (longest ks)

-- a text that is among all is no longer than the longest
not_longer_than : {Y : Type 0} (c : List ℕ) (ks : List (String Y)) → list_any (λ k. text_eq c (string_bytes k)) ks ≡ true → length c ≤ longest ks
unfolding longest
not_longer_than c [] h = cc
not_longer_than c (k ∷ ks) h = elim (or_cases (text_eq c (string_bytes k)) (list_any (λ k. text_eq c (string_bytes k)) ks) h) [
  | inl here ↦ omega (arith, ap length (text_same c (string_bytes k) here))
  | inr there ↦ omega (arith, not_longer_than c ks there)
]

-- and so is a member of the set
pub not_longer : {Y : Type 0} (c : List ℕ) (s : BTreeSet (String Y)) → texts_in s c ≡ true → length c ≤ longest s.keys
not_longer c s h = not_longer_than c s.keys h

-- the next number is one more
pub next_number : (k : ℕ) → suc k ≡ k + 1
next_number k = omega arith

-- a letter behind n letters is one of n + 1
pub letters_more : (n : ℕ) (rest : List ℕ) → letters n ++ 120 ∷ rest ≡ letters (suc n) ++ rest
letters_more zero rest = refl
letters_more (suc n) rest = ap (λ c. 120 ∷ c) (letters_more n rest)

-- a letter at the end of n letters makes them n + 1
pub letters_end : (n : ℕ) → letters n ++ 120 ∷ [] ≡ letters (suc n)
letters_end n = letters_more n [] ∙ append-nil (letters (suc n))

-- the next name of fresh children has one letter more
pub other_more : (n : ℕ) → other_segment n ++ 120 ∷ [] ≡ other_segment (suc n)
other_more n = ap (λ c. 111 ∷ 116 ∷ 104 ∷ 101 ∷ 114 ∷ c) (letters_end n)

-- one letter more was tried
pub tried_more : (f : Texts) (c : List ℕ) (n : ℕ) → c ≡ other_segment n → f c ≡ true → ((k : ℕ) → k < n → IsTrue (f (other_segment k))) → (k : ℕ) → k < suc n → IsTrue (f (other_segment k))
tried_more f c n is h before k l =
    let at_most : k ≤ n = omega (arith, l) in
    elim (eq-or-lt_of_le at_most) [
      | inl e ↦ ap (λ m. f (other_segment m)) e ∙ ap f (sym is) ∙ h
      | inr less ↦ before k less
    ]
