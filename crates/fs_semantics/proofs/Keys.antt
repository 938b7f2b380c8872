-- The keys of a tree that pass a test.
use Rattle.std.proofs.Common.{◌≡◌, Bool, true, false, List, [], ◌∷◌, inl, inr, refl, sym, ap, ◌∙◌}
use Rattle.std.specs.Prelude.{◌↔◌, IsTrue}
use Rattle.std.specs.List.{list_any}
use Rattle.std.specs.Ordering.{eq_by_cmp}
use Rattle.std.specs.FinMap as map
use Rattle.std.specs.FinMap.{contains_key-keys}
use Rattle.std.proofs.lemmas.Bool.{or_cases, or_left, or_right}
use Rattle.fs_semantics.specs.FileTree.{Path, Tree, path_cmp}
use Rattle.fs_semantics.proofs.Trees.{path_eq_refl, path_eq_same}

-- where some key passes a test, there is one that does
key_among : (f : Path → Bool) (ks : List Path) → list_any f ks ≡ true → (q : Path) × (list_any (eq_by_cmp path_cmp q) ks ≡ true) × (f q ≡ true)
key_among f [] h = cc
key_among f (k ∷ ks) h = elim (or_cases (f k) (list_any f ks) h) [
  | inl here ↦ (k, or_left _ _ (path_eq_refl k), here)
  | inr there ↦ let more = key_among f ks there in (more.0, or_right _ _ more.1, more.2)
]

-- where some key passes the test, this one does
pub key_from : (f : Path → Bool) (t : Tree) → list_any f (map.keys t) ≡ true → (q : Path) × IsTrue (map.contains_key t q) × (f q ≡ true)
key_from f t h = let k = key_among f (map.keys t) h in (k.0, contains_key-keys t k.0 ∙ k.1, k.2)

-- a key that passes a test makes some key pass it
passes_among : (f : Path → Bool) (q : Path) (ks : List Path) → list_any (eq_by_cmp path_cmp q) ks ≡ true → f q ≡ true → list_any f ks ≡ true
passes_among f q [] h k = cc
passes_among f q (r ∷ ks) h k = elim (or_cases (eq_by_cmp path_cmp q r) (list_any (eq_by_cmp path_cmp q) ks) h) [
  | inl here ↦ or_left _ _ (ap f (sym (path_eq_same q r here)) ∙ k)
  | inr there ↦ or_right _ _ (passes_among f q ks there k)
]

-- an entry whose path passes a test makes some key of the tree pass it
pub key_passes : (f : Path → Bool) (t : Tree) (q : Path) → IsTrue (map.contains_key t q) → f q ≡ true → list_any f (map.keys t) ≡ true
key_passes f t q h k = passes_among f q (map.keys t) (sym (contains_key-keys t q) ∙ h) k

-- truth values that imply one another are the same
pub same_bool : (a b : Bool) → (a ≡ true → b ≡ true) → (b ≡ true → a ≡ true) → a ≡ b
same_bool true b h k = sym (h refl)
same_bool false true h k = k refl
same_bool false false h k = refl

-- some key passes a test exactly where some entry's path does
pub keys_word : (f : Path → Bool) (t : Tree) → IsTrue (list_any f (map.keys t)) ↔ ((q : Path) × IsTrue (map.contains_key t q) × IsTrue (f q))
keys_word f t = (key_from f t, (λ k. key_passes f t k.0 k.1 k.2))
