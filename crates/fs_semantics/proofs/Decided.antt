-- Whether two outcomes are the same can be told.
use Rattle.std.proofs.Common.{◌≡◌, ◌⊎◌, inl, inr, List, [], ◌∷◌, Some, None, refl, ap}
use Rattle.std.proofs.lemmas.Bool.{cases_eq}
use Rattle.std.specs.FinMap.{entries, same_entries_map}
use Rattle.fs_semantics.specs.FileTree.{Entry, Folder, File, Link, Tree}
use Rattle.fs_semantics.specs.Programs.{Outcome}

-- whether two are the same can be told
abbrev Told : Type 0 → Type 0
Told A = (x y : A) → (x ≡ y) ⊎ (x ≡ y → ⊥)

-- whether two lists are the same is told by their first entries and the rest
cons_told : {A : Type 0} (x y : A) (xs ys : List A) → (x ≡ y) ⊎ (x ≡ y → ⊥) → (xs ≡ ys) ⊎ (xs ≡ ys → ⊥) → (x ∷ xs ≡ y ∷ ys) ⊎ (x ∷ xs ≡ y ∷ ys → ⊥)
cons_told x y xs ys (inl e) (inl d) = inl (λ i. e i ∷ d i)
cons_told x y xs ys (inl e) (inr d) = inr (λ h. d cc)
cons_told x y xs ys (inr e) d = inr (λ h. e cc)

-- whether two lists are the same can be told, where it can of their entries
list_told : {A : Type 0} → Told A → Told (List A)
list_told told [] [] = inl refl
list_told told [] (y ∷ ys) = inr (λ h. cc)
list_told told (x ∷ xs) [] = inr (λ h. cc)
list_told told (x ∷ xs) (y ∷ ys) = cons_told x y xs ys (told x y) (list_told told xs ys)

-- whether two entries are the same can be told
entry_told : Told Entry
entry_told Folder Folder = inl refl
entry_told Folder (File c) = inr (λ h. cc)
entry_told Folder (Link c) = inr (λ h. cc)
entry_told (File c) Folder = inr (λ h. cc)
entry_told (File c) (File d) = elim (list_told cases_eq c d) [ inl e ↦ inl (ap File e) | inr n ↦ inr (λ h. n cc) ]
entry_told (File c) (Link d) = inr (λ h. cc)
entry_told (Link c) Folder = inr (λ h. cc)
entry_told (Link c) (File d) = inr (λ h. cc)
entry_told (Link c) (Link d) = elim (list_told cases_eq c d) [ inl e ↦ inl (ap Link e) | inr n ↦ inr (λ h. n cc) ]

-- whether two pairs are the same can be told, where it can of their parts
pair_told : {A B : Type 0} → Told A → Told B → Told (A × B)
pair_told a b x y = elim (a x.0 y.0) [
  | inl e ↦ elim (b x.1 y.1) [ inl d ↦ inl (λ i. (e i, d i)) | inr n ↦ inr (λ h. n (ap (λ z. z.1) h)) ]
  | inr n ↦ inr (λ h. n (ap (λ z. z.0) h))
]

-- whether two trees are the same can be told
tree_told : Told Tree
tree_told t u = elim (list_told (pair_told (list_told (list_told cases_eq)) entry_told) (entries t) (entries u)) [
  | inl e ↦ inl (same_entries_map t u e)
  | inr n ↦ inr (λ h. n (ap entries h))
]

-- whether two outcomes are the same can be told
pub outcome_told : Told Outcome
outcome_told None None = inl refl
outcome_told None (Some u) = inr (λ h. cc)
outcome_told (Some t) None = inr (λ h. cc)
outcome_told (Some t) (Some u) = elim (tree_told t u) [ inl e ↦ inl (ap Some e) | inr n ↦ inr (λ h. n cc) ]
