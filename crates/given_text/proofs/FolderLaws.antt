-- Folders that are added one after the other.
use Rattle.std.proofs.Common.{◌≡◌, ◌≢◌, inr, ℕ, zero, suc, ◌+◌, ◌<◌, Bool, true, false, cond, [], ◌∷◌, length, take, drop, map, Option, Some, None, add-one, refl, sym, ap, subst, ◌∙◌, arith}
use Rattle.std.proofs.lemmas.List.{drop-map}
use Rattle.std.specs.FinMap as finite
use Rattle.std.specs.FinMap.{get-empty, get-insert}
use Rattle.fs_semantics.specs.FileTree.{Path, Entry, Folder, Tree, parent, path_cmp, path_eq}
use Rattle.fs_semantics.specs.Entries.{IsFolderAt}
use Rattle.fs_semantics.proofs.Trees.{path_total, at_inserted, insert-same}
use Rattle.given_text.specs.Reading.{fronts, with_folders, HasOnlyFolders}

-- ---- trees of folders

-- the empty tree has only folders
pub nothing_stands : HasOnlyFolders finite.empty
nothing_stands p x h = let none : ◌≡◌ {A = Option Entry} None (Some x) = sym (get-empty path_cmp p) ∙ h in cc

-- and so has each that is it
pub nothing_here : (t : Tree) → t ≡ finite.empty → HasOnlyFolders t
nothing_here t is = subst HasOnlyFolders (sym is) nothing_stands

-- a tree of folders with a folder more has only folders
pub still_only : (t : Tree) (p : Path) → HasOnlyFolders t → HasOnlyFolders (finite.insert t p Folder)
still_only t p only q x h = at (path_eq q p) (sym (get-insert path_total t p Folder q) ∙ h)
  where
    at : (b : Bool) → cond b (Some Folder) (finite.get t q) ≡ Some x → x ≡ Folder
    at true e = cc
    at false e = only q x e

-- a folder that is put where one stands changes nothing
pub stays : (t : Tree) (p : Path) (x : Entry) → HasOnlyFolders t → finite.get t p ≡ Some x → finite.insert t p Folder ≡ t
stays t p x only h = insert-same t p Folder (h ∙ ap (λ y. Some y) (only p x h))

-- ---- the fronts of a path

-- nothing is below zero
nothing_below : (n : ℕ) → n < 0 → ⊥
nothing_below n h = omega (arith, h)

-- what is below by one more is below
below_suc : (n m : ℕ) → suc n < suc m → n < m
below_suc n m h = omega (arith, h)

-- from a place on the fronts are the one there and the longer ones
front_at : (p : Path) (n : ℕ) → n < length p → drop n (fronts p) ≡ take (suc n) p ∷ drop (suc n) (fronts p)
front_at [] n h = absurd (nothing_below n h)
front_at (s ∷ p) zero h = refl
front_at (s ∷ p) (suc n) h =
    drop-map (λ q. s ∷ q) n (fronts p) ∙ ap (map (λ q. s ∷ q)) (front_at p n (below_suc n (length p) h))
    ∙ ap (λ l. (s ∷ take (suc n) p) ∷ l) (sym (drop-map (λ q. s ∷ q) (suc n) (fronts p)))

-- past its length a path has no more fronts
no_fronts : (p : Path) → drop (length p) (fronts p) ≡ []
no_fronts [] = refl
no_fronts (s ∷ p) = drop-map (λ q. s ∷ q) (length p) (fronts p) ∙ ap (map (λ q. s ∷ q)) (no_fronts p)

-- the parent of a front is the front that is one shorter
parent_of_front : (p : Path) (n : ℕ) → n < length p → parent (take (suc n) p) ≡ take n p
parent_of_front [] n h = absurd (nothing_below n h)
parent_of_front (s ∷ p) zero h = refl
parent_of_front (s ∷ []) (suc n) h = absurd (nothing_below n (below_suc n 0 h))
parent_of_front (s ∷ r ∷ p) (suc n) h = ap (λ q. s ∷ q) (parent_of_front (r ∷ p) n (below_suc n (length (r ∷ p)) h))

-- no front is the root
no_root : (p : Path) (n : ℕ) → n < length p → take (suc n) p ≢ []
no_root [] n h = absurd (nothing_below n h)
no_root (s ∷ p) n h = λ e. cc

-- ---- one front after the other

-- The tree has the first n fronts of the path; with the others it is what the first one is with all.
pub record Climbs (p : Path) (n : ℕ) (first t : Tree) : Type 0 where
  pub rest : with_folders t (drop n (fronts p)) ≡ with_folders first (fronts p)
  pub only : HasOnlyFolders t
  pub here : IsFolderAt t (take n p)

-- the next front isn't the root
pub below : (p front : Path) (n : ℕ) → n < length p → front ≡ take (n + 1) p → front ≢ []
below p front n h is e = no_root p n h (sym (is ∙ ap (λ m. take m p) (add-one n)) ∙ e)

-- the parent of the next front is a folder
pub above : (p front : Path) (n : ℕ) (first t : Tree) → n < length p → front ≡ take (n + 1) p → Climbs p n first t → IsFolderAt t (parent front)
above p front n first t h is c = subst (IsFolderAt t) (sym (ap parent (is ∙ ap (λ m. take m p) (add-one n)) ∙ parent_of_front p n h)) c.here

-- with a folder at the next front the tree has one front more
pub climbs : (p front : Path) (n : ℕ) (first t u : Tree) → n < length p → front ≡ take (n + 1) p → u ≡ finite.insert t front Folder → Climbs p n first t → Climbs p (n + 1) first u
climbs p front n first t u h is added c =
    let front_is : front ≡ take (suc n) p = is ∙ ap (λ m. take m p) (add-one n) in
    let new : u ≡ finite.insert t (take (suc n) p) Folder = added ∙ ap (λ q. finite.insert t q Folder) front_is in
    subst (λ m. Climbs p m first u) (sym (add-one n)) (record {
      rest = ap (λ v. with_folders v (drop (suc n) (fronts p))) new ∙ ap (with_folders t) (sym (front_at p n h)) ∙ c.rest;
      only = subst HasOnlyFolders (sym new) (still_only t (take (suc n) p) c.only);
      here = inr (ap (λ v. finite.get v (take (suc n) p)) new ∙ at_inserted t (take (suc n) p) Folder);
    })

-- with all fronts the tree is the first one with all of them
pub ends : (p : Path) (first t : Tree) → Climbs p (length p) first t → t ≡ with_folders first (fronts p)
ends p first t c = ap (with_folders t) (sym (no_fronts p)) ∙ c.rest
