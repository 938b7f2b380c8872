-- The tree of given folders, as it grows.
use Rattle.std.proofs.Common.{◌≡◌, ◌≢◌, ◌⊎◌, inl, inr, ℕ, zero, suc, ◌+◌, ◌<◌, true, false, List, [], ◌∷◌, ◌++◌, length, take, drop, get_or, Some, None, refl, sym, ap, subst, ◌∙◌, arith}
use Rattle.std.specs.Prelude.{Option, Result, Ok, Err, OnOk}
use Rattle.std.proofs.Math.Seq.{take-suc}
use Rattle.std.specs.FinMap as map
use Rattle.std.specs.FinMap.{get-empty}
use Rattle.fs_semantics.specs.FileTree.{Path, Entry, Folder, Tree, parent, path_cmp, path_eq}
use Rattle.fs_semantics.specs.Entries.{IsFolderAt, IsFreeAt}
use Rattle.fs_semantics.proofs.Trees.{at_inserted, at_other, path_eq_same, path_eq_word}
use Rattle.fs_semantics.proofs.Words.{folder_at}
use Rattle.given_hosts.specs.Given.{Stand}
use Rattle.explained_runs.specs.GivenTree.{IsFront, IsAtOrAbove, HasOnlyGiven, HasOnlyFolders, IsWithin, IsGrown}

-- the whole path is its longest front
pub take_all : (p : Path) → take (length p) p ≡ p
take_all [] = refl
take_all (s ∷ p) = ap (λ q. s ∷ q) (take_all p)

-- nothing behind a path leaves the path
front_itself : (p : Path) → p ≡ p ++ []
front_itself [] = refl
front_itself (s ∷ p) = ap (λ q. s ∷ q) (front_itself p)

-- three paths may be joined from either end
append_assoc : (a b c : Path) → (a ++ b) ++ c ≡ a ++ (b ++ c)
append_assoc [] b c = refl
append_assoc (s ∷ a) b c = ap (λ q. s ∷ q) (append_assoc a b c)

-- the parent of a front is the front that is one shorter
parent_take : (n : ℕ) (p : Path) → n < length p → parent (take (suc n) p) ≡ take n p
parent_take n [] h = absurd (omega (arith, h))
parent_take zero (s ∷ p) h = refl
parent_take (suc n) (s ∷ []) h = absurd (omega (arith, h))
parent_take (suc n) (s ∷ r ∷ p) h = ap (λ q. s ∷ q) (parent_take n (r ∷ p) (omega (arith, h)))

-- and so it is counted from one more
pub parent_at : (n k : ℕ) (p f : Path) → k ≡ n + 1 → n < length p → f ≡ take k p → parent f ≡ take n p
parent_at n k p f e h is = let same : k ≡ suc n = omega (arith, e) in ap parent is ∙ ap (λ j. parent (take j p)) same ∙ parent_take n p h

-- a path is its front and what is left
taken : (n : ℕ) (p : Path) → p ≡ take n p ++ drop n p
taken zero p = refl
taken (suc n) [] = refl
taken (suc n) (s ∷ p) = ap (λ q. s ∷ q) (taken n p)

-- a front of a front is one of the path
front_of_front : (q : Path) (n : ℕ) (p : Path) → IsFront q (take n p) → IsFront q p
front_of_front q n p f = (f.0 ++ drop n p, taken n p ∙ ap (λ (r : Path). r ++ drop n p) f.1 ∙ append_assoc q f.0 (drop n p))

-- ---- one folder

-- what isn't free is a folder, where nothing but folders stands
pub not_free : (p : Path) (t : Tree) → HasOnlyFolders t → (IsFreeAt t p → ⊥) → IsFolderAt t p
not_free [] t folders h = inl refl
not_free (s ∷ p) t folders h = elim (map.get t (s ∷ p)) as (λ o. map.get t (s ∷ p) ≡ o → IsFolderAt t (s ∷ p)) [
  | None ↦ λ e. absurd (h ((λ k. cc), e))
  | Some x ↦ λ e. inr (e ∙ ap (λ y. Some y) (folders (s ∷ p) x e))
] refl

-- what follows from what holds of an Ok result holds of an Ok result
pub on_ok : {X E P Q : Type 0} (r : Result X E) → (P → Q) → OnOk r P → OnOk r Q
on_ok (Ok x) f h = f h
on_ok (Err e) f h = tt

-- a tree in which the folder stands has grown to it without a change
pub stood : (p : Path) (t : Tree) → IsFolderAt t p → IsGrown (length p) p t t
stood p t here = record { folder = subst (IsFolderAt t) (sym (take_all p)) here; kept = λ q x h. h; new = λ q x h. inl h }

-- what stands in a tree with one folder more stood there, or is that folder
either_path : (p q : Path) (t : Tree) (x : Entry) → map.get (map.insert t p Folder) q ≡ Some x → (map.get t q ≡ Some x) ⊎ ((x ≡ Folder) × IsFront q p)
either_path p q t x h = elim (path_eq q p) as (λ b. path_eq q p ≡ b → (map.get t q ≡ Some x) ⊎ ((x ≡ Folder) × IsFront q p)) [
  | true ↦ λ e.
      let same : q ≡ p = path_eq_same q p e in
      let is : Some x ≡ Some Folder = sym h ∙ ap (map.get (map.insert t p Folder)) same ∙ at_inserted t p Folder in
      let folder : x ≡ Folder = cc in
      inr (folder, ([], sym same ∙ front_itself q))
  | false ↦ λ e. inl (sym (at_other t p q Folder (λ same. differ q p e same)) ∙ h)
] refl
  where
    differ : (q p : Path) → path_eq q p ≡ false → q ≢ p
    differ q p e same = let clash : false ≡ true = sym e ∙ (path_eq_word q p).1 same in cc

-- a tree with the folder put in a free place has grown to it
pub added : (p : Path) (t : Tree) → map.get t p ≡ None → IsGrown (length p) p t (map.insert t p Folder)
added p t free = record {
  folder = subst (IsFolderAt (map.insert t p Folder)) (sym (take_all p)) (inr (at_inserted t p Folder));
  kept = λ q x h. at_other t p q Folder (λ e. let none : ◌≡◌ None (Some x) = sym free ∙ ap (map.get t) (sym e) ∙ h in cc) ∙ h;
  new = λ q x h. either_path p q t x h;
}

-- ---- down to a path

-- a tree of folders is one after it has grown
pub only_folders : (n : ℕ) (p : Path) (t u : Tree) → HasOnlyFolders t → IsGrown n p t u → HasOnlyFolders u
only_folders n p t u h g q x there = elim (g.new q x there) [ inl old ↦ h q x old | inr new ↦ new.0 ]

-- a tree that has grown by one folder more has grown that much further
pub one_down : (n k : ℕ) (p f : Path) (t u v : Tree) → f ≡ take k p → IsGrown n p t u → IsGrown (length f) f u v → IsGrown k p t v
one_down n m p f t u v is g k = record {
  folder = subst (IsFolderAt v) (take_all f ∙ is) k.folder;
  kept = λ q x h. k.kept q x (g.kept q x h);
  new = λ q x h. elim (k.new q x h) [ inl old ↦ g.new q x old | inr new ↦ inr (new.0, front_of_front q m p (subst (IsFront q) is new.1)) ];
}

-- ---- all of them

-- given folders stand in each larger tree
stand_on : (given : List Path) (t u : Tree) → IsWithin t u → Stand given t → Stand given u
stand_on [] t u h k = tt
stand_on (p ∷ given) t u h k = ((folder_at u p).1 (elim ((folder_at t p).0 k.0) [ inl root ↦ inl root | inr there ↦ inr (h p Folder there) ]), stand_on given t u h k.1)

-- and so they do with one more that stands
one_more : (given : List Path) (p : Path) (t : Tree) → Stand given t → IsFolderAt t p → Stand (given ++ p ∷ []) t
one_more [] p t h k = ((folder_at t p).1 k, tt)
one_more (g ∷ given) p t h k = (h.0, one_more given p t h.1 k)

-- given folders and one more stand in a tree that has grown to that one
pub stand_more : (given : List Path) (p : Path) (t u : Tree) → Stand given t → IsGrown (length p) p t u → Stand (given ++ p ∷ []) u
stand_more given p t u h g = one_more given p u (stand_on given t u g.kept h) (subst (IsFolderAt u) (take_all p) g.folder)

-- the first given folders, with one more, stand in a tree that has grown to that one
pub one_more_given : (given : List Path) (i k : ℕ) (p : Path) (t u : Tree) → k ≡ i + 1 → i < length given → p ≡ get_or given i p → Stand (take i given) t → IsGrown (length p) p t u → Stand (take k given) u
one_more_given given i k p t u e h is stand g =
    let same : k ≡ suc i = omega (arith, e) in
    let front : take k given ≡ take i given ++ p ∷ [] = ap (λ n. take n given) same ∙ take-suc given i p h ∙ ap (λ q. take i given ++ q ∷ []) (sym is) in
    subst (λ ps. Stand ps u) (sym front) (stand_more (take i given) p t u stand g)

-- a front of one of the given folders is at or above one of them
pub at_item : (given : List Path) (i : ℕ) (p : Path) → i < length given → p ≡ get_or given i p → (q : Path) → IsFront q p → IsAtOrAbove q given
at_item [] i p h is q f = absurd (omega (arith, h))
at_item (g ∷ given) zero p h is q f = inl (f.0, sym is ∙ f.1)
at_item (g ∷ given) (suc i) p h is q f = inr (at_item given i p (omega (arith, h)) is q f)

-- the empty tree has nothing but what is given
pub nothing_given : (given : List Path) (t : Tree) → t ≡ map.empty → HasOnlyGiven given t
nothing_given given t e p x h = let clash : ◌≡◌ {A = Option Entry} None (Some x) = sym (get-empty path_cmp p) ∙ ap (λ u. map.get u p) (sym e) ∙ h in cc

-- and so has a tree that has grown to one of the given folders
pub only_more : (given : List Path) (p : Path) (t u : Tree) → ((q : Path) → IsFront q p → IsAtOrAbove q given) → HasOnlyGiven given t → IsGrown (length p) p t u → HasOnlyGiven given u
only_more given p t u among h g q x there = elim (g.new q x there) [ inl old ↦ h q x old | inr new ↦ (new.0, among q new.1) ]
