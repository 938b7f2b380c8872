-- What the definitions say of small cases.
use Rattle.std.proofs.Common.{◌≡◌, ℕ, Bool, true, false, not, cond, ◌&&◌, ◌||◌, List, [], ◌∷◌, Some, None, refl, sym, ap, ◌∙◌}
use Rattle.std.specs.Prelude.{codes, IsTrue}
use Rattle.std.specs.List.{list_any}
use Rattle.std.specs.FinMap as map
use Rattle.std.specs.FinMap.{get-empty, contains_key-keys}
use Rattle.fs_semantics.specs.FileTree.{Path, File, Link as LinkTo, Tree, path_cmp, path_eq, parent, is_dir, is_file, is_link}
use Rattle.fs_semantics.specs.Programs.{Err, Mkdir, Creat, Link, Rm, Cp, Steps, next, none, run, holds, IsDir, IsNone}
use Rattle.fs_semantics.specs.Models.{put}
use Rattle.fs_semantics.proofs.Puts.{put_is}
use Rattle.fs_semantics.proofs.ConstructLaws.{folder_only, child_found}

-- a folder that nothing makes sure of may be missing, and then a file can't be put there
missing_folder : run (put (codes "etc" ∷ codes "motd" ∷ []) (codes "hi")) map.empty ≡ None
missing_folder =
    put_is (codes "etc") (codes "motd" ∷ []) (codes "hi") map.empty
    ∙ rw (get-empty path_cmp (codes "etc" ∷ codes "motd" ∷ []), get-empty path_cmp (codes "etc" ∷ [])) refl

-- directly below the root it can
below_the_root : run (put (codes "motd" ∷ []) (codes "hi")) map.empty ≡ Some (map.insert map.empty (codes "motd" ∷ []) (File (codes "hi")))
below_the_root = put_is (codes "motd") [] (codes "hi") map.empty ∙ rw (get-empty path_cmp (codes "motd" ∷ [])) refl

-- a link isn't followed, and isn't replaced either
link_in_its_place : (t : Tree) (target : List ℕ) → map.get t (codes "motd" ∷ []) ≡ Some (LinkTo target) → run (put (codes "motd" ∷ []) (codes "hi")) t ≡ None
link_in_its_place t target h = put_is (codes "motd") [] (codes "hi") t ∙ rw h refl

-- the root is always a folder: it can't be made, nor is it ever missing
root_stays : (t : Tree) → (holds (IsDir []) t ≡ true) × (holds (IsNone []) t ≡ false) × (run (Mkdir []) t ≡ None)
root_stays t = (refl, refl, refl)

-- what is neither file, nor link, nor empty folder can't be removed
no_removal : (a b : Bool) (t u : Tree) → a ≡ false → b ≡ false → cond (a || b || false) (Some u) None ≡ None
no_removal true b t u h k = cc
no_removal false true t u h k = cc
no_removal false false t u h k = refl

-- a folder goes only where it is empty
full_folder_stays : (t : Tree) (s : List ℕ) (p q : Path) → is_dir t (s ∷ p) ≡ true → IsTrue (map.contains_key t q) → parent q ≡ s ∷ p → run (Rm (s ∷ p)) t ≡ None
full_folder_stays t s p q dir there up =
    let kind = folder_only (map.get t (s ∷ p)) dir in
    let child : list_any (λ r. path_eq (parent r) (s ∷ p)) (map.keys t) ≡ true = child_found (s ∷ p) q (map.keys t) up (sym (contains_key-keys t q) ∙ there) in
    let full : (is_dir t (s ∷ p) && not (list_any (λ r. path_eq (parent r) (s ∷ p)) (map.keys t))) ≡ false =
    ap (λ b. b && not (list_any (λ r. path_eq (parent r) (s ∷ p)) (map.keys t))) dir ∙ ap not child in
    ap (λ c. cond (is_file t (s ∷ p) || is_link t (s ∷ p) || c) (Some (map.remove t (s ∷ p))) None) full
    ∙ no_removal (is_file t (s ∷ p)) (is_link t (s ∷ p)) t (map.remove t (s ∷ p)) kind.0 kind.1

-- a run that fails before it changed anything, and one that fails after it made a folder, have one outcome
errors_are_alike : (t u : Tree) → run (Creat (codes "a" ∷ codes "b" ∷ []) []) map.empty ≡ run Err t
errors_are_alike t u = rw (get-empty path_cmp (codes "a" ∷ codes "b" ∷ []), get-empty path_cmp (codes "a" ∷ [])) refl

-- the folder that was made before the error isn't seen
failing_after_a_change : (t : Tree) → run (Steps (next (Mkdir (codes "a" ∷ [])) (next Err none))) map.empty ≡ run Err t
failing_after_a_change t = rw (get-empty path_cmp (codes "a" ∷ [])) refl

-- a copy is a file with the same content
copied_file : (t : Tree) (content : List ℕ) → map.get t (codes "a" ∷ []) ≡ Some (File content) → map.get t (codes "b" ∷ []) ≡ None
    → run (Cp (codes "a" ∷ []) (codes "b" ∷ [])) t ≡ Some (map.insert t (codes "b" ∷ []) (File content))
copied_file t content h k = rw (h, k) refl

-- a link isn't copied, nor what it leads to
copied_link : (t : Tree) (target : List ℕ) → map.get t (codes "a" ∷ []) ≡ Some (LinkTo target) → run (Cp (codes "a" ∷ []) (codes "b" ∷ [])) t ≡ None
copied_link t target h = rw h refl

-- a link is made whether or not its target is there
made_link : (target : List ℕ) → run (Link (codes "a" ∷ []) target) map.empty ≡ Some (map.insert map.empty (codes "a" ∷ []) (LinkTo target))
made_link target = rw (get-empty path_cmp (codes "a" ∷ [])) refl

-- a link goes, and what it leads to stays
removed_link : (t : Tree) (target : List ℕ) → map.get t (codes "a" ∷ []) ≡ Some (LinkTo target) → run (Rm (codes "a" ∷ [])) t ≡ Some (map.remove t (codes "a" ∷ []))
removed_link t target h = rw h refl
