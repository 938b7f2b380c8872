-- Laws of trees as maps from paths.
use Rattle.std.proofs.Common.{◌≡◌, ◌≢◌, ◌⊎◌, inl, inr, ℕ, Bool, true, false, cond, List, [], ◌∷◌, ◌++◌, Some, None, refl, sym, ap, ◌∙◌}
use Rattle.std.specs.Cmp.{IsTotalOrder, nat_cmp_total, tied_itself, Equal-is}
use Rattle.std.proofs.lemmas.Cmp.{lists_total}
use Rattle.std.specs.Ordering.{is_eq}
use Rattle.std.specs.FinMap as map
use Rattle.std.specs.FinMap.{IsAntisymmetric, nat_cmp-IsAntisymmetric, slice_cmp-IsAntisymmetric, get-insert, get-remove, same_map}
use Rattle.std.specs.Prelude.{◌↔◌, IsTrue}
use Rattle.std.proofs.lemmas.Bool.{or_cases, or_left, or_right, false_from_ne_true}
use Rattle.fs_semantics.specs.FileTree.{Path, Entry, Tree, path_cmp, path_eq, is_among, parent, is_dir, is_folder_entry}
use Rattle.fs_semantics.specs.Disjoint.{IsAncestor}

-- the order of paths is total
pub path_total : IsTotalOrder path_cmp
path_total = lists_total (lists_total nat_cmp_total)

-- paths that compare as equal are one
pub path_same : IsAntisymmetric path_cmp
path_same = slice_cmp-IsAntisymmetric (slice_cmp-IsAntisymmetric nat_cmp-IsAntisymmetric)

-- each path is told to be itself
pub path_eq_refl : (p : Path) → path_eq p p ≡ true
path_eq_refl p = ap is_eq (tied_itself path_total p)

-- paths that are told to be one are
pub path_eq_same : (p q : Path) → path_eq p q ≡ true → p ≡ q
path_eq_same p q h = path_same p q ((Equal-is (path_cmp p q)).0 h)

-- different paths are told not to be one
pub path_eq_other : (p q : Path) → p ≢ q → path_eq p q ≡ false
path_eq_other p q h = false_from_ne_true _ (λ e. h (path_eq_same p q e))

-- what is at a path after an insertion
pub at_inserted : (t : Tree) (p : Path) (x : Entry) → map.get (map.insert t p x) p ≡ Some x
at_inserted t p x = get-insert path_total t p x p ∙ ap (λ b. cond b (Some x) (map.get t p)) (path_eq_refl p)

-- to put an entry in keeps those at other paths
pub at_other : (t : Tree) (p q : Path) (x : Entry) → q ≢ p → map.get (map.insert t p x) q ≡ map.get t q
at_other t p q x h = get-insert path_total t p x q ∙ ap (λ b. cond b (Some x) (map.get t q)) (path_eq_other q p h)

-- where an entry was removed there is none
pub at_removed : (t : Tree) (p : Path) → map.get (map.remove t p) p ≡ None
at_removed t p = get-remove path_total t p p ∙ ap (λ b. cond b None (map.get t p)) (path_eq_refl p)

-- to remove an entry keeps those at other paths
pub at_kept : (t : Tree) (p q : Path) → q ≢ p → map.get (map.remove t p) q ≡ map.get t q
at_kept t p q h = get-remove path_total t p q ∙ ap (λ b. cond b None (map.get t q)) (path_eq_other q p h)

-- of two choices by one test the inner one takes the same branch
over : {X : Type 0} (b : Bool) (x y z : X) → cond b x (cond b y z) ≡ cond b x z
over true x y z = refl
over false x y z = refl

-- to insert over what was removed, or over what was inserted, is to insert
pub insert-remove : (t : Tree) (p : Path) (x : Entry) → map.insert (map.remove t p) p x ≡ map.insert t p x
insert-remove t p x = same_map path_total path_same _ _ (λ q.
    get-insert path_total (map.remove t p) p x q ∙ ap (cond (path_eq q p) (Some x)) (get-remove path_total t p q)
    ∙ over (path_eq q p) (Some x) None (map.get t q) ∙ sym (get-insert path_total t p x q))

-- of two entries put in at one path the last counts
pub insert-insert : (t : Tree) (p : Path) (x y : Entry) → map.insert (map.insert t p x) p y ≡ map.insert t p y
insert-insert t p x y = same_map path_total path_same _ _ (λ q.
    get-insert path_total (map.insert t p x) p y q ∙ ap (cond (path_eq q p) (Some y)) (get-insert path_total t p x q)
    ∙ over (path_eq q p) (Some y) (Some x) (map.get t q) ∙ sym (get-insert path_total t p y q))

-- what is there already
here : {X : Type 0} (b : Bool) (x y : X) → (b ≡ true → y ≡ x) → cond b x y ≡ y
here true x y h = sym (h refl)
here false x y h = refl

-- to put in what is there changes nothing
pub insert-same : (t : Tree) (p : Path) (x : Entry) → map.get t p ≡ Some x → map.insert t p x ≡ t
insert-same t p x h = same_map path_total path_same _ _ (λ q.
    get-insert path_total t p x q ∙ here (path_eq q p) (Some x) (map.get t q) (λ e. ap (map.get t) (path_eq_same q p e) ∙ h))

-- of two choices by tests that exclude one another either may come first
either : {X : Type 0} (a b : Bool) (x y z : X) → (a ≡ true → b ≡ true → ⊥) → cond a x (cond b y z) ≡ cond b y (cond a x z)
either true true x y z h = absurd (h refl refl)
either true false x y z h = refl
either false b x y z h = refl

-- insertions at two paths
pub insert-comm : (t : Tree) (p q : Path) (x y : Entry) → p ≢ q → map.insert (map.insert t p x) q y ≡ map.insert (map.insert t q y) p x
insert-comm t p q x y h = same_map path_total path_same _ _ (λ r.
    get-insert path_total (map.insert t p x) q y r ∙ ap (cond (path_eq r q) (Some y)) (get-insert path_total t p x r)
    ∙ either (path_eq r q) (path_eq r p) (Some y) (Some x) (map.get t r) (λ a b. h (sym (path_eq_same r p b) ∙ path_eq_same r q a))
    ∙ sym (get-insert path_total (map.insert t q y) p x r ∙ ap (cond (path_eq r p) (Some x)) (get-insert path_total t q y r)))

-- The parent of a path below the root is a shorter one.
pub parent_above : (s : List ℕ) (p : Path) → (more : Path) × (more ≢ []) × (s ∷ p ≡ parent (s ∷ p) ++ more)
parent_above s [] = (s ∷ [], (λ e. cc), refl)
parent_above s (r ∷ p) = let up = parent_above r p in (up.0, up.1, ap (λ q. s ∷ q) up.2)

-- what stands at a path tells whether it is a folder
pub is_dir_other : (t u : Tree) (q : Path) → map.get u q ≡ map.get t q → is_dir u q ≡ is_dir t q
is_dir_other t u [] h = refl
is_dir_other t u (s ∷ q) h = ap is_folder_entry h

-- no path goes on from itself
append_longer : (p more : Path) → more ≢ [] → p ≡ p ++ more → ⊥
append_longer [] more h e = h (sym e)
append_longer (s ∷ p) more h e = append_longer p more h (cc)

-- no path but the root is its own parent
pub parent_differs : (s : List ℕ) (p : Path) → parent (s ∷ p) ≢ s ∷ p
parent_differs s p e = let up = parent_above s p in append_longer (parent (s ∷ p)) up.0 up.1 (e ∙ up.2)

-- ---- in words

-- paths are told to be one exactly where they are
pub path_eq_word : (p q : Path) → IsTrue (path_eq p q) ↔ (p ≡ q)
path_eq_word p q = (path_eq_same p q, (λ e. ap (λ r. path_eq r q) e ∙ path_eq_refl q))

-- a path is among some exactly where it is the first or among the others
pub among_word : (p q : Path) (ps : List Path) → IsTrue (is_among p (q ∷ ps)) ↔ ((p ≡ q) ⊎ IsTrue (is_among p ps))
among_word p q ps = (
  (λ h. elim (or_cases (path_eq p q) (is_among p ps) h) [ inl e ↦ inl (path_eq_same p q e) | inr k ↦ inr k ]),
  (λ h. elim h [ inl e ↦ or_left _ _ ((path_eq_word p q).1 e) | inr k ↦ or_right _ _ k ]),
)

-- the parent of a path is above it
pub parent_is_above : (p : Path) → p ≢ [] → IsAncestor (parent p) p
parent_is_above [] h = absurd (h refl)
parent_is_above (s ∷ p) h = parent_above s p

-- the parent of a path with one segment more is that path
pub parent_of_child : (p : Path) (s : List ℕ) → parent (p ++ s ∷ []) ≡ p
parent_of_child [] s = refl
parent_of_child (r ∷ []) s = refl
parent_of_child (r ∷ q ∷ p) s = ap (λ v. r ∷ v) (parent_of_child (q ∷ p) s)

-- each path but the root is its parent with one segment more
pub parent_and_last : (p : Path) → p ≢ [] → (s : List ℕ) × (p ≡ parent p ++ s ∷ [])
parent_and_last [] h = absurd (h refl)
parent_and_last (s ∷ []) h = (s, refl)
parent_and_last (s ∷ r ∷ p) h = let more = parent_and_last (r ∷ p) (λ e. cc) in (more.0, ap (λ v. s ∷ v) more.1)
