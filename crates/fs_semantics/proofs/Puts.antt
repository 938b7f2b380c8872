-- What `put` does to a tree, and that two of them at disjoint paths commute.
use Rattle.std.proofs.Common.{◌≡◌, ◌≢◌, ℕ, Bool, true, false, cond, ◌&&◌, ◌||◌, List, ◌∷◌, Option, Some, None, refl, sym, ap, subst, ◌∙◌}
use Rattle.std.specs.FinMap as map
use Rattle.fs_semantics.specs.FileTree.{Path, Entry, Folder, File, Link as LinkTo, Tree, parent, is_dir, is_file_entry, is_no_entry}
use Rattle.fs_semantics.specs.Programs.{Outcome, and_then, run}
use Rattle.fs_semantics.specs.Models.{put}
use Rattle.fs_semantics.proofs.Trees.{at_inserted, at_other, at_removed, at_kept, insert-remove, insert-insert, insert-comm, parent_differs, is_dir_other}
use Rattle.fs_semantics.proofs.ConstructLaws.{guarded}

-- the path is free or a file, and its parent is a folder
abbrev pub can_put : Path → Tree → Bool
can_put p t = (is_no_entry (map.get t p) || is_file_entry (map.get t p)) && is_dir t (parent p)

-- to put a file, as one step: a new entry where it can be put, else Error
abbrev pub put_step : Path → List ℕ → Tree → Outcome
put_step p content t = cond (can_put p t) (Some (map.insert t p (File content))) None

-- what ends stays as it is when nothing follows
then_done : (b : Bool) (u : Tree) → and_then (cond b (Some u) None) (λ t. Some t) ≡ cond b (Some u) None
then_done true u = refl
then_done false u = refl

-- over a file that is there, `put` is that step
put_over : (s : List ℕ) (p : Path) (content old : List ℕ) (t : Tree) → map.get t (s ∷ p) ≡ Some (File old) → run (put (s ∷ p) content) t ≡ put_step (s ∷ p) content t
put_over s p content old t h =
    let rest : map.get (map.remove t (s ∷ p)) (s ∷ p) ≡ None = at_removed t (s ∷ p) in
    let above : is_dir (map.remove t (s ∷ p)) (parent (s ∷ p)) ≡ is_dir t (parent (s ∷ p)) = is_dir_other _ _ (parent (s ∷ p)) (at_kept t (s ∷ p) _ (parent_differs s p)) in
    rw (h, rest, above, insert-remove t (s ∷ p) (File content)) (then_done _ _)

-- whatever stands at the path, `put` is that step
put_by : (s : List ℕ) (p : Path) (content : List ℕ) (t : Tree) (e : Option Entry) → map.get t (s ∷ p) ≡ e → run (put (s ∷ p) content) t ≡ put_step (s ∷ p) content t
put_by s p content t None h = rw h
put_by s p content t (Some Folder) h = rw h
put_by s p content t (Some (File old)) h = put_over s p content old t h
put_by s p content t (Some (LinkTo target)) h = rw h

-- `put` is one step
pub put_is : (s : List ℕ) (p : Path) (content : List ℕ) (t : Tree) → run (put (s ∷ p) content) t ≡ put_step (s ∷ p) content t
put_is s p content t = put_by s p content t _ refl

-- a step elsewhere leaves whether a step can be made
pub can_put_other : (p q : Path) (x : Entry) (t : Tree) → p ≢ q → parent p ≢ q → can_put p (map.insert t q x) ≡ can_put p t
can_put_other p q x t h k =
    let same : map.get (map.insert t q x) p ≡ map.get t p = at_other t q p x h in
    let above : is_dir (map.insert t q x) (parent p) ≡ is_dir t (parent p) = is_dir_other _ _ (parent p) (at_other t q (parent p) x k) in
    rw (same, above)

-- two tests ahead of one step may be made in either order
two_tests : (a b : Bool) (x y : Tree) → x ≡ y → cond a (cond b (Some x) None) None ≡ cond b (cond a (Some y) None) None
two_tests true true x y h = ap (λ t. Some t) h
two_tests true false x y h = refl
two_tests false true x y h = refl
two_tests false false x y h = refl

-- what follows a step that is made where a test is true
then_step : (b : Bool) (t : Tree) (f : Tree → Outcome) → and_then (cond b (Some t) None) f ≡ cond b (f t) None
then_step true t f = refl
then_step false t f = refl

-- two such steps at different paths, neither of which is the other's parent, commute
pub steps_commute : (p q : Path) (c d : List ℕ) (t : Tree) → p ≢ q → parent p ≢ q → parent q ≢ p
    → and_then (put_step p c t) (put_step q d) ≡ and_then (put_step q d t) (put_step p c)
steps_commute p q c d t h k l =
    then_step (can_put p t) (map.insert t p (File c)) (put_step q d) ∙ ap (λ b. cond (can_put p t) (cond b (Some (map.insert (map.insert t p (File c)) q (File d))) None) None) (can_put_other q p (File c) t (λ e. h (sym e)) l)
    ∙ two_tests (can_put p t) (can_put q t) _ _ (insert-comm t p q (File c) (File d) h)
    ∙ sym (then_step (can_put q t) (map.insert t q (File d)) (put_step p c) ∙ ap (λ b. cond (can_put q t) (cond b (Some (map.insert (map.insert t q (File d)) p (File c))) None) None) (can_put_other p q (File d) t h k))

-- of a conjunction that is true the right side is true
pub and_right : (a b : Bool) → (a && b) ≡ true → b ≡ true
and_right true b h = h
and_right false b h = cc

-- a second step changes nothing
pub step_again : (s : List ℕ) (p : Path) (c : List ℕ) (t u : Tree) → put_step (s ∷ p) c t ≡ Some u → put_step (s ∷ p) c u ≡ Some u
step_again s p c t u h =
    let done = guarded (can_put (s ∷ p) t) (map.insert t (s ∷ p) (File c)) u h in
    let there : map.get (map.insert t (s ∷ p) (File c)) (s ∷ p) ≡ Some (File c) = at_inserted t (s ∷ p) (File c) in
    let above : is_dir (map.insert t (s ∷ p) (File c)) (parent (s ∷ p)) ≡ is_dir t (parent (s ∷ p)) = is_dir_other _ _ (parent (s ∷ p)) (at_other t (s ∷ p) _ (File c) (parent_differs s p)) in
    let folder : is_dir t (parent (s ∷ p)) ≡ true = and_right _ _ done.0 in
    let still : put_step (s ∷ p) c (map.insert t (s ∷ p) (File c)) ≡ Some (map.insert t (s ∷ p) (File c)) =
    rw (there, above, folder) (ap (λ t. Some t) (insert-insert t (s ∷ p) (File c) (File c))) in
    subst (λ v. put_step (s ∷ p) c v ≡ Some v) done.1 still
