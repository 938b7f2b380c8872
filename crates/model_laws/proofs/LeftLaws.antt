-- What the words leave, by the laws of the constructs.
use Rattle.std.proofs.Common.{◌≡◌, ◌≢◌, ◌⊎◌, inl, inr, ℕ, List, Option, Some, None, refl, sym, ap, subst, ◌∙◌}
use Rattle.std.specs.Prelude.{◌↔◌, IsTrue}
use Rattle.std.specs.FinMap as map
use Rattle.fs_semantics.specs.FileTree as fs
use Rattle.fs_semantics.specs.FileTree.{Path, Folder, File, Tree}
use Rattle.fs_semantics.specs.Entries.{IsFileAt, IsFolderAt, Makes, Removes}
use Rattle.fs_semantics.specs.Programs.{Test, Program, Programs, Id, Err, Mkdir, Creat, Rm, Steps, If, IsFile, IsDir, none, next, holds, run}
use Rattle.fs_semantics.specs.Changes.{Changes}
use Rattle.model_semantics.specs.Words.{dir, put, drop_file, need}

-- the first branch ran where the test held, else the second, and ended in this tree
abbrev pub Chosen : Test → Program → Program → Tree → Tree → Type 0
Chosen a e f t u = (IsTrue (holds a t) × (run e t ≡ Some u)) ⊎ ((IsTrue (holds a t) → ⊥) × (run f t ≡ Some u))

-- the laws that these proofs go by
pub record Laws : Type 0 where
  pub id : (t u : Tree) → (run Id t ≡ Some u) ↔ (t ≡ u)
  pub err : (t : Tree) → run Err t ≡ None
  pub mkdir : (p : Path) (t u : Tree) → (run (Mkdir p) t ≡ Some u) ↔ Makes p Folder t u
  pub creat : (p : Path) (content : List ℕ) (t u : Tree) → (run (Creat p content) t ≡ Some u) ↔ Makes p (File content) t u
  pub rm : (p : Path) (t u : Tree) → (run (Rm p) t ≡ Some u) ↔ Removes p t u
  pub no_steps : (t u : Tree) → (run (Steps none) t ≡ Some u) ↔ (t ≡ u)
  pub steps : (e : Program) (es : Programs) (t v : Tree) → (run (Steps (next e es)) t ≡ Some v) ↔ ((u : Tree) × (run e t ≡ Some u) × (run (Steps es) u ≡ Some v))
  pub choice : (a : Test) (e f : Program) (t u : Tree) → (run (If a e f) t ≡ Some u) ↔ Chosen a e f t u
  pub file : (p : Path) (t : Tree) → IsTrue (holds (IsFile p) t) ↔ IsFileAt t p
  pub folder : (p : Path) (t : Tree) → IsTrue (holds (IsDir p) t) ↔ IsFolderAt t p

-- Error is no tree
no_tree : (u : Tree) → ◌≡◌ {A = Option Tree} None (Some u) → ⊥
no_tree u h = cc

-- where nothing is no file is
no_file : (o : Option fs.Entry) (content : List ℕ) → o ≡ None → o ≡ Some (File content) → ⊥
no_file o content e f = let clash : ◌≡◌ {A = Option fs.Entry} None (Some (File content)) = sym e ∙ f in cc

module _ (laws : Laws) where
  -- a folder that is made sure of stands behind it
  pub dir_leaves : (p : Path) (t u : Tree) → run (dir p) t ≡ Some u → IsFolderAt u p
  dir_leaves p t u h = at ((laws.choice (IsDir p) Id (Mkdir p) t u).0 h)
    where
      at : Chosen (IsDir p) Id (Mkdir p) t u → IsFolderAt u p
      at (inl (is, e)) = subst (λ v. IsFolderAt v p) ((laws.id t u).0 e) ((laws.folder p t).0 is)
      at (inr (is, e)) = inr (((laws.mkdir p t u).0 e).leaves.here)

  -- where it stood nothing changes
  pub dir_there : (p : Path) (t : Tree) → IsFolderAt t p → run (dir p) t ≡ Some t
  dir_there p t h = (laws.choice (IsDir p) Id (Mkdir p) t t).1 (inl ((laws.folder p t).1 h, (laws.id t t).1 refl))

  -- what two steps leave
  two : (e f : Program) (t v : Tree) → run (Steps (next e (next f none))) t ≡ Some v → (u : Tree) × (run e t ≡ Some u) × (run f u ≡ Some v)
  two e f t v h =
      let first = (laws.steps e (next f none) t v).0 h in
      let second = (laws.steps f none first.0 v).0 first.2 in
      (first.0, first.1, second.1 ∙ ap (λ w. Some w) ((laws.no_steps second.0 v).0 second.2))

  -- a file that is put stands there with its content
  pub put_leaves : (p : Path) (content : List ℕ) (t u : Tree) → run (put p content) t ≡ Some u → map.get u p ≡ Some (File content)
  put_leaves p content t u h = at ((laws.choice (IsFile p) (Steps (next (Rm p) (next (Creat p content) none))) (Creat p content) t u).0 h)
    where
      at : Chosen (IsFile p) (Steps (next (Rm p) (next (Creat p content) none))) (Creat p content) t u → map.get u p ≡ Some (File content)
      at (inl (is, e)) = let parts = two (Rm p) (Creat p content) t u e in ((laws.creat p content parts.0 u).0 parts.2).leaves.here
      at (inr (is, e)) = ((laws.creat p content t u).0 e).leaves.here

  -- a file that is dropped doesn't stand there
  pub drop_leaves : (p : Path) (t u : Tree) → run (drop_file p) t ≡ Some u → IsFileAt u p → ⊥
  drop_leaves p t u h (content, there) = at ((laws.choice (IsFile p) (Rm p) Id t u).0 h)
    where
      at : Chosen (IsFile p) (Rm p) Id t u → ⊥
      at (inl (is, e)) = no_file (map.get u p) content (((laws.rm p t u).0 e).leaves.here) there
      at (inr (is, e)) = is ((laws.file p t).1 (content, ap (λ v. map.get v p) ((laws.id t u).0 e) ∙ there))

  -- the need of a file ends in a tree exactly where the file stands, and changes nothing
  pub need_where : (m : Path) (t u : Tree) → (run (need m) t ≡ Some u) ↔ ((t ≡ u) × IsFileAt t m)
  need_where m t u = ((λ h. at ((laws.choice (IsFile m) Id Err t u).0 h)), (λ h. (laws.choice (IsFile m) Id Err t u).1 (inl ((laws.file m t).1 h.1, (laws.id t u).1 h.0))))
    where
      at : Chosen (IsFile m) Id Err t u → (t ≡ u) × IsFileAt t m
      at (inl (is, e)) = ((laws.id t u).0 e, (laws.file m t).0 is)
      at (inr (is, e)) = absurd (no_tree u (sym (laws.err t) ∙ e))

-- ---- what is changed

-- a folder that is made sure of is the one change
pub dir_changes : (p q : Path) → q ≢ p → Changes (dir p) q → ⊥
dir_changes p q n (inl h) = h
dir_changes p q n (inr h) = n h

-- a file that is put is the one change
pub put_changes : (p q : Path) (content : List ℕ) → q ≢ p → Changes (put p content) q → ⊥
put_changes p q content n (inl (inl h)) = n h
put_changes p q content n (inl (inr (inl h))) = n h
put_changes p q content n (inl (inr (inr h))) = h
put_changes p q content n (inr h) = n h
