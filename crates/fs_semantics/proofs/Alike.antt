-- Trees that agree on what a program asks are left in agreement.
use Rattle.std.proofs.Common.{◌≡◌, inl, inr, Bool, true, false, not, cond, ◌&&◌, ◌||◌, [], ◌∷◌, Option, Some, None, refl, sym, ap, subst, ◌∙◌}
use Rattle.std.specs.Prelude.{is_some}
use Rattle.std.specs.List.{list_any}
use Rattle.std.specs.FinMap as map
use Rattle.std.specs.FinMap.{get-insert, get-remove}
use Rattle.fs_semantics.specs.FileTree.{Path, Entry, Folder, File, Link as LinkTo, Tree, parent, path_eq, is_root, is_file, is_link, is_dir, is_none, is_empty_dir, is_file_entry, is_link_entry, is_no_entry}
use Rattle.fs_semantics.specs.Programs.{Test, True, False, Not, And, Or, IsFile, IsLink, IsDir, IsEmpty, IsNone, Program, Programs, Id, Err, Mkdir, Creat, Link, Rm, Cp, Steps, If, none, next, Outcome, and_then, holds, made, removed, copied, run, run_all}
use Rattle.fs_semantics.specs.Changes.{Changes, ChangesInSteps}
use Rattle.fs_semantics.specs.Reads.{TestReads, TestReadsBelow, MakingReads, Reads, StepsRead, ReadsBelow, StepsReadBelow, Agree, AreAlike}
use Rattle.fs_semantics.proofs.Trees.{path_total, path_eq_same, is_dir_other}
use Rattle.fs_semantics.proofs.Keys.{key_from, key_passes, same_bool}

-- a path that is written is asked for
mutual
  -- a program asks about each path that it changes
  pub changes_read : (e : Program) (q : Path) → Changes e q → Reads e q
  changes_read Id q h = h
  changes_read Err q h = h
  changes_read (Mkdir p) q h = inl h
  changes_read (Creat p content) q h = inl h
  changes_read (Link p target) q h = inl h
  changes_read (Rm p) q h = h
  changes_read (Cp from p) q h = inr (inl h)
  changes_read (Steps es) q h = changes_in_steps_read es q h
  changes_read (If a e f) q (inl h) = inr (inl (changes_read e q h))
  changes_read (If a e f) q (inr h) = inr (inr (changes_read f q h))

  -- and so do steps
  changes_in_steps_read : (es : Programs) (q : Path) → ChangesInSteps es q → StepsRead es q
  changes_in_steps_read none q h = h
  changes_in_steps_read (next e es) q (inl h) = inl (changes_read e q h)
  changes_in_steps_read (next e es) q (inr h) = inr (changes_in_steps_read es q h)

-- where two trees have the same entry at a path, both are free there or neither is
none_free : (t u : Tree) (q : Path) → map.get t q ≡ map.get u q → is_none t q ≡ is_none u q
none_free t u [] h = refl
none_free t u (s ∷ q) h = ap is_no_entry h

-- where two entries are there or neither, so it is with a new one over both
some_either : (b : Bool) (x r s : Option Entry) → is_some r ≡ is_some s → is_some (cond b x r) ≡ is_some (cond b x s)
some_either true x r s h = refl
some_either false x r s h = h

-- where two tests say the same, a step behind them ends alike
guarded_alike : (P : Tree → Tree → Type 0) (a b : Bool) (t u : Tree) → a ≡ b → P t u → AreAlike P (cond a (Some t) None) (cond b (Some u) None)
guarded_alike P true true t u e h = h
guarded_alike P true false t u e h = cc
guarded_alike P false true t u e h = cc
guarded_alike P false false t u e h = tt

-- where two tests say the same, and both branches end alike, so does the choice
chosen_alike : (P : Tree → Tree → Type 0) (a b : Bool) (r s v w : Outcome) → a ≡ b → AreAlike P r v → AreAlike P s w → AreAlike P (cond a r s) (cond b v w)
chosen_alike P true true r s v w e h k = h
chosen_alike P true false r s v w e h k = cc
chosen_alike P false true r s v w e h k = cc
chosen_alike P false false r s v w e h k = k

-- where two runs end alike, and so does what follows, they end alike with it
then_both : (P : Tree → Tree → Type 0) (r s : Outcome) (f : Tree → Outcome) → AreAlike P r s → ((t u : Tree) → P t u → AreAlike P (f t) (f u)) → AreAlike P (and_then r f) (and_then s f)
then_both P None None f h k = tt
then_both P None (Some u) f h k = absurd h
then_both P (Some t) None f h k = absurd h
then_both P (Some t) (Some u) f h k = k t u h

module _ (at below : Path → Type 0) where
  -- what is put at a path, or taken from it, is the same in both
  inserted_agree : (t u : Tree) (p : Path) (x : Entry) → Agree at below t u → Agree at below (map.insert t p x) (map.insert u p x)
  inserted_agree t u p x a = record {
    entries = λ q h. get-insert path_total t p x q ∙ ap (cond (path_eq q p) (Some x)) (a.entries q h) ∙ sym (get-insert path_total u p x q);
    children = λ q h. ap is_some (get-insert path_total t p x q) ∙ some_either (path_eq q p) (Some x) (map.get t q) (map.get u q) (a.children q h) ∙ sym (ap is_some (get-insert path_total u p x q));
  }

  -- trees that agree do so without the entry at a path
  removed_agree : (t u : Tree) (p : Path) → Agree at below t u → Agree at below (map.remove t p) (map.remove u p)
  removed_agree t u p a = record {
    entries = λ q h. get-remove path_total t p q ∙ ap (cond (path_eq q p) None) (a.entries q h) ∙ sym (get-remove path_total u p q);
    children = λ q h. ap is_some (get-remove path_total t p q) ∙ some_either (path_eq q p) None (map.get t q) (map.get u q) (a.children q h) ∙ sym (ap is_some (get-remove path_total u p q));
  }

  -- of trees that agree about a path's children, each has a child where the other has one
  child_in : (t u : Tree) (p : Path) → Agree at below t u → below p → list_any (λ q. path_eq (parent q) p) (map.keys t) ≡ true → list_any (λ q. path_eq (parent q) p) (map.keys u) ≡ true
  child_in t u p a h k =
      let child = key_from (λ q. path_eq (parent q) p) t k in
      let up : parent child.0 ≡ p = path_eq_same (parent child.0) p child.2 in
      key_passes (λ q. path_eq (parent q) p) u child.0 (sym (a.children child.0 (subst below (sym up) h)) ∙ child.1) child.2

  -- that two trees agree holds either way round
  turned : (t u : Tree) → Agree at below t u → Agree at below u t
  turned t u a = record { entries = λ q h. sym (a.entries q h); children = λ q h. sym (a.children q h) }

  -- of trees that agree at a path and about its children, both have an empty folder there or neither
  empty_alike : (t u : Tree) (p : Path) → Agree at below t u → at p → below p → is_empty_dir t p ≡ is_empty_dir u p
  empty_alike t u p a h k =
      let dir : is_dir t p ≡ is_dir u p = is_dir_other u t p (a.entries p h) in
      let children : list_any (λ q. path_eq (parent q) p) (map.keys t) ≡ list_any (λ q. path_eq (parent q) p) (map.keys u) =
      same_bool _ _ (child_in t u p a k) (child_in u t p (turned t u a) k) in
      ap (λ b. b && not (list_any (λ q. path_eq (parent q) p) (map.keys t))) dir ∙ ap (λ b. is_dir u p && not b) children

  -- a test says the same in trees that agree on what it asks
  holds_alike : (a : Test) (t u : Tree) → Agree at below t u → ((q : Path) → TestReads a q → at q) → ((q : Path) → TestReadsBelow a q → below q) → holds a t ≡ holds a u
  holds_alike True t u agree h k = refl
  holds_alike False t u agree h k = refl
  holds_alike (Not a) t u agree h k = ap not (holds_alike a t u agree h k)
  holds_alike (And a b) t u agree h k =
      ap (λ x. x && holds b t) (holds_alike a t u agree (λ q i. h q (inl i)) (λ q i. k q (inl i)))
      ∙ ap (λ x. holds a u && x) (holds_alike b t u agree (λ q i. h q (inr i)) (λ q i. k q (inr i)))
  holds_alike (Or a b) t u agree h k =
      ap (λ x. x || holds b t) (holds_alike a t u agree (λ q i. h q (inl i)) (λ q i. k q (inl i)))
      ∙ ap (λ x. holds a u || x) (holds_alike b t u agree (λ q i. h q (inr i)) (λ q i. k q (inr i)))
  holds_alike (IsFile p) t u agree h k = ap is_file_entry (agree.entries p (h p refl))
  holds_alike (IsLink p) t u agree h k = ap is_link_entry (agree.entries p (h p refl))
  holds_alike (IsDir p) t u agree h k = is_dir_other u t p (agree.entries p (h p refl))
  holds_alike (IsEmpty p) t u agree h k = empty_alike t u p agree (h p refl) (k p refl)
  holds_alike (IsNone p) t u agree h k = none_free t u p (agree.entries p (h p refl))

  -- making an entry ends alike from trees that agree on its place and its parent
  made_alike : (t u : Tree) (p : Path) (x : Entry) → Agree at below t u → ((q : Path) → MakingReads p q → at q) → AreAlike (Agree at below) (made p x t) (made p x u)
  made_alike t u p x a h =
      let free : is_none t p ≡ is_none u p = none_free t u p (a.entries p (h p (inl refl))) in
      let above : is_dir t (parent p) ≡ is_dir u (parent p) = is_dir_other u t (parent p) (a.entries (parent p) (h (parent p) (inr refl))) in
      guarded_alike (Agree at below) (is_none t p && is_dir t (parent p)) (is_none u p && is_dir u (parent p)) (map.insert t p x) (map.insert u p x)
      (ap (λ b. b && is_dir t (parent p)) free ∙ ap (λ b. is_none u p && b) above) (inserted_agree t u p x a)

  -- removing an entry ends alike from trees that agree on it and its children
  removed_alike : (t u : Tree) (p : Path) → Agree at below t u → at p → below p → AreAlike (Agree at below) (removed p t) (removed p u)
  removed_alike t u p a h k =
      let file : is_file t p ≡ is_file u p = ap is_file_entry (a.entries p h) in
      let link : is_link t p ≡ is_link u p = ap is_link_entry (a.entries p h) in
      let empty : is_empty_dir t p ≡ is_empty_dir u p = empty_alike t u p a h k in
      guarded_alike (Agree at below) (is_file t p || is_link t p || (not (is_root p) && is_empty_dir t p)) (is_file u p || is_link u p || (not (is_root p) && is_empty_dir u p))
      (map.remove t p) (map.remove u p)
      (ap (λ b. b || is_link t p || (not (is_root p) && is_empty_dir t p)) file ∙ ap (λ b. is_file u p || b || (not (is_root p) && is_empty_dir t p)) link
      ∙ ap (λ b. is_file u p || is_link u p || (not (is_root p) && b)) empty)
      (removed_agree t u p a)

  -- copying the same entry ends alike from trees that agree on the new place and its parent
  copied_alike : (r : Option Entry) (t u : Tree) (p : Path) → Agree at below t u → ((q : Path) → MakingReads p q → at q) → AreAlike (Agree at below) (copied r p t) (copied r p u)
  copied_alike None t u p a h = tt
  copied_alike (Some Folder) t u p a h = tt
  copied_alike (Some (File content)) t u p a h = made_alike t u p (File content) a h
  copied_alike (Some (LinkTo target)) t u p a h = tt

  mutual
    -- a program ends alike from trees that agree on what it asks
    run_alike : (e : Program) (t u : Tree) → Agree at below t u → ((q : Path) → Reads e q → at q) → ((q : Path) → ReadsBelow e q → below q) → AreAlike (Agree at below) (run e t) (run e u)
    run_alike Id t u a h k = a
    run_alike Err t u a h k = tt
    run_alike (Mkdir p) t u a h k = made_alike t u p Folder a h
    run_alike (Creat p content) t u a h k = made_alike t u p (File content) a h
    run_alike (Link p target) t u a h k = made_alike t u p (LinkTo target) a h
    run_alike (Rm p) t u a h k = removed_alike t u p a (h p refl) (k p refl)
    run_alike (Cp from p) t u a h k =
        subst (λ r. AreAlike (Agree at below) (copied (map.get t from) p t) (copied r p u)) (a.entries from (h from (inl refl)))
        (copied_alike (map.get t from) t u p a (λ q i. h q (inr i)))
    run_alike (Steps es) t u a h k = steps_alike es t u a h k
    run_alike (If c e f) t u a h k =
        chosen_alike (Agree at below) (holds c t) (holds c u) (run e t) (run f t) (run e u) (run f u)
        (holds_alike c t u a (λ q i. h q (inl i)) (λ q i. k q (inl i)))
        (run_alike e t u a (λ q i. h q (inr (inl i))) (λ q i. k q (inr (inl i))))
        (run_alike f t u a (λ q i. h q (inr (inr i))) (λ q i. k q (inr (inr i))))

    -- and so do steps
    steps_alike : (es : Programs) (t u : Tree) → Agree at below t u → ((q : Path) → StepsRead es q → at q) → ((q : Path) → StepsReadBelow es q → below q) → AreAlike (Agree at below) (run_all es t) (run_all es u)
    steps_alike none t u a h k = a
    steps_alike (next e es) t u a h k =
        then_both (Agree at below) (run e t) (run e u) (run_all es) (run_alike e t u a (λ q i. h q (inl i)) (λ q i. k q (inl i)))
        (λ v w b. steps_alike es v w b (λ q i. h q (inr i)) (λ q i. k q (inr i)))

-- trees that agree on what a program asks are left in agreement on it
pub alike_where_read : (e : Program) (t u : Tree) → Agree (Reads e) (ReadsBelow e) t u → AreAlike (Agree (Reads e) (ReadsBelow e)) (run e t) (run e u)
alike_where_read e t u a = run_alike (Reads e) (ReadsBelow e) e t u a (λ q h. h) (λ q h. h)
