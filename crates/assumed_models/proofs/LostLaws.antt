-- What becomes of a program in which edits are lost.
use Rattle.std.proofs.Common.{◌≡◌, ◌≢◌, ◌⊎◌, inl, inr, Bool, true, false, List, [], ◌∷◌, ◌++◌, Option, Some, refl, sym, ap, ap₂, subst, ◌∙◌}
use Rattle.std.specs.Prelude.{◌↔◌, IsTrue}
use Rattle.std.specs.List.{flat_map}
use Rattle.std.specs.FinMap as finite
use Rattle.fs_semantics.specs.FileTree.{Path, Tree, path_eq}
use Rattle.fs_semantics.specs.Entries.{IsFileAt}
use Rattle.fs_semantics.specs.Programs.{Test, Program, Programs, Id, Err, Mkdir, Creat, Link, Rm, Cp, Steps, If, none, next, run, run_all}
use Rattle.fs_semantics.specs.Changes.{Changes, ChangesInSteps}
use Rattle.model_semantics.specs.Words.{steps, sequence, drop_file}
use Rattle.assumed_models.specs.LostEdits.{Writes, WritesInSteps, IsOneOf, LosesOne, drops, drops_behind, ahead, inside, all_inside, lost_steps, with_lost_edits}
use Rattle.fs_semantics.proofs.ConstructLaws.{split_then}

-- ---- steps as lists

-- programs of a list ahead of others are steps ahead of steps
ahead_is : (fs : List Program) (es : List Program) → steps (fs ++ es) ≡ ahead fs (steps es)
ahead_is [] es = refl
ahead_is (f ∷ fs) es = ap (next f) (ahead_is fs es)

-- the steps of a list in which edits are lost are those steps with edits lost
pub steps_lost : (marks : Path → List Path) (es : List Program) → steps (flat_map (lost_steps marks) es) ≡ all_inside marks (steps es)
steps_lost marks [] = refl
steps_lost marks (e ∷ es) = ap (next (inside marks e)) (ahead_is (drops_behind marks e) (flat_map (lost_steps marks) es) ∙ ap (ahead (drops_behind marks e)) (steps_lost marks es))

-- ---- where nothing that is written is edited

-- nothing follows a construct that writes no path with an edit
no_drops : (marks : Path → List Path) (e : Program) → ((p : Path) → Writes e p → marks p ≡ []) → drops_behind marks e ≡ []
no_drops marks Id h = refl
no_drops marks Err h = refl
no_drops marks (Mkdir p) h = refl
no_drops marks (Creat p content) h = ap drops (h p refl)
no_drops marks (Link p target) h = ap drops (h p refl)
no_drops marks (Rm p) h = ap drops (h p refl)
no_drops marks (Cp from p) h = ap drops (h p refl)
no_drops marks (Steps es) h = refl
no_drops marks (If a e f) h = refl

-- a construct that stays and has nothing behind it stays as a whole
alone : (marks : Path → List Path) (e : Program) → inside marks e ≡ e → drops_behind marks e ≡ [] → sequence (inside marks e ∷ drops_behind marks e) ≡ e
alone marks e same nothing = ap (λ l. sequence (inside marks e ∷ l)) nothing ∙ same

mutual
  -- a program that writes no path with an edit stays
  same_inside : (marks : Path → List Path) (e : Program) → ((p : Path) → Writes e p → marks p ≡ []) → inside marks e ≡ e
  same_inside marks Id h = refl
  same_inside marks Err h = refl
  same_inside marks (Mkdir p) h = refl
  same_inside marks (Creat p content) h = refl
  same_inside marks (Link p target) h = refl
  same_inside marks (Rm p) h = refl
  same_inside marks (Cp from p) h = refl
  same_inside marks (Steps es) h = ap Steps (same_steps marks es h)
  same_inside marks (If a e f) h =
      ap₂ (If a) (alone marks e (same_inside marks e (λ p w. h p (inl w))) (no_drops marks e (λ p w. h p (inl w)))) (alone marks f (same_inside marks f (λ p w. h p (inr w))) (no_drops marks f (λ p w. h p (inr w))))

  -- and so do steps
  same_steps : (marks : Path → List Path) (es : Programs) → ((p : Path) → WritesInSteps es p → marks p ≡ []) → all_inside marks es ≡ es
  same_steps marks none h = refl
  same_steps marks (next e es) h =
      ap₂ (λ x l. next x (ahead l (all_inside marks es))) (same_inside marks e (λ p w. h p (inl w))) (no_drops marks e (λ p w. h p (inl w)))
      ∙ ap (next e) (same_steps marks es (λ p w. h p (inr w)))

-- such a program loses no edits
pub nothing_lost : (marks : Path → List Path) (e : Program) → ((p : Path) → Writes e p → marks p ≡ []) → with_lost_edits marks e ≡ e
nothing_lost marks e h = alone marks e (same_inside marks e h) (no_drops marks e h)

-- ---- what is changed

-- one of these programs changes the path
abbrev AnyChanges : List Program → Path → Type 0
AnyChanges [] q = ⊥
AnyChanges (e ∷ es) q = Changes e q ⊎ AnyChanges es q

-- what steps change one of them does
in_steps : (es : List Program) (q : Path) → ChangesInSteps (steps es) q → AnyChanges es q
in_steps [] q h = h
in_steps (e ∷ es) q (inl h) = inl h
in_steps (e ∷ es) q (inr h) = inr (in_steps es q h)

-- and so it is with a sequence
in_sequence : (es : List Program) (q : Path) → Changes (sequence es) q → AnyChanges es q
in_sequence [] q h = h
in_sequence (e ∷ []) q h = inl h
in_sequence (e ∷ f ∷ es) q h = in_steps (e ∷ f ∷ es) q h

-- drops change only the marks that they drop
in_drops : (ms : List Path) (q : Path) → AnyChanges (drops ms) q → IsOneOf q ms
in_drops [] q h = h
in_drops (m ∷ ms) q (inl (inl h)) = inl h
in_drops (m ∷ ms) q (inl (inr h)) = absurd h
in_drops (m ∷ ms) q (inr h) = inr (in_drops ms q h)

-- what follows a construct changes only marks of paths that it writes
behind_changes : (marks : Path → List Path) (e : Program) (q : Path) → AnyChanges (drops_behind marks e) q → LosesOne marks e q
behind_changes marks Id q h = absurd h
behind_changes marks Err q h = absurd h
behind_changes marks (Mkdir p) q h = absurd h
behind_changes marks (Creat p content) q h = (p, refl, in_drops (marks p) q h)
behind_changes marks (Link p target) q h = (p, refl, in_drops (marks p) q h)
behind_changes marks (Rm p) q h = (p, refl, in_drops (marks p) q h)
behind_changes marks (Cp from p) q h = (p, refl, in_drops (marks p) q h)
behind_changes marks (Steps es) q h = absurd h
behind_changes marks (If a e f) q h = absurd h

-- what steps ahead of others change the ones or the others do
in_ahead : (fs : List Program) (es : Programs) (q : Path) → ChangesInSteps (ahead fs es) q → AnyChanges fs q ⊎ ChangesInSteps es q
in_ahead [] es q h = inr h
in_ahead (f ∷ fs) es q (inl h) = inl (inl h)
in_ahead (f ∷ fs) es q (inr h) = either (in_ahead fs es q h)
  where
    either : AnyChanges fs q ⊎ ChangesInSteps es q → (Changes f q ⊎ AnyChanges fs q) ⊎ ChangesInSteps es q
    either (inl k) = inl (inr k)
    either (inr k) = inr k

-- a change by one of two constructs is one by both
by_left : (marks : Path → List Path) (a : Test) (e f : Program) (q : Path) → Changes e q ⊎ LosesOne marks e q → Changes (If a e f) q ⊎ LosesOne marks (If a e f) q
by_left marks a e f q (inl h) = inl (inl h)
by_left marks a e f q (inr l) = inr (l.0, inl l.1, l.2)

-- and so is one by the other
by_right : (marks : Path → List Path) (a : Test) (e f : Program) (q : Path) → Changes f q ⊎ LosesOne marks f q → Changes (If a e f) q ⊎ LosesOne marks (If a e f) q
by_right marks a e f q (inl h) = inl (inr h)
by_right marks a e f q (inr l) = inr (l.0, inr l.1, l.2)

-- the path is a mark of a path that one of the steps writes
abbrev LosesInSteps : (Path → List Path) → Programs → Path → Type 0
LosesInSteps marks es q = (p : Path) × WritesInSteps es p × IsOneOf q (marks p)

-- what the first step changes or loses all do
first_of : (marks : Path → List Path) (e : Program) (es : Programs) (q : Path) → Changes e q ⊎ LosesOne marks e q → ChangesInSteps (next e es) q ⊎ LosesInSteps marks (next e es) q
first_of marks e es q (inl h) = inl (inl h)
first_of marks e es q (inr l) = inr (l.0, inl l.1, l.2)

-- and so is what the others do
rest_of : (marks : Path → List Path) (e : Program) (es : Programs) (q : Path) → ChangesInSteps es q ⊎ LosesInSteps marks es q → ChangesInSteps (next e es) q ⊎ LosesInSteps marks (next e es) q
rest_of marks e es q (inl h) = inl (inr h)
rest_of marks e es q (inr l) = inr (l.0, inr l.1, l.2)

-- what a construct with its drops changes it does itself, or it is a mark that it loses
together : (marks : Path → List Path) (e : Program) (q : Path) → (Changes (inside marks e) q → Changes e q ⊎ LosesOne marks e q) → AnyChanges (lost_steps marks e) q → Changes e q ⊎ LosesOne marks e q
together marks e q f (inl h) = f h
together marks e q f (inr h) = inr (behind_changes marks e q h)

mutual
  -- and so it is with what stands in the construct
  inside_changes : (marks : Path → List Path) (e : Program) (q : Path) → Changes (inside marks e) q → Changes e q ⊎ LosesOne marks e q
  inside_changes marks Id q h = inl h
  inside_changes marks Err q h = inl h
  inside_changes marks (Mkdir p) q h = inl h
  inside_changes marks (Creat p content) q h = inl h
  inside_changes marks (Link p target) q h = inl h
  inside_changes marks (Rm p) q h = inl h
  inside_changes marks (Cp from p) q h = inl h
  inside_changes marks (Steps es) q h = steps_change marks es q h
  inside_changes marks (If a e f) q (inl h) = by_left marks a e f q (together marks e q (inside_changes marks e q) (in_sequence (lost_steps marks e) q h))
  inside_changes marks (If a e f) q (inr h) = by_right marks a e f q (together marks f q (inside_changes marks f q) (in_sequence (lost_steps marks f) q h))

  -- and with steps
  steps_change : (marks : Path → List Path) (es : Programs) (q : Path) → ChangesInSteps (all_inside marks es) q → ChangesInSteps es q ⊎ LosesInSteps marks es q
  steps_change marks none q h = inl h
  steps_change marks (next e es) q (inl h) = first_of marks e es q (inside_changes marks e q h)
  steps_change marks (next e es) q (inr h) = at (in_ahead (drops_behind marks e) (all_inside marks es) q h) (steps_change marks es q)
    where
      at : AnyChanges (drops_behind marks e) q ⊎ ChangesInSteps (all_inside marks es) q → (ChangesInSteps (all_inside marks es) q → ChangesInSteps es q ⊎ LosesInSteps marks es q)
          → ChangesInSteps (next e es) q ⊎ LosesInSteps marks (next e es) q
      at (inl k) more = first_of marks e es q (inr (behind_changes marks e q k))
      at (inr k) more = rest_of marks e es q (more k)

-- the program with lost edits changes only what the program does, and the marks that it loses
pub changes_or_lost : (marks : Path → List Path) (e : Program) (q : Path) → Changes (with_lost_edits marks e) q → Changes e q ⊎ LosesOne marks e q
changes_or_lost marks e q h = together marks e q (inside_changes marks e q) (in_sequence (lost_steps marks e) q h)

-- ---- no mark stands behind what writes the file

-- a drop changes no other path
no_other : (m q : Path) → m ≢ q → Changes (drop_file q) m → ⊥
no_other m q n (inl h) = n h
no_other m q n (inr h) = h

-- the laws that these proofs go by
pub record Laws : Type 0 where
  pub drop : (p : Path) (t u : Tree) → run (drop_file p) t ≡ Some u → IsFileAt u p → ⊥
  pub steps : (es : List Program) (t : Tree) → run (sequence es) t ≡ run_all (steps es) t
  pub kept : (e : Program) (t u : Tree) (q : Path) → run e t ≡ Some u → (Changes e q → ⊥) → finite.get u q ≡ finite.get t q
  pub same : (p q : Path) → IsTrue (path_eq p q) ↔ (p ≡ q)

module _ (laws : Laws) where
  -- where no file stands, none is made by a drop
  stays_gone : (m q : Path) (t u : Tree) → run (drop_file q) t ≡ Some u → (IsFileAt t m → ⊥) → IsFileAt u m → ⊥
  stays_gone m q t u h gone there = at (path_eq m q) refl
    where
      at : (b : Bool) → path_eq m q ≡ b → ⊥
      at true e = laws.drop q t u h (subst (IsFileAt u) ((laws.same m q).0 e) there)
      at false e = gone (there.0, sym (laws.kept (drop_file q) t u m h (no_other m q (λ s. differ (sym ((laws.same m q).1 s) ∙ e)))) ∙ there.1)
        where
          differ : true ≡ false → ⊥
          differ e = cc

  -- where no file stands, none is made by drops
  all_stay_gone : (m : Path) (ms : List Path) (t u : Tree) → run_all (steps (drops ms)) t ≡ Some u → (IsFileAt t m → ⊥) → IsFileAt u m → ⊥
  all_stay_gone m [] t u h gone there = gone (subst (λ v. IsFileAt v m) (same_tree t u h) there)
    where
      same_tree : (t u : Tree) → ◌≡◌ {A = Option Tree} (Some t) (Some u) → u ≡ t
      same_tree t u h = cc
  all_stay_gone m (q ∷ ms) t u h gone there =
      let v = split_then (run (drop_file q) t) (run_all (steps (drops ms))) u h in
      all_stay_gone m ms v.0 u v.2 (stays_gone m q t v.0 v.1 gone) there

  -- behind drops no file stands at one of their paths
  all_gone : (m : Path) (ms : List Path) (t u : Tree) → IsOneOf m ms → run_all (steps (drops ms)) t ≡ Some u → IsFileAt u m → ⊥
  all_gone m [] t u one h there = one
  all_gone m (q ∷ ms) t u (inl e) h there =
      let v = split_then (run (drop_file q) t) (run_all (steps (drops ms))) u h in
      all_stay_gone m ms v.0 u v.2 (λ here. laws.drop q t v.0 v.1 (subst (IsFileAt v.0) e here)) there
  all_gone m (q ∷ ms) t u (inr later) h there =
      let v = split_then (run (drop_file q) t) (run_all (steps (drops ms))) u h in
      all_gone m ms v.0 u later v.2 there

  -- behind a program and drops no file stands at one of the marks
  pub lost : (e : Program) (ms : List Path) (t u : Tree) → run (sequence (e ∷ drops ms)) t ≡ Some u → (m : Path) → IsOneOf m ms → IsFileAt u m → ⊥
  lost e ms t u h m one there =
      let v = split_then (run e t) (run_all (steps (drops ms))) u (sym (laws.steps (e ∷ drops ms) t) ∙ h) in
      all_gone m ms v.0 u one v.2 there
