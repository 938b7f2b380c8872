-- What a program makes of cells that stand for a tree stands for what it makes of the tree.
use Rattle.std.proofs.Common.{◌≡◌, ◌≢◌, inl, inr, ℕ, ◌==◌, Bool, true, false, cond, List, [], ◌∷◌, Option, Some, None, refl, sym, ap, subst, ◌∙◌, eqb-true}
use Rattle.std.proofs.lemmas.Bool.{eqb-false, or_right, or_from}
use Rattle.std.specs.Prelude.{not, ◌&&◌, ◌||◌, slice_get}
use Rattle.std.specs.FinMap as map
use Rattle.fs_semantics.specs.FileTree.{Path, Entry, Folder, File, Link as LinkTo, Tree, parent, is_root, is_file_entry, is_link_entry, is_folder_entry, is_file, is_link, is_dir, is_none, is_empty_dir}
use Rattle.fs_semantics.specs.Programs.{Program, Programs, Id, Err, Mkdir, Creat, Link, Rm, Cp, Steps, If, none, next, Outcome, and_then, made, removed, copied, holds, run, run_all}
use Rattle.fs_semantics.proofs.Trees.{at_inserted, at_other, at_removed, at_kept}
use Rattle.fs_interpreter.specs.Places.{Listed, IsTable, HasPath, Covers, CoversSteps, place_in, children_in, number_in, or_zero}
use Rattle.fs_interpreter.specs.States.{Cell, State}
use Rattle.fs_interpreter.specs.Steps.{file_at, any_present, free_at, with_cell, failed, put, removed_at, copied_at, folder_cell, file_cell, link_cell, stepped, all_stepped}
use Rattle.fs_interpreter.specs.Standing.{Tells, Stands, StandsFor}
use Rattle.fs_interpreter.proofs.SearchLaws.{place_there, content_there, content_found}
use Rattle.fs_interpreter.proofs.StepLaws.{error_stays, error_stays_in_all}
use Rattle.fs_interpreter.proofs.TestLaws.{Seen, seen, dir_is, none_is, any_is, cell_file, told_is}

-- the parent of a path that is the root or in the table is so too
parent_covered : (table : Listed) (p : Path) → IsTable table → HasPath table p → HasPath table (parent p)
parent_covered table p is (inl e) = inl (ap parent e)
parent_covered table p is (inr h) = is.parents h.0 p h.1

-- another cell at a path, and only there another entry
changed : (table : Listed) (s : State) (t u : Tree) (p : Path) (i : ℕ) (c : Cell) (ok : Bool) → IsTable table → Stands table s t → place_in table.paths p ≡ Some i → ok ≡ true
    → Tells table.contents c (map.get u p) → ((q : Path) → q ≢ p → map.get u q ≡ map.get t q) → Stands table (record { cell = with_cell i c s.cell; error = s.error || not ok }) u
changed table s t u p i c ok is st at fine here others = record {
  no_error = or_from s.error (not ok) st.no_error (ap not fine);
  tells = λ j q h. elim (j == i) as (λ b. (j == i) ≡ b → Tells table.contents (cond b c (s.cell j)) (map.get u q)) [
    | true ↦ λ e. (let two : ◌≡◌ {A = Option Path} (Some q) (Some p) = sym h ∙ ap (slice_get table.paths) (eqb-true j i e) ∙ place_there table.paths p i at in
        let same : p ≡ q = cc in subst (λ r. Tells table.contents c (map.get u r)) same here)
    | false ↦ λ e. subst (λ o. Tells table.contents (s.cell j) o)
        (sym (others q (λ same. eqb-false j i e (is.once j i q h (place_there table.paths p i at ∙ ap Some (sym same))))))
        (st.tells j q h)
  ] refl;
  nothing_else = λ q h. others q (λ same. h i (place_there table.paths p i at ∙ ap Some (sym same))) ∙ st.nothing_else q h;
}

-- where the condition doesn't hold, what is put is Error
put_fails : (table : Listed) (o : Option ℕ) (ok : Bool) (c : Cell) (s : State) → ok ≡ false → (put o ok c s).error ≡ true
put_fails table None ok c s h = refl
put_fails table (Some i) ok c s h = or_right s.error (not ok) (ap not h)

-- a place is free for a new entry by what the cells tell exactly where it is in the tree
free_is : (table : Listed) (s : State) (t : Tree) (p : Path) → IsTable table → Stands table s t → HasPath table p → free_at table p s.cell ≡ (is_none t p && is_dir t (parent p))
free_is table s t p is st h =
    let here = none_is table s t p (seen table s t p is st h) in
    let above = dir_is table s t (parent p) (seen table s t (parent p) is st (parent_covered table p is h)) in
    (λ i. here i && above i)

-- of a conjunction that is true the left side is true
pub first : (a b : Bool) → (a && b) ≡ true → a ≡ true
first true b h = refl
first false b h = h

-- a new entry
made_is : (table : Listed) (s : State) (t : Tree) (p : Path) (x : Entry) (c : Cell) (ok : Bool) → IsTable table → Stands table s t → HasPath table p → ok ≡ (is_none t p && is_dir t (parent p)) → Tells table.contents c (Some x)
    → StandsFor table (put (place_in table.paths p) ok c s) (made p x t)
made_is table s t p x c ok is st h same tells = elim (is_none t p && is_dir t (parent p)) as (λ b. (is_none t p && is_dir t (parent p)) ≡ b → StandsFor table (put (place_in table.paths p) ok c s) (cond b (Some (map.insert t p x)) None)) [
  | false ↦ λ e. put_fails table (place_in table.paths p) ok c s (same ∙ e)
  | true ↦ λ e. by_place (seen table s t p is st h) (same ∙ e) (first (is_none t p) (is_dir t (parent p)) e)
] refl
  where
    by_place : Seen table s t p → ok ≡ true → is_none t p ≡ true → Stands table (put (place_in table.paths p) ok c s) (map.insert t p x)
    by_place (inl r) fine free = let no_place : ◌≡◌ true false = sym free ∙ ap (is_none t) r.0 in absurd (apart no_place)
      where
        apart : true ≡ false → ⊥
        apart e = cc
    by_place (inr r) fine free = subst (λ o. Stands table (put o ok c s) (map.insert t p x)) (sym r.1)
        (changed table s t (map.insert t p x) p r.0 c ok is st r.1 fine (subst (λ o. Tells table.contents c o) (sym (at_inserted t p x)) tells) (λ q other. at_other t p q x other))

-- ---- an entry that goes

-- by its cell an entry may go where it is a file, a link or a folder without children
goes : (contents : List (List ℕ)) (c : Cell) (o : Option Entry) (any : Bool) → Tells contents c o
    → (c.present && not (c.folder && any)) ≡ ((is_file_entry o || is_link_entry o) || (is_folder_entry o && not any))
goes contents c None any h = ap (λ b. b && not (c.folder && any)) h
goes contents c (Some Folder) any h = λ i. h.0 i && not (h.1 i && any)
goes contents c (Some (File x)) any h = λ i. h.0 i && not (h.1 i && any)
goes contents c (Some (LinkTo x)) any h = λ i. h.0 i && not (h.1 i && any)

-- a path that isn't the root isn't told to be
not_root : (p : Path) → p ≢ [] → is_root p ≡ false
not_root [] h = absurd (h refl)
not_root (s ∷ p) h = refl

-- a path but the root is a folder where its entry is one
pub dir_entry : (t : Tree) (p : Path) → p ≢ [] → is_dir t p ≡ is_folder_entry (map.get t p)
dir_entry t [] h = absurd (h refl)
dir_entry t (s ∷ p) h = refl

-- what goes from the cells goes from the tree, and where it can't both are Error
removed_is : (table : Listed) (s : State) (t : Tree) (p : Path) → IsTable table → Stands table s t → Seen table s t p
    → StandsFor table (removed_at (place_in table.paths p) (children_in table.paths p) s) (removed p t)
removed_is table s t p is st (inl h) =
    let nothing : ((is_file_entry (map.get t p) || is_link_entry (map.get t p)) || (not (is_root p) && is_empty_dir t p)) ≡ false =
    (λ i. (is_file_entry (h.2 i) || is_link_entry (h.2 i)) || (not (is_root (h.0 i)) && is_empty_dir t p)) in
    subst (λ o. StandsFor table (removed_at o (children_in table.paths p) s) (removed p t)) (sym h.1)
    (subst (λ b. StandsFor table (failed s) (cond b (Some (map.remove t p)) None)) (sym nothing) refl)
removed_is table s t p is st (inr h) =
    let cell = s.cell h.0 in
    let any = any_present (children_in table.paths p) s.cell in
    let ok = (s.cell h.0).present && not ((s.cell h.0).folder && any_present (children_in table.paths p) s.cell) in
    let spec = (is_file t p || is_link t p) || (not (is_root p) && is_empty_dir t p) in
    let same : ok ≡ spec = goes table.contents (s.cell h.0) (map.get t p) (any_present (children_in table.paths p) s.cell) h.2
    ∙ (let root = sym (not_root p h.3) in let dir = sym (dir_entry t p h.3) in let none = any_is table s t p st in (λ i. (is_file t p || is_link t p) || (not (root i) && (dir i && not (none i))))) in
    subst (λ o. StandsFor table (removed_at o (children_in table.paths p) s) (removed p t)) (sym h.1)
    (elim spec as (λ b. ok ≡ b → StandsFor table (put (Some h.0) ok (record (s.cell h.0) { present = false }) s) (cond b (Some (map.remove t p)) None)) [
      | false ↦ λ e. or_right s.error (not ok) (ap not e)
      | true ↦ λ e. changed table s t (map.remove t p) p h.0 (record (s.cell h.0) { present = false }) ok is st h.1 e
          (subst (λ o. Tells table.contents (record (s.cell h.0) { present = false }) o) (sym (at_removed t p)) refl) (λ q other. at_kept t p q other)
    ] same)

-- ---- a file that is copied

-- a copy of what one cell tells is the copy of the entry that it tells of
copied_here : (table : Listed) (s : State) (t : Tree) (q : Path) (i : ℕ) (o : Option Entry) → IsTable table → Stands table s t → HasPath table q → Tells table.contents (s.cell i) o
    → StandsFor table (put (place_in table.paths q) (file_at (Some i) s.cell && free_at table q s.cell) (file_cell (s.cell i).content) s) (copied o q t)
copied_here table s t q i None is st h tells = put_fails table (place_in table.paths q) _ _ s (ap (λ b. b && free_at table q s.cell) (cell_file table.contents (s.cell i) None tells))
copied_here table s t q i (Some Folder) is st h tells = put_fails table (place_in table.paths q) _ _ s (ap (λ b. b && free_at table q s.cell) (cell_file table.contents (s.cell i) (Some Folder) tells))
copied_here table s t q i (Some (LinkTo x)) is st h tells = put_fails table (place_in table.paths q) _ _ s (ap (λ b. b && free_at table q s.cell) (cell_file table.contents (s.cell i) (Some (LinkTo x)) tells))
copied_here table s t q i (Some (File x)) is st h tells =
    made_is table s t q (File x) (file_cell (s.cell i).content) (file_at (Some i) s.cell && free_at table q s.cell) is st h
    (ap (λ b. b && free_at table q s.cell) (cell_file table.contents (s.cell i) (Some (File x)) tells) ∙ free_is table s t q is st h)
    (refl, refl, refl, tells.3)

-- what is copied among the cells is copied in the tree, and where it can't be both are Error
copied_is : (table : Listed) (s : State) (t : Tree) (p q : Path) → IsTable table → Stands table s t → Seen table s t p → HasPath table q
    → StandsFor table (copied_at (place_in table.paths p) (place_in table.paths q) (free_at table q s.cell) s) (copied (map.get t p) q t)
copied_is table s t p q is st (inl h) k = subst (λ o. StandsFor table (copied_at o (place_in table.paths q) (free_at table q s.cell) s) (copied (map.get t p) q t)) (sym h.1)
    (subst (λ o. StandsFor table (failed s) (copied o q t)) (sym h.2) refl)
copied_is table s t p q is st (inr h) k = subst (λ o. StandsFor table (copied_at o (place_in table.paths q) (free_at table q s.cell) s) (copied (map.get t p) q t)) (sym h.1)
    (copied_here table s t q h.0 (map.get t p) is st k h.2)

-- ---- contents

-- the number of a content that is there leads to it
number_there : (contents : List (List ℕ)) (c : List ℕ) (i : ℕ) → slice_get contents i ≡ Some c → slice_get contents (number_in contents c) ≡ Some c
number_there contents c i h = let found = content_found contents c i h in ap (λ o. slice_get contents (or_zero o)) found.1 ∙ content_there contents c found.0 found.1

-- ---- programs

mutual
  -- what a program makes of cells that stand for a tree stands for what it makes of the tree
  pub run_is : (table : Listed) (e : Program) (s : State) (t : Tree) → IsTable table → Covers table e → Stands table s t → StandsFor table (stepped table e s) (run e t)
  run_is table Id s t is c st = st
  run_is table Err s t is c st = refl
  run_is table (Mkdir p) s t is c st = made_is table s t p Folder folder_cell (free_at table p s.cell) is st c (free_is table s t p is st c) (refl, refl)
  run_is table (Creat p content) s t is c st = made_is table s t p (File content) (file_cell (number_in table.contents content)) (free_at table p s.cell) is st c.0 (free_is table s t p is st c.0)
      (refl, refl, refl, number_there table.contents content c.1.0 c.1.1)
  run_is table (Link p target) s t is c st = made_is table s t p (LinkTo target) (link_cell (number_in table.contents target)) (free_at table p s.cell) is st c.0 (free_is table s t p is st c.0)
      (refl, refl, refl, number_there table.contents target c.1.0 c.1.1)
  run_is table (Rm p) s t is c st = removed_is table s t p is st (seen table s t p is st c)
  run_is table (Cp p q) s t is c st = copied_is table s t p q is st (seen table s t p is st c.0) c.1
  run_is table (Steps es) s t is c st = all_run_is table es s (Some t) is c st
  run_is table (If a e f) s t is c st =
      subst (λ b. StandsFor table (cond b (stepped table e s) (stepped table f s)) (cond (holds a t) (run e t) (run f t))) (sym (told_is table s t a is st c.0))
      (elim (holds a t) as (λ b. StandsFor table (cond b (stepped table e s) (stepped table f s)) (cond b (run e t) (run f t))) [
        | true ↦ run_is table e s t is c.1 st
        | false ↦ run_is table f s t is c.2 st
      ])

  -- and so do several programs, one after the other, from an outcome on
  pub all_run_is : (table : Listed) (es : Programs) (s : State) (o : Outcome) → IsTable table → CoversSteps table es → StandsFor table s o → StandsFor table (all_stepped table es s) (and_then o (run_all es))
  all_run_is table none s None is c h = h
  all_run_is table none s (Some t) is c h = h
  all_run_is table (next e es) s None is c h = error_stays_in_all table (next e es) s h
  all_run_is table (next e es) s (Some t) is c h = all_run_is table es (stepped table e s) (run e t) is c.1 (run_is table e s t is c.0 h)

-- and one program from an outcome on, Error included
pub outcome_is : (table : Listed) (e : Program) (s : State) (o : Outcome) → IsTable table → Covers table e → StandsFor table s o → StandsFor table (stepped table e s) (and_then o (run e))
outcome_is table e s None is c h = error_stays table e s h
outcome_is table e s (Some t) is c h = run_is table e s t is c h
