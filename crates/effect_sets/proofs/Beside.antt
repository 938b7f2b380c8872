-- Two trees that differ only where a program doesn't look, or by folders that it makes sure of: it ends alike from both.
use Rattle.std.proofs.Common.{◌≡◌, ◌⊎◌, ℕ, Bool, true, false, cond, not, ◌&&◌, ◌||◌, List, [], ◌∷◌, Option, Some, None, inl, inr, refl, sym, ap, ap₂, subst, subst₂, ◌∙◌}
use Rattle.std.specs.Prelude.{is_some}
use Rattle.std.specs.List.{list_any}
use Rattle.std.specs.FinMap as map
use Rattle.std.specs.FinMap.{get-insert, get-remove}
use Rattle.std.proofs.lemmas.Bool.{or_cases, or_left, or_right, and_parts, and_from, not-true, not_from_false, cases_Bool}
use Rattle.fs_semantics.specs.FileTree.{Path, Entry, Folder, File, Link as LinkTo, Tree, IsTree, parent, path_eq, is_root, is_dir, is_none, is_empty_dir, is_file_entry, is_link_entry, is_folder_entry, is_no_entry}
use Rattle.fs_semantics.specs.Programs.{Test, True, False, Not, And, Or, IsFile, IsLink, IsDir, IsEmpty, IsNone, Program, Programs, Id, Err, Mkdir, Creat, Link, Rm, Cp, Steps, If, none, next, Outcome, and_then, holds, made, removed, copied, run, run_all}
use Rattle.fs_semantics.specs.Changes.{IsProper, AreProperSteps}
use Rattle.fs_semantics.proofs.Trees.{path_total, path_eq_refl, path_eq_same, is_dir_other, insert-same}
use Rattle.fs_semantics.proofs.ConstructLaws.{keeps_tree, free_no_folder}
use Rattle.effect_sets.specs.Footprints.{Paths, Footprint, joined, see, looking, making, removing, ensuring, test_footprint, ensured, in_case, sure_after, sure_after_steps, footprint_after, steps_footprint}
use Rattle.fs_semantics.proofs.Keys.{key_from, key_passes, same_bool}

-- the same entry, or a folder where there was none
abbrev pub Grown : Option Entry → Option Entry → Type 0
Grown x y = (y ≡ x) ⊎ ((x ≡ None) × (y ≡ Some Folder))

-- what is put over both trees, or over neither, leaves the one grown of the other
grown_cond : (b : Bool) (y x z : Option Entry) → Grown x z → Grown (cond b y x) (cond b y z)
grown_cond true y x z h = inl refl
grown_cond false y x z h = h

-- where two trees have the same entry, both are free there or neither is
none_other : (t u : Tree) (q : Path) → map.get u q ≡ map.get t q → is_none u q ≡ is_none t q
none_other t u [] h = refl
none_other t u (s ∷ q) h = ap is_no_entry h

-- an entry that is told to be a folder is one
pub folder_entry : (r : Option Entry) → is_folder_entry r ≡ true → r ≡ Some Folder
folder_entry None h = cc
folder_entry (Some Folder) h = refl
folder_entry (Some (File content)) h = cc
folder_entry (Some (LinkTo target)) h = cc

-- ---- a folder that is made sure of

-- a folder can be made sure of there: it stands, or may be made
abbrev can_ensure : Path → Tree → Bool
can_ensure p t = is_dir t p || (is_none t p && is_dir t (parent p))

-- to make sure of a folder, as one step: the folder is put there where it can be, else Error
pub ensure_is : (s : List ℕ) (p : Path) (t : Tree) → cond (is_dir t (s ∷ p)) (Some t) (made (s ∷ p) Folder t) ≡ cond (can_ensure (s ∷ p) t) (Some (map.insert t (s ∷ p) Folder)) None
ensure_is s p t = elim (is_dir t (s ∷ p)) as (λ b. is_dir t (s ∷ p) ≡ b → cond b (Some t) (made (s ∷ p) Folder t) ≡ cond (b || (is_none t (s ∷ p) && is_dir t (parent (s ∷ p)))) (Some (map.insert t (s ∷ p) Folder)) None) [
  | true ↦ λ e. ap (λ u. Some u) (sym (insert-same t (s ∷ p) Folder (folder_entry (map.get t (s ∷ p)) e)))
  | false ↦ λ e. refl
] refl

-- a choice that makes sure of a folder is just that one
pub ensured_is : (a : Test) (e f : Program) (p : Path) → ensured a e f ≡ Some p → (a ≡ IsDir p) × (e ≡ Id) × (f ≡ Mkdir p)
ensured_is (IsDir p) Id (Mkdir q) r h = elim (path_eq p q) as (λ b. path_eq p q ≡ b → cond b (Some p) None ≡ Some r → (IsDir p ≡ IsDir r) × (Id ≡ Id) × (Mkdir q ≡ Mkdir r)) [
  | true ↦ λ e k. let is : p ≡ r = cc in (ap IsDir is, refl, ap Mkdir (sym (path_eq_same p q e) ∙ is))
  | false ↦ λ e k. cc
] refl h
ensured_is a e f r h = cc

-- the choice as it runs
pub ensure_runs : (a : Test) (e f : Program) (p : Path) (t : Tree) → ensured a e f ≡ Some p → cond (holds a t) (run e t) (run f t) ≡ cond (is_dir t p) (Some t) (made p Folder t)
ensure_runs a e f p t h = let is = ensured_is a e f p h in λ i. cond (holds (is.0 i) t) (run (is.1 i) t) (run (is.2 i) t)

module _ (t0 w0 : Tree) where
  -- the two trees have the same entry at the path
  abbrev Same : Path → Type 0
  Same q = map.get w0 q ≡ map.get t0 q

  -- the second tree has the same entry at the path, or a folder where the first has none
  abbrev MayGrow : Path → Type 0
  MayGrow q = Grown (map.get t0 q) (map.get w0 q)

  -- u and v are reached from t0 and w0 by the same steps
  pub record Beside (sure : Paths) (u v : Tree) : Type 0 where
    pub same : (q : Path) → Same q → map.get v q ≡ map.get u q
    pub grown : (q : Path) → MayGrow q → Grown (map.get u q) (map.get v q)
    pub sure_left : (q : Path) → sure q ≡ true → is_dir u q ≡ true
    pub sure_right : (q : Path) → sure q ≡ true → is_dir v q ≡ true

  -- both runs end in Error, or in trees that are beside one another
  abbrev pub EndBeside : Paths → Outcome → Outcome → Type 0
  EndBeside sure None None = Unit {0}
  EndBeside sure None (Some v) = ⊥
  EndBeside sure (Some u) None = ⊥
  EndBeside sure (Some u) (Some v) = Beside sure u v

  -- where a program with this footprint looks, t0 and w0 don't differ, but by folders that it makes sure of
  pub record Clear (x : Footprint) : Type 0 where
    pub reads : (q : Path) → x.reads q ≡ true → Same q
    pub folders : (q : Path) → x.folders q ≡ true → MayGrow q
    pub children : (q : Path) → x.children (parent q) ≡ true → Same q

  -- where two footprints joined are clear, the first is
  clear_left : (x y : Footprint) → Clear (joined x y) → Clear x
  clear_left x y c = record {
    reads = λ q h. c.reads q (or_left _ _ h);
    folders = λ q h. c.folders q (or_left _ _ h);
    children = λ q h. c.children q (or_left _ _ h);
  }

  -- and so is the second
  clear_right : (x y : Footprint) → Clear (joined x y) → Clear y
  clear_right x y c = record {
    reads = λ q h. c.reads q (or_right _ _ h);
    folders = λ q h. c.folders q (or_right _ _ h);
    children = λ q h. c.children q (or_right _ _ h);
  }

  -- ---- looking

  -- at a path that is looked at both have the same entry
  at : (p : Path) (sure : Paths) (u v : Tree) → IsTree u → IsTree v → Beside sure u v → (see p sure p ≡ true → Same p) → map.get v p ≡ map.get u p
  at [] sure u v left right b h = right.no_root ∙ sym left.no_root
  at (s ∷ p) sure u v left right b h = elim (cases_Bool (sure (s ∷ p))) [
    | inl made ↦ folder_entry (map.get v (s ∷ p)) (b.sure_right (s ∷ p) made) ∙ sym (folder_entry (map.get u (s ∷ p)) (b.sure_left (s ∷ p) made))
    | inr unsure ↦ b.same (s ∷ p) (h (and_from _ _ (path_eq_refl (s ∷ p)) (not_from_false _ unsure)))
  ]

  -- the second path is a child of the first
  abbrev is_child : Path → Path → Bool
  is_child p q = path_eq (parent q) p

  -- a path with a child has one in the other tree, where its children are the same
  child_too : (p : Path) (u v : Tree) → ((q : Path) → parent q ≡ p → map.get v q ≡ map.get u q) → list_any (is_child p) (map.keys u) ≡ true → list_any (is_child p) (map.keys v) ≡ true
  child_too p u v same h =
      let k = key_from (is_child p) u h in
      key_passes (is_child p) v k.0 (ap is_some (same k.0 (path_eq_same (parent k.0) p k.2)) ∙ k.1) k.2

  -- a path whose entry and children are the same is an empty folder in both or in neither
  empties : (p : Path) (u v : Tree) → map.get v p ≡ map.get u p → ((q : Path) → parent q ≡ p → map.get v q ≡ map.get u q) → is_empty_dir v p ≡ is_empty_dir u p
  empties p u v here same = ap₂ (λ a b. a && not b) (is_dir_other u v p here)
      (same_bool _ _ (child_too p v u (λ q e. sym (same q e))) (child_too p u v same))

  -- below a path whose children matter both have the same entries
  below : (p : Path) (sure : Paths) (u v : Tree) → Beside sure u v → ((q : Path) → path_eq (parent q) p ≡ true → Same q) → (q : Path) → parent q ≡ p → map.get v q ≡ map.get u q
  below p sure u v b h q e = b.same q (h q (ap (λ r. path_eq r p) e ∙ path_eq_refl p))

  -- a test says the same of both
  tests_agree : (a : Test) (sure : Paths) (u v : Tree) → IsTree u → IsTree v → Clear (test_footprint a sure) → Beside sure u v → holds a v ≡ holds a u
  tests_agree True sure u v left right c b = refl
  tests_agree False sure u v left right c b = refl
  tests_agree (Not a) sure u v left right c b = ap not (tests_agree a sure u v left right c b)
  tests_agree (And a f) sure u v left right c b = ap₂ (λ x y. x && y)
      (tests_agree a sure u v left right (clear_left (test_footprint a sure) (test_footprint f sure) c) b)
      (tests_agree f sure u v left right (clear_right (test_footprint a sure) (test_footprint f sure) c) b)
  tests_agree (Or a f) sure u v left right c b = ap₂ (λ x y. x || y)
      (tests_agree a sure u v left right (clear_left (test_footprint a sure) (test_footprint f sure) c) b)
      (tests_agree f sure u v left right (clear_right (test_footprint a sure) (test_footprint f sure) c) b)
  tests_agree (IsFile p) sure u v left right c b = ap is_file_entry (at p sure u v left right b (c.reads p))
  tests_agree (IsLink p) sure u v left right c b = ap is_link_entry (at p sure u v left right b (c.reads p))
  tests_agree (IsDir p) sure u v left right c b = is_dir_other u v p (at p sure u v left right b (c.reads p))
  tests_agree (IsEmpty p) sure u v left right c b = empties p u v (at p sure u v left right b (c.reads p)) (below p sure u v b c.children)
  tests_agree (IsNone p) sure u v left right c b = none_other u v p (at p sure u v left right b (c.reads p))

  -- ---- changing

  -- the same entry put at one path, or taken away
  changed : (p : Path) (y : Option Entry) (sure then : Paths) (u v u' v' : Tree) → Beside sure u v
      → ((q : Path) → map.get u' q ≡ cond (path_eq q p) y (map.get u q)) → ((q : Path) → map.get v' q ≡ cond (path_eq q p) y (map.get v q))
      → ((q : Path) → then q ≡ true → (is_dir u' q ≡ true) × (is_dir v' q ≡ true)) → Beside then u' v'
  changed p y sure then u v u' v' b left right still = record {
    same = λ q h. right q ∙ ap (cond (path_eq q p) y) (b.same q h) ∙ sym (left q);
    grown = λ q h. subst (λ r. Grown (map.get u' q) r) (sym (right q)) (subst (λ r. Grown r (cond (path_eq q p) y (map.get v q))) (sym (left q)) (grown_cond (path_eq q p) y (map.get u q) (map.get v q) (b.grown q h)));
    sure_left = λ q h. (still q h).0;
    sure_right = λ q h. (still q h).1;
  }

  -- a folder stays one where something is put at another path
  dir_elsewhere : (p : Path) (y : Option Entry) (u u' : Tree) → ((q : Path) → map.get u' q ≡ cond (path_eq q p) y (map.get u q)) → (q : Path) → path_eq q p ≡ false → is_dir u q ≡ true → is_dir u' q ≡ true
  dir_elsewhere p y u u' left q other dir = is_dir_other u u' q (left q ∙ ap (λ b. cond b y (map.get u q)) other) ∙ dir

  -- what is put where there was nothing is put over no folder
  dir_stays : (p : Path) (y : Option Entry) (u u' : Tree) → ((q : Path) → map.get u' q ≡ cond (path_eq q p) y (map.get u q)) → is_none u p ≡ true → (q : Path) → is_dir u q ≡ true → is_dir u' q ≡ true
  dir_stays p y u u' left free q dir = elim (cases_Bool (path_eq q p)) [
    | inl here ↦ absurd (free_no_folder u p free (ap (is_dir u) (sym (path_eq_same q p here)) ∙ dir))
    | inr other ↦ dir_elsewhere p y u u' left q other dir
  ]

  -- where two tests say the same, a step behind them ends beside
  guarded : (a b : Bool) (sure : Paths) (u v : Tree) → b ≡ a → (a ≡ true → b ≡ true → Beside sure u v) → EndBeside sure (cond a (Some u) None) (cond b (Some v) None)
  guarded true true sure u v e f = f refl refl
  guarded true false sure u v e f = cc
  guarded false true sure u v e f = cc
  guarded false false sure u v e f = tt

  -- making an entry ends beside
  made_beside : (p : Path) (x : Entry) (sure : Paths) (u v : Tree) → IsTree u → IsTree v → Clear (making p sure) → Beside sure u v → EndBeside sure (made p x u) (made p x v)
  made_beside p x sure u v left right c b = guarded _ _ sure _ _
      (ap₂ (λ k l. k && l)
      (none_other u v p (at p sure u v left right b (λ h. c.reads p (or_left _ _ h))))
      (is_dir_other u v (parent p) (at (parent p) sure u v left right b (λ h. c.reads (parent p) (or_right (see p sure (parent p)) _ h)))))
      (λ h k. changed p (Some x) sure sure u v _ _ b (get-insert path_total u p x) (get-insert path_total v p x) (λ q s. (
        dir_stays p (Some x) u _ (get-insert path_total u p x) (and_parts (is_none u p) (is_dir u (parent p)) h).0 q (b.sure_left q s),
        dir_stays p (Some x) v _ (get-insert path_total v p x) (and_parts (is_none v p) (is_dir v (parent p)) k).0 q (b.sure_right q s),
      )))

  -- removing an entry ends beside, and that path isn't sure any more
  removed_beside : (p : Path) (sure : Paths) (u v : Tree) → IsTree u → IsTree v → Clear (removing p sure) → Beside sure u v
      → EndBeside (λ q. sure q && not (path_eq q p)) (removed p u) (removed p v)
  removed_beside p sure u v left right c b =
      let here = at p sure u v left right b (c.reads p) in
      guarded _ _ (λ q. sure q && not (path_eq q p)) _ _
      (ap₂ (λ k l. k || l) (ap₂ (λ k l. k || l) (ap is_file_entry here) (ap is_link_entry here)) (ap (λ k. not (is_root p) && k) (empties p u v here (below p sure u v b c.children))))
      (λ h k. changed p None sure (λ q. sure q && not (path_eq q p)) u v _ _ b (get-remove path_total u p) (get-remove path_total v p) (λ q s.
      let two = and_parts (sure q) (not (path_eq q p)) s in (
        dir_elsewhere p None u _ (get-remove path_total u p) q (not-true _ two.1) (b.sure_left q two.0),
        dir_elsewhere p None v _ (get-remove path_total v p) q (not-true _ two.1) (b.sure_right q two.0),
      )))

  -- copying the same entry ends beside
  copied_beside : (r : Option Entry) (p : Path) (sure : Paths) (u v : Tree) → IsTree u → IsTree v → Clear (making p sure) → Beside sure u v → EndBeside sure (copied r p u) (copied r p v)
  copied_beside None p sure u v left right c b = tt
  copied_beside (Some Folder) p sure u v left right c b = tt
  copied_beside (Some (File content)) p sure u v left right c b = made_beside p (File content) sure u v left right c b
  copied_beside (Some (LinkTo target)) p sure u v left right c b = tt

  -- where only one of the trees has the folder, the other one may have it
  can_ensure_alike : (s : List ℕ) (p : Path) (u v : Tree) → IsTree v → map.get v (parent (s ∷ p)) ≡ map.get u (parent (s ∷ p)) → Grown (map.get u (s ∷ p)) (map.get v (s ∷ p))
      → can_ensure (s ∷ p) v ≡ can_ensure (s ∷ p) u
  can_ensure_alike s p u v right above (inl same) = ap₂ (λ k l. is_folder_entry k || (is_no_entry k && l)) same (is_dir_other u v (parent (s ∷ p)) above)
  can_ensure_alike s p u v right above (inr grown) =
      or_left _ _ (ap is_folder_entry grown.1)
      ∙ sym (or_right (is_dir u (s ∷ p)) _ (and_from _ _ (ap is_no_entry grown.0) (sym (is_dir_other u v (parent (s ∷ p)) above) ∙ right.parents (s ∷ p) (ap is_some grown.1))))

  -- making sure of a folder ends beside, and that path is sure then
  ensured_beside : (p : Path) (sure : Paths) (u v : Tree) → IsTree u → IsTree v → Clear (ensuring p sure) → Beside sure u v
      → EndBeside (λ q. path_eq q p || sure q) (cond (is_dir u p) (Some u) (made p Folder u)) (cond (is_dir v p) (Some v) (made p Folder v))
  ensured_beside [] sure u v left right c b = record {
    same = b.same;
    grown = b.grown;
    sure_left = λ q h. elim (or_cases (path_eq q []) (sure q) h) [ inl root ↦ ap (is_dir u) (path_eq_same q [] root) | inr was ↦ b.sure_left q was ];
    sure_right = λ q h. elim (or_cases (path_eq q []) (sure q) h) [ inl root ↦ ap (is_dir v) (path_eq_same q [] root) | inr was ↦ b.sure_right q was ];
  }
  ensured_beside (s ∷ p) sure u v left right c b =
      let above = at (parent (s ∷ p)) sure u v left right b (c.reads (parent (s ∷ p))) in
      let grown = b.grown (s ∷ p) (c.folders (s ∷ p) (path_eq_refl (s ∷ p))) in
      subst₂ (EndBeside (λ q. path_eq q (s ∷ p) || sure q)) (sym (ensure_is s p u)) (sym (ensure_is s p v))
      (guarded _ _ (λ q. path_eq q (s ∷ p) || sure q) _ _ (can_ensure_alike s p u v right above grown) (λ h k.
      changed (s ∷ p) (Some Folder) sure (λ q. path_eq q (s ∷ p) || sure q) u v _ _ b (get-insert path_total u (s ∷ p) Folder) (get-insert path_total v (s ∷ p) Folder) (λ q h.
      (sure_now q u h (b.sure_left q), sure_now q v h (b.sure_right q)))))
    where
      sure_now : (q : Path) (t : Tree) → (path_eq q (s ∷ p) || sure q) ≡ true → (sure q ≡ true → is_dir t q ≡ true) → is_dir (map.insert t (s ∷ p) Folder) q ≡ true
      sure_now q t h was = elim (cases_Bool (path_eq q (s ∷ p))) [
        | inl here ↦ ap (is_dir (map.insert t (s ∷ p) Folder)) (path_eq_same q (s ∷ p) here)
            ∙ ap is_folder_entry (get-insert path_total t (s ∷ p) Folder (s ∷ p) ∙ ap (λ b. cond b (Some Folder) (map.get t (s ∷ p))) (path_eq_refl (s ∷ p)))
        | inr other ↦ dir_elsewhere (s ∷ p) (Some Folder) t _ (get-insert path_total t (s ∷ p) Folder) q other (was (sym (ap (λ b. b || sure q) other) ∙ h))
      ]

  -- ---- running

  -- what ends beside with more paths that are sure does with fewer
  weaker : (sure then : Paths) (r q : Outcome) → ((p : Path) → then p ≡ true → sure p ≡ true) → EndBeside sure r q → EndBeside then r q
  weaker sure then None None h e = tt
  weaker sure then None (Some v) h e = e
  weaker sure then (Some u) None h e = e
  weaker sure then (Some u) (Some v) h e = record { same = e.same; grown = e.grown; sure_left = λ q k. e.sure_left q (h q k); sure_right = λ q k. e.sure_right q (h q k) }

  -- where two runs end beside, and so does what follows, they end beside with it
  then_beside : (sure then : Paths) (r q : Outcome) (f g : Tree → Outcome) → EndBeside sure r q
      → ((u v : Tree) → r ≡ Some u → q ≡ Some v → Beside sure u v → EndBeside then (f u) (g v)) → EndBeside then (and_then r f) (and_then q g)
  then_beside sure then None None f g h k = tt
  then_beside sure then None (Some v) f g h k = absurd h
  then_beside sure then (Some u) None f g h k = absurd h
  then_beside sure then (Some u) (Some v) f g h k = k u v refl refl h

  -- where two tests say the same, and both branches end beside, so does the choice
  branches : (a b : Bool) (sure : Paths) (r q r' q' : Outcome) → b ≡ a → EndBeside sure r q → EndBeside sure r' q' → EndBeside sure (cond a r r') (cond b q q')
  branches true true sure r q r' q' e h k = h
  branches true false sure r q r' q' e h k = cc
  branches false true sure r q r' q' e h k = cc
  branches false false sure r q r' q' e h k = k

  -- a choice ends beside where its branches do, or where it makes sure of a folder
  choice : (o : Option Path) (a : Test) (e f : Program) (sure : Paths) (u v : Tree) → ensured a e f ≡ o → IsTree u → IsTree v
      → Clear (in_case o (λ p. ensuring p sure) (joined (test_footprint a sure) (joined (footprint_after e sure) (footprint_after f sure)))) → Beside sure u v
      → (Clear (footprint_after e sure) → EndBeside (sure_after e sure) (run e u) (run e v)) → (Clear (footprint_after f sure) → EndBeside (sure_after f sure) (run f u) (run f v))
      → EndBeside (in_case o (λ p q. path_eq q p || sure q) (λ q. sure_after e sure q && sure_after f sure q)) (cond (holds a u) (run e u) (run f u)) (cond (holds a v) (run e v) (run f v))
  choice None a e f sure u v is left right c b first second =
      let c' = clear_right (test_footprint a sure) (joined (footprint_after e sure) (footprint_after f sure)) c in
      branches _ _ _ _ _ _ _ (tests_agree a sure u v left right (clear_left (test_footprint a sure) (joined (footprint_after e sure) (footprint_after f sure)) c) b)
      (weaker (sure_after e sure) _ _ _ (λ p h. (and_parts (sure_after e sure p) (sure_after f sure p) h).0) (first (clear_left (footprint_after e sure) (footprint_after f sure) c')))
      (weaker (sure_after f sure) _ _ _ (λ p h. (and_parts (sure_after e sure p) (sure_after f sure p) h).1) (second (clear_right (footprint_after e sure) (footprint_after f sure) c')))
  choice (Some p) a e f sure u v is left right c b first second =
      subst₂ (EndBeside (λ q. path_eq q p || sure q)) (sym (ensure_runs a e f p u is)) (sym (ensure_runs a e f p v is)) (ensured_beside p sure u v left right c b)

  mutual
    -- a program ends beside from trees that don't differ where it looks
    pub runs_beside : (e : Program) (sure : Paths) (u v : Tree) → IsProper e → IsTree u → IsTree v → Clear (footprint_after e sure) → Beside sure u v
        → EndBeside (sure_after e sure) (run e u) (run e v)
    runs_beside Id sure u v proper left right c b = b
    runs_beside Err sure u v proper left right c b = tt
    runs_beside (Mkdir p) sure u v proper left right c b = made_beside p Folder sure u v left right c b
    runs_beside (Creat p content) sure u v proper left right c b = made_beside p (File content) sure u v left right c b
    runs_beside (Link p target) sure u v proper left right c b = made_beside p (LinkTo target) sure u v left right c b
    runs_beside (Rm p) sure u v proper left right c b = removed_beside p sure u v left right c b
    runs_beside (Cp from p) sure u v proper left right c b =
        subst (λ r. EndBeside sure (copied (map.get u from) p u) (copied r p v)) (sym (at from sure u v left right b (λ h. c.reads from (or_left _ _ h))))
        (copied_beside (map.get u from) p sure u v left right (clear_right (looking from sure) (making p sure) c) b)
    runs_beside (Steps es) sure u v proper left right c b = steps_beside es sure u v proper left right c b
    runs_beside (If a e f) sure u v proper left right c b = choice (ensured a e f) a e f sure u v refl left right c b
        (λ k. runs_beside e sure u v proper.0 left right k b) (λ k. runs_beside f sure u v proper.1 left right k b)

    -- and so do steps
    steps_beside : (es : Programs) (sure : Paths) (u v : Tree) → AreProperSteps es → IsTree u → IsTree v → Clear (steps_footprint es sure) → Beside sure u v
        → EndBeside (sure_after_steps es sure) (run_all es u) (run_all es v)
    steps_beside none sure u v proper left right c b = b
    steps_beside (next e es) sure u v proper left right c b =
        then_beside (sure_after e sure) _ (run e u) (run e v) (run_all es) (run_all es)
        (runs_beside e sure u v proper.0 left right (clear_left (footprint_after e sure) (steps_footprint es (sure_after e sure)) c) b)
        (λ u' v' h k b'. steps_beside es (sure_after e sure) u' v' proper.1 (keeps_tree e u u' proper.0 left h) (keeps_tree e v v' proper.0 right k)
        (clear_right (footprint_after e sure) (steps_footprint es (sure_after e sure)) c) b')
