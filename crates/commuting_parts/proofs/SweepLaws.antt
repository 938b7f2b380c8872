-- An earlier sweep doesn't matter where the folder is swept again later.
use Rattle.std.proofs.Common.{◌≡◌, ◌≢◌, ◌⊎◌, inl, inr, Bool, true, false, not, cond, ◌&&◌, ◌||◌, List, [], ◌∷◌, ◌++◌, Option, Some, None, refl, sym, ap, subst, ◌∙◌, append_assoc}
use Rattle.std.specs.Prelude.{IsTrue, is_some}
use Rattle.std.specs.List.{AllByRecursion}
use Rattle.std.specs.FinMap as map
use Rattle.std.specs.FinMap.{same_map}
use Rattle.std.proofs.lemmas.Bool.{or_right, and_from, both_ways, cases_Bool}
use Rattle.fs_semantics.specs.FileTree.{Path, Entry, Folder, Tree, parent, path_eq, is_root, is_file, is_link, is_empty_dir, is_file_entry, is_link_entry}
use Rattle.fs_semantics.specs.Entries.{IsFolderAt}
use Rattle.fs_semantics.specs.Programs.{Program, Rm, If, IsFile, Id, and_then, removed, run}
use Rattle.fs_semantics.proofs.Trees.{path_total, path_same, path_eq_refl, path_eq_same, at_removed, at_kept}
use Rattle.fs_semantics.proofs.Keys.{same_bool}
use Rattle.fs_semantics.proofs.Words.{empty_at}
use Rattle.fs_semantics.proofs.Permuted.{and_then_assoc, then_alike}
use Rattle.fs_lang.specs.declared.program.Program.{Program as Written}
use Rattle.fs_lang.specs.Meaning.{program_of}
use Rattle.commuting_parts.specs.Runs.{Run, thens}
use Rattle.commuting_parts.specs.Parts.{runs}
use Rattle.commuting_parts.specs.Sweeps.{sweep, RemovesAt, IsHarmlessTo, AreSwept}
use Rattle.commuting_parts.proofs.PartLaws.{runs_append}

-- two paths are the same, or they aren't
same_path : (p q : Path) → (p ≡ q) ⊎ (p ≢ q)
same_path p q = elim (cases_Bool (path_eq p q)) [
  | inl same ↦ inl (path_eq_same p q same)
  | inr other ↦ inr (λ e. both_ways _ other (ap (λ r. path_eq r q) e ∙ path_eq_refl q))
]

-- ---- trees without a folder

-- what stands elsewhere is there as before
still_there : (t : Tree) (d q : Path) → q ≢ d → IsTrue (map.contains_key t q) → IsTrue (map.contains_key (map.remove t d) q)
still_there t d q other h = ap is_some (at_kept t d q other) ∙ h

-- what is there without a path was there with it, and isn't that path
was_there : (t : Tree) (d q : Path) → IsTrue (map.contains_key (map.remove t d) q) → (q ≢ d) × IsTrue (map.contains_key t q)
was_there t d q h =
    let other : q ≢ d = λ e. let gone : is_some (map.get (map.remove t d) q) ≡ false = ap is_some (ap (map.get (map.remove t d)) e ∙ at_removed t d) in both_ways _ gone h in
    (other, ap is_some (sym (at_kept t d q other)) ∙ h)

-- where the same stands at a path in two trees, it is a folder in both or in neither
folder_as : (t u : Tree) (p : Path) → map.get t p ≡ map.get u p → IsFolderAt t p → IsFolderAt u p
folder_as t u p same (inl root) = inl root
folder_as t u p same (inr is) = inr (sym same ∙ is)

-- a folder that isn't the one above is empty as before
empty_as : (t : Tree) (d p : Path) → d ≢ p → parent d ≢ p → is_empty_dir (map.remove t d) p ≡ is_empty_dir t p
empty_as t d p other below = same_bool _ _
    (λ h. let e = (empty_at (map.remove t d) p).0 h in
    (empty_at t p).1 (
      folder_as (map.remove t d) t p (at_kept t d p (λ s. other (sym s))) e.0,
      (λ q there above. e.1 q (still_there t d q (λ s. below (ap parent (sym s) ∙ above)) there) above),
    ))
    (λ h. let e = (empty_at t p).0 h in
    (empty_at (map.remove t d) p).1 (
      folder_as t (map.remove t d) p (sym (at_kept t d p (λ s. other (sym s)))) e.0,
      (λ q there above. e.1 q (was_there t d q there).1 above),
    ))

-- a folder stays empty where something else goes
empty_still : (t : Tree) (d p : Path) → d ≢ p → is_empty_dir t d ≡ true → is_empty_dir (map.remove t p) d ≡ true
empty_still t d p other h =
    let e = (empty_at t d).0 h in
    (empty_at (map.remove t p) d).1 (folder_as t (map.remove t p) d (sym (at_kept t p d other)) e.0, (λ q there above. e.1 q (was_there t p q there).1 above))

-- nothing is there to be swept
not_there : (u : Tree) (d : Path) → d ≢ [] → map.get u d ≡ None → is_empty_dir u d ≡ false
not_there u d root gone = elim (cases_Bool (is_empty_dir u d)) [
  | inl h ↦ absurd (no ((empty_at u d).0 h).0)
  | inr h ↦ h
]
  where
    no : IsFolderAt u d → ⊥
    no (inl is) = root is
    no (inr is) = let wrong : ◌≡◌ {A = Option Entry} None (Some Folder) = sym gone ∙ is in cc

-- two paths may be removed in either order
both_gone : (t : Tree) (d p : Path) → map.remove (map.remove t d) p ≡ map.remove (map.remove t p) d
both_gone t d p = same_map path_total path_same _ _ (λ q. elim (same_path q d) [
  | inl e ↦ elim (same_path q p) [
    | inl f ↦ ap (map.get (map.remove (map.remove t d) p)) f ∙ at_removed (map.remove t d) p ∙ sym (ap (map.get (map.remove (map.remove t p) d)) e ∙ at_removed (map.remove t p) d)
    | inr f ↦ at_kept (map.remove t d) p q f ∙ ap (map.get (map.remove t d)) e ∙ at_removed t d ∙ sym (ap (map.get (map.remove (map.remove t p) d)) e ∙ at_removed (map.remove t p) d)
  ]
  | inr e ↦ elim (same_path q p) [
    | inl f ↦ ap (map.get (map.remove (map.remove t d) p)) f ∙ at_removed (map.remove t d) p ∙ sym (at_kept (map.remove t p) d q e ∙ ap (map.get (map.remove t p)) f ∙ at_removed t p)
    | inr f ↦ at_kept (map.remove t d) p q f ∙ at_kept t d q e ∙ sym (at_kept (map.remove t p) d q e ∙ at_kept t p q f)
  ]
])

-- ---- one sweep

-- a removal of the path doesn't fail
abbrev goes : Tree → Path → Bool
goes t p = is_file t p || is_link t p || (not (is_root p) && is_empty_dir t p)

-- what a removal does that is asked for first
abbrev step : (Tree → Bool) → Path → Run
step b p t = cond (b t) (cond (goes t p) (Some (map.remove t p)) None) (Some t)

-- a path that isn't empty isn't the root
no_root : (d : Path) → d ≢ [] → not (is_root d) ≡ true
no_root [] h = absurd (h refl)
no_root (s ∷ d) h = refl

module _ (d : Path) (root : d ≢ []) where
  -- a sweep removes the folder where it is empty
  sweeps : (t : Tree) → is_empty_dir t d ≡ true → run (sweep d) t ≡ Some (map.remove t d)
  sweeps t h =
      ap (λ b. cond b (removed d t) (Some t)) h
      ∙ ap (λ b. cond b (Some (map.remove t d)) None) (or_right (is_file t d || is_link t d) _ (and_from (not (is_root d)) (is_empty_dir t d) (no_root d root) h))

  -- it leaves the tree as it is where no empty folder stands there
  leaves : (t : Tree) → is_empty_dir t d ≡ false → run (sweep d) t ≡ Some t
  leaves t h = ap (λ b. cond b (removed d t) (Some t)) h

  -- it leaves the tree as it is where the folder has gone
  gone : (t : Tree) → run (sweep d) (map.remove t d) ≡ Some (map.remove t d)
  gone t = leaves (map.remove t d) (not_there (map.remove t d) d root (at_removed t d))

  -- two sweeps of a folder are one
  once : (t : Tree) → thens (run (sweep d)) (run (sweep d)) t ≡ run (sweep d) t
  once t = elim (cases_Bool (is_empty_dir t d)) [
    | inl h ↦ ap (λ r. and_then r (run (sweep d))) (sweeps t h) ∙ gone t ∙ sym (sweeps t h)
    | inr h ↦ ap (λ r. and_then r (run (sweep d))) (leaves t h)
  ]

  module _ (p : Path) (other : d ≢ p) (below : parent d ≢ p) where
    -- whether another path can be removed is the same without the folder
    goes_as : (t : Tree) → goes (map.remove t d) p ≡ goes t p
    goes_as t =
        let same = at_kept t d p (λ s. other (sym s)) in
        (λ i. is_file_entry (same i) || is_link_entry (same i) || (not (is_root p) && empty_as t d p other below i))

    -- a removal there, if it is asked for, and then a sweep, end the same without the folder and with it
    without : (t : Tree) → is_empty_dir t d ≡ true → (x y : Bool)
        → and_then (cond x (cond y (Some (map.remove (map.remove t d) p)) None) (Some (map.remove t d))) (run (sweep d))
        ≡ and_then (cond x (cond y (Some (map.remove t p)) None) (Some t)) (run (sweep d))
    without t h false y = gone t ∙ sym (sweeps t h)
    without t h true false = refl
    without t h true true =
        leaves (map.remove (map.remove t d) p) (not_there (map.remove (map.remove t d) p) d root (at_kept (map.remove t d) p d other ∙ at_removed t d))
        ∙ ap (λ u. Some u) (both_gone t d p) ∙ sym (sweeps (map.remove t p) (empty_still t d p other h))

    -- a sweep ahead of a removal there, and of a sweep, doesn't matter
    swept_first : (b : Tree → Bool) → ((t : Tree) → b (map.remove t d) ≡ b t) → (t : Tree)
        → thens (run (sweep d)) (thens (step b p) (run (sweep d))) t ≡ thens (step b p) (run (sweep d)) t
    swept_first b same t = elim (cases_Bool (is_empty_dir t d)) [
      | inl h ↦ ap (λ r. and_then r (thens (step b p) (run (sweep d)))) (sweeps t h)
          ∙ (λ i. and_then (cond (same t i) (cond (goes_as t i) (Some (map.remove (map.remove t d) p)) None) (Some (map.remove t d))) (run (sweep d)))
          ∙ without t h (b t) (goes t p)
      | inr h ↦ ap (λ r. and_then r (thens (step b p) (run (sweep d)))) (leaves t h)
    ]

  -- what is harmless between two sweeps may come ahead of one
  harmless : (e : Program) → IsHarmlessTo d e → (t : Tree) → thens (run (sweep d)) (thens (run e) (run (sweep d))) t ≡ thens (run e) (run (sweep d)) t
  harmless e (p, is, other, below) t = by is
    where
      alike : (f : Program) → e ≡ f → thens (run (sweep d)) (thens (run f) (run (sweep d))) t ≡ thens (run f) (run (sweep d)) t
          → thens (run (sweep d)) (thens (run e) (run (sweep d))) t ≡ thens (run e) (run (sweep d)) t
      alike f same h = subst (λ g. thens (run (sweep d)) (thens (run g) (run (sweep d))) t ≡ thens (run g) (run (sweep d)) t) (sym same) h

      by : RemovesAt p e → thens (run (sweep d)) (thens (run e) (run (sweep d))) t ≡ thens (run e) (run (sweep d)) t
      by (inl same) = alike (Rm p) same (swept_first p other below (λ u. true) (λ u. refl) t)
      by (inr (inl same)) = alike (If (IsFile p) (Rm p) Id) same (swept_first p other below (λ u. is_file u p) (λ u. ap is_file_entry (at_kept u d p (λ s. other (sym s)))) t)
      by (inr (inr same)) = alike (sweep p) same (swept_first p other below (λ u. is_empty_dir u p) (λ u. empty_as u d p other below) t)

-- ---- lists of sweeps

-- the run begins as well with this one
abbrev pub Absorbs : Run → Run → Type 0
Absorbs s x = (t : Tree) → thens s x t ≡ x t

-- what may come ahead of a step and itself may come ahead of the step and anything that begins as well with it
past : (s e x : Run) → ((t : Tree) → thens s (thens e s) t ≡ thens e s t) → Absorbs s x → Absorbs s (thens e x)
past s e x free absorbs t =
    then_alike (s t) (thens e x) (thens e (thens s x)) (λ u is. then_alike (e u) x (thens s x) (λ v k. sym (absorbs v)))
    ∙ then_alike (s t) (thens e (thens s x)) (thens (thens e s) x) (λ u is. sym (and_then_assoc (e u) s x))
    ∙ sym (and_then_assoc (s t) (thens e s) x)
    ∙ ap (λ r. and_then r x) (free t)
    ∙ and_then_assoc (e t) s x
    ∙ then_alike (e t) (thens s x) x (λ u is. absorbs u)

-- a sweep that comes again, with nothing ahead of it but what is harmless
swept_again : (d : Path) → d ≢ [] → (before : List Written) → AllByRecursion (λ e. IsHarmlessTo d (program_of e)) before → (x : Run) → Absorbs (run (sweep d)) x
    → Absorbs (run (sweep d)) (thens (runs before) x)
swept_again d root [] all x absorbs t = absorbs t
swept_again d root (e ∷ before) all x absorbs t =
    then_alike (run (sweep d) t) (thens (runs (e ∷ before)) x) (thens (run (program_of e)) (thens (runs before) x)) (λ u is. and_then_assoc (run (program_of e) u) (runs before) x)
    ∙ past (run (sweep d)) (run (program_of e)) (thens (runs before) x) (harmless d root (program_of e) all.0) (swept_again d root before all.1 x absorbs) t
    ∙ sym (and_then_assoc (run (program_of e) t) (runs before) x)

-- steps, and then sweeps to which these are harmless, begin as well with the sweeps
pub all_swept : (before cs : List Written) → AreSwept before cs → Absorbs (runs cs) (thens (runs before) (runs cs))
all_swept before [] swept t = refl
all_swept before (c ∷ cs) swept t =
    let d = swept.0.0 in
    let s = run (sweep d) in
    let x = thens (runs before) (runs (c ∷ cs)) in
    let is : run (program_of c) ≡ s = ap (λ (e : Program). run e) swept.0.1 in
    let longer : (u : Tree) → thens (runs (before ++ c ∷ [])) (runs cs) u ≡ x u = λ u.
    sym (runs_append (before ++ c ∷ []) cs u) ∙ ap (λ fs. runs fs u) (append_assoc before (c ∷ []) cs) ∙ runs_append before (c ∷ cs) u in
    let here : Absorbs s (runs (c ∷ cs)) = subst (λ r. Absorbs s (thens r (runs cs))) (sym is) (λ u.
    sym (and_then_assoc (s u) s (runs cs)) ∙ ap (λ r. and_then r (runs cs)) (once d swept.0.2 u)) in
    and_then_assoc (run (program_of c) t) (runs cs) x
    ∙ then_alike (run (program_of c) t) (thens (runs cs) x) x (λ u k.
    then_alike (runs cs u) x (thens (runs (before ++ c ∷ [])) (runs cs)) (λ v l. sym (longer v)) ∙ all_swept (before ++ c ∷ []) cs swept.1 u ∙ longer u)
    ∙ ap (λ r. and_then (r t) x) is
    ∙ swept_again d swept.0.2 before swept.0.3 (runs (c ∷ cs)) here t
