-- From a tree and its shadow each program ends alike.
use Rattle.std.proofs.Common.{◌≡◌, ◌⊎◌, ℕ, Bool, true, false, cond, not, ◌&&◌, ◌||◌, List, [], ◌∷◌, ◌++◌, Option, Some, None, inl, inr, refl, sym, ap, ap₂, subst, ◌∙◌}
use Rattle.std.specs.Prelude.{IsTrue, is_some}
use Rattle.std.specs.List.{list_any}
use Rattle.std.specs.FinMap as map
use Rattle.std.specs.FinMap.{get-insert, get-remove}
use Rattle.std.proofs.lemmas.Bool.{or_cases, and_parts, and_from, not-true, not_from_false, cases_Bool, both_ways}
use Rattle.fs_semantics.specs.FileTree.{Path, Entry, Folder, File, Link as LinkTo, Tree, parent, path_eq, is_root, is_file, is_link, is_dir, is_none, is_empty_dir, is_file_entry, is_link_entry, is_folder_entry, is_no_entry, is_among, HasText}
use Rattle.fs_semantics.specs.Programs.{Test, True, False, Not, And, Or, IsFile, IsLink, IsDir, IsEmpty, IsNone, Program, Programs, Id, Err, Mkdir, Creat, Link, Rm, Cp, Steps, If, none, next, Outcome, and_then, holds, made, removed, copied, run, run_all}
use Rattle.fs_semantics.proofs.Trees.{path_total, path_eq_refl, path_eq_same, path_eq_other}
use Rattle.finite_domain.specs.Mentions.{Matter, At, Below, Text, TestMentions, Mentions, StepsMention, AnyMentions}
use Rattle.finite_domain.specs.Domains.{Domain, is_known, IsDomain}
use Rattle.finite_domain.specs.Shadows.{mapped_entry, mapped, has_other, IsTextOf, IsShadow}
use Rattle.fs_semantics.proofs.Keys.{key_from, key_passes, same_bool}
use Rattle.finite_domain.proofs.Paths.{parent_child, spoken_known, parent_known, child_unknown}

-- ---- children, known and other ones

-- the second path is a child of the first
abbrev is_child : Path → Path → Bool
is_child p q = path_eq (parent q) p

-- a child that isn't named stays one where the trees are alike at such paths
pub other_over : (d : Domain) (t u : Tree) (p : Path) → ((q : Path) → is_known d q ≡ false → map.get t q ≡ map.get u q) → has_other d t p ≡ true → has_other d u p ≡ true
other_over d t u p same h =
    let k = key_from (λ q. is_child p q && not (is_known d q)) t h in
    let two = and_parts (is_child p k.0) (not (is_known d k.0)) k.2 in
    key_passes (λ q. is_child p q && not (is_known d q)) u k.0 (subst (λ r. IsTrue (is_some r)) (same k.0 (not-true _ two.1)) k.1) k.2

-- a path with a child has one in the other tree, where that has the named and some other one
child_over : (d : Domain) (t u : Tree) (p : Path) → ((q : Path) → is_known d q ≡ true → IsTrue (map.contains_key t q) → IsTrue (map.contains_key u q))
    → (has_other d t p ≡ true → has_other d u p ≡ true) → list_any (is_child p) (map.keys t) ≡ true → list_any (is_child p) (map.keys u) ≡ true
child_over d t u p same others h =
    let k = key_from (is_child p) t h in
    elim (cases_Bool (is_known d k.0)) [
      | inl is_known_one ↦ key_passes (is_child p) u k.0 (same k.0 is_known_one k.1) k.2
      | inr unknown ↦
          let other = key_from (λ q. is_child p q && not (is_known d q)) u
          (others (key_passes (λ q. is_child p q && not (is_known d q)) t k.0 k.1 (and_from _ _ k.2 (not_from_false _ unknown)))) in
          key_passes (is_child p) u other.0 other.1 (and_parts (is_child p other.0) (not (is_known d other.0)) other.2).0
    ]

-- ---- entries that are mapped

-- an entry whose text is mapped is a file where it was
file_mapped : (m : List ℕ → List ℕ) (r : Option Entry) → is_file_entry (mapped m r) ≡ is_file_entry r
file_mapped m None = refl
file_mapped m (Some Folder) = refl
file_mapped m (Some (File content)) = refl
file_mapped m (Some (LinkTo target)) = refl

-- and a link where it was
link_mapped : (m : List ℕ → List ℕ) (r : Option Entry) → is_link_entry (mapped m r) ≡ is_link_entry r
link_mapped m None = refl
link_mapped m (Some Folder) = refl
link_mapped m (Some (File content)) = refl
link_mapped m (Some (LinkTo target)) = refl

-- and a folder where it was
pub folder_mapped : (m : List ℕ → List ℕ) (r : Option Entry) → is_folder_entry (mapped m r) ≡ is_folder_entry r
folder_mapped m None = refl
folder_mapped m (Some Folder) = refl
folder_mapped m (Some (File content)) = refl
folder_mapped m (Some (LinkTo target)) = refl

-- and is missing where it was
none_mapped : (m : List ℕ → List ℕ) (r : Option Entry) → is_no_entry (mapped m r) ≡ is_no_entry r
none_mapped m None = refl
none_mapped m (Some x) = refl

-- and is there where it was
pub some_mapped : (m : List ℕ → List ℕ) (r : Option Entry) → is_some (mapped m r) ≡ is_some r
some_mapped m None = refl
some_mapped m (Some x) = refl

-- the choice of two mapped entries is the mapped choice
mapped_cond : (m : List ℕ → List ℕ) (b : Bool) (y r : Option Entry) → cond b (mapped m y) (mapped m r) ≡ mapped m (cond b y r)
mapped_cond m true y r = refl
mapped_cond m false y r = refl

-- the text of one of two entries is the text of the first or of the second
text_of_cond : (b : Bool) (y r : Option Entry) (c : List ℕ) → HasText (cond b y r) c → HasText y c ⊎ HasText r c
text_of_cond true y r c h = inl h
text_of_cond false y r c h = inr h

module _ (es : List Program) (d : Domain) (dom : IsDomain es d) (m : List ℕ → List ℕ) (t0 s0 : Tree) (shadow : IsShadow es d m t0 s0) where
  -- t and s may be reached from t0 and s0
  pub record Follows (t s : Tree) : Type 0 where
    pub entries : (p : Path) → is_known d p ≡ true → map.get s p ≡ mapped m (map.get t p)
    pub texts : (p : Path) (c : List ℕ) → is_known d p ≡ true → HasText (map.get t p) c → IsTextOf es d t0 c
    pub rest : (q : Path) → is_known d q ≡ false → map.get t q ≡ map.get t0 q
    pub rest_too : (q : Path) → is_known d q ≡ false → map.get s q ≡ map.get s0 q

  -- both runs end in Error, or in trees of which the second follows the first
  abbrev pub EndAlike : Outcome → Outcome → Type 0
  EndAlike None None = Unit {0}
  EndAlike None (Some v) = ⊥
  EndAlike (Some u) None = ⊥
  EndAlike (Some u) (Some v) = Follows u v

  -- a tree and its shadow are where the runs begin
  pub starts : Follows t0 s0
  starts = record { entries = shadow.entries; texts = λ p c known has. inr (p, known, has); rest = λ q h. refl; rest_too = λ q h. refl }

  -- the fresh child under p stands for the other children
  fresh_tells : (p : Path) → AnyMentions es (Below p) → has_other d s0 p ≡ map.contains_key s0 (p ++ dom.other ∷ [])
  fresh_tells p below = same_bool _ _
      (λ h.
      let k = key_from (λ q. is_child p q && not (is_known d q)) s0 h in
      let two = and_parts (is_child p k.0) (not (is_known d k.0)) k.2 in
      elim (or_cases (is_known d k.0) (is_among k.0 d.fresh) (shadow.over.paths k.0 k.1)) [
        | inl named ↦ absurd (both_ways (is_known d k.0) (not-true _ two.1) named)
        | inr fresh ↦
            let f = (dom.fresh k.0).0 fresh in
            let up : f.0 ≡ p = sym (parent_child f.0 dom.other) ∙ ap parent (sym f.2) ∙ path_eq_same (parent k.0) p two.0 in
            subst (λ q. IsTrue (map.contains_key s0 q)) (f.2 ∙ ap (λ r. r ++ dom.other ∷ []) up) k.1
      ])
      (λ h. key_passes (λ q. is_child p q && not (is_known d q)) s0 (p ++ dom.other ∷ []) h
      (and_from _ _ (ap (λ r. path_eq r p) (parent_child p dom.other) ∙ path_eq_refl p) (not_from_false _ (child_unknown es d dom p))))

  -- below a path whose children matter both have another child or neither
  others : (p : Path) → AnyMentions es (Below p) → has_other d s0 p ≡ has_other d t0 p
  others p below = fresh_tells p below ∙ shadow.others (p ++ dom.other ∷ []) ((dom.fresh (p ++ dom.other ∷ [])).1 (p, below, refl)) ∙ ap (has_other d t0) (parent_child p dom.other)

  -- below a path whose children matter both have a child or neither
  children : (p : Path) (t s : Tree) → AnyMentions es (Below p) → Follows t s → list_any (is_child p) (map.keys s) ≡ list_any (is_child p) (map.keys t)
  children p t s below f = same_bool _ _
      (child_over d s t p (λ q h k. sym (ap is_some (f.entries q h) ∙ some_mapped m (map.get t q)) ∙ k)
      (λ h. other_over d t0 t p (λ q k. sym (f.rest q k)) (sym (others p below) ∙ other_over d s s0 p f.rest_too h)))
      (child_over d t s p (λ q h k. ap is_some (f.entries q h) ∙ some_mapped m (map.get t q) ∙ k)
      (λ h. other_over d s0 s p (λ q k. sym (f.rest_too q k)) (others p below ∙ other_over d t t0 p f.rest h)))

  -- ---- tests

  -- a path of the programs is known
  at : (p : Path) → AnyMentions es (At p) → is_known d p ≡ true
  at p h = spoken_known es d dom p (inl h)

  -- a path whose children matter is known
  below : (p : Path) → AnyMentions es (Below p) → is_known d p ≡ true
  below p h = spoken_known es d dom p (inr h)

  -- at a known path both have a file or neither
  files : (p : Path) (t s : Tree) → Follows t s → is_known d p ≡ true → is_file s p ≡ is_file t p
  files p t s f h = ap is_file_entry (f.entries p h) ∙ file_mapped m (map.get t p)

  -- at a known path both have a link or neither
  links : (p : Path) (t s : Tree) → Follows t s → is_known d p ≡ true → is_link s p ≡ is_link t p
  links p t s f h = ap is_link_entry (f.entries p h) ∙ link_mapped m (map.get t p)

  -- at a known path both have a folder or neither
  folders : (p : Path) (t s : Tree) → Follows t s → is_known d p ≡ true → is_dir s p ≡ is_dir t p
  folders [] t s f h = refl
  folders (r ∷ p) t s f h = ap is_folder_entry (f.entries (r ∷ p) h) ∙ folder_mapped m (map.get t (r ∷ p))

  -- at a known path both have nothing or neither
  gaps : (p : Path) (t s : Tree) → Follows t s → is_known d p ≡ true → is_none s p ≡ is_none t p
  gaps [] t s f h = refl
  gaps (r ∷ p) t s f h = ap is_no_entry (f.entries (r ∷ p) h) ∙ none_mapped m (map.get t (r ∷ p))

  -- at a path whose children matter both have an empty folder or neither
  empties : (p : Path) (t s : Tree) → Follows t s → AnyMentions es (Below p) → is_empty_dir s p ≡ is_empty_dir t p
  empties p t s f h = ap₂ (λ a b. a && not b) (folders p t s f (below p h)) (children p t s h f)

  -- tests of the programs say the same of both
  tests_agree : (a : Test) (t s : Tree) → ((x : Matter) → TestMentions a x → AnyMentions es x) → Follows t s → holds a s ≡ holds a t
  tests_agree True t s within f = refl
  tests_agree False t s within f = refl
  tests_agree (Not a) t s within f = ap not (tests_agree a t s within f)
  tests_agree (And a b) t s within f = ap₂ (λ x y. x && y) (tests_agree a t s (λ x h. within x (inl h)) f) (tests_agree b t s (λ x h. within x (inr h)) f)
  tests_agree (Or a b) t s within f = ap₂ (λ x y. x || y) (tests_agree a t s (λ x h. within x (inl h)) f) (tests_agree b t s (λ x h. within x (inr h)) f)
  tests_agree (IsFile p) t s within f = files p t s f (at p (within (At p) refl))
  tests_agree (IsLink p) t s within f = links p t s f (at p (within (At p) refl))
  tests_agree (IsDir p) t s within f = folders p t s f (at p (within (At p) refl))
  tests_agree (IsEmpty p) t s within f = empties p t s f (within (Below p) refl)
  tests_agree (IsNone p) t s within f = gaps p t s f (at p (within (At p) refl))

  -- ---- changes

  -- the same change at a known path
  changed : (p : Path) (y : Option Entry) (t s u v : Tree) → is_known d p ≡ true → Follows t s → ((c : List ℕ) → HasText y c → IsTextOf es d t0 c)
      → ((q : Path) → map.get u q ≡ cond (path_eq q p) y (map.get t q)) → ((q : Path) → map.get v q ≡ cond (path_eq q p) (mapped m y) (map.get s q)) → Follows u v
  changed p y t s u v known f texts left right = record {
    entries = λ q h. right q ∙ ap (cond (path_eq q p) (mapped m y)) (f.entries q h) ∙ mapped_cond m (path_eq q p) y (map.get t q) ∙ ap (mapped m) (sym (left q));
    texts = λ q c h has. elim (text_of_cond (path_eq q p) y (map.get t q) c (subst (λ r. HasText r c) (left q) has)) [ inl new ↦ texts c new | inr old ↦ f.texts q c h old ];
    rest = λ q h. left q ∙ ap (λ b. cond b y (map.get t q)) (elsewhere q h) ∙ f.rest q h;
    rest_too = λ q h. right q ∙ ap (λ b. cond b (mapped m y) (map.get s q)) (elsewhere q h) ∙ f.rest_too q h;
  }
    where
      elsewhere : (q : Path) → is_known d q ≡ false → path_eq q p ≡ false
      elsewhere q h = path_eq_other q p (λ e. both_ways (is_known d q) h (ap (is_known d) e ∙ known))

  -- where two tests say the same, a step behind them ends alike
  guarded_alike : (a b : Bool) (u v : Tree) → b ≡ a → Follows u v → EndAlike (cond a (Some u) None) (cond b (Some v) None)
  guarded_alike true true u v e f = f
  guarded_alike true false u v e f = cc
  guarded_alike false true u v e f = cc
  guarded_alike false false u v e f = tt

  -- where two tests say the same, and both branches end alike, so does the choice
  branches_alike : (a b : Bool) (r q r' q' : Outcome) → b ≡ a → EndAlike r q → EndAlike r' q' → EndAlike (cond a r r') (cond b q q')
  branches_alike true true r q r' q' e h k = h
  branches_alike true false r q r' q' e h k = cc
  branches_alike false true r q r' q' e h k = cc
  branches_alike false false r q r' q' e h k = k

  -- where two runs end alike, and so does what follows, they end alike with it
  pub then_alike : (r q : Outcome) (f g : Tree → Outcome) → EndAlike r q → ((u v : Tree) → Follows u v → EndAlike (f u) (g v)) → EndAlike (and_then r f) (and_then q g)
  then_alike None None f g h k = tt
  then_alike None (Some v) f g h k = absurd h
  then_alike (Some u) None f g h k = absurd h
  then_alike (Some u) (Some v) f g h k = k u v h

  -- making an entry, and the mapped one in the shadow, ends alike
  made_alike : (p : Path) (x : Entry) (t s : Tree) → is_known d p ≡ true → Follows t s → ((c : List ℕ) → HasText (Some x) c → IsTextOf es d t0 c)
      → EndAlike (made p x t) (made p (mapped_entry m x) s)
  made_alike p x t s h f texts = guarded_alike _ _ _ _
      (ap₂ (λ a b. a && b) (gaps p t s f h) (folders (parent p) t s f (parent_known es d dom p h)))
      (changed p (Some x) t s _ _ h f texts (get-insert path_total t p x) (get-insert path_total s p (mapped_entry m x)))

  -- removing an entry ends alike
  removed_alike : (p : Path) (t s : Tree) → AnyMentions es (Below p) → Follows t s → EndAlike (removed p t) (removed p s)
  removed_alike p t s h f = guarded_alike _ _ _ _
      (ap₂ (λ a b. a || b) (ap₂ (λ a b. a || b) (files p t s f (below p h)) (links p t s f (below p h))) (ap (λ b. not (is_root p) && b) (empties p t s f h)))
      (changed p None t s _ _ (below p h) f (λ c has. absurd has) (get-remove path_total t p) (get-remove path_total s p))

  -- copying a file, and the mapped one in the shadow, ends alike
  copied_alike : (r : Option Entry) (p : Path) (t s : Tree) → is_known d p ≡ true → Follows t s → ((c : List ℕ) → HasText r c → IsTextOf es d t0 c)
      → EndAlike (copied r p t) (copied (mapped m r) p s)
  copied_alike None p t s h f texts = tt
  copied_alike (Some Folder) p t s h f texts = tt
  copied_alike (Some (File content)) p t s h f texts = made_alike p (File content) t s h f texts
  copied_alike (Some (LinkTo target)) p t s h f texts = tt

  -- a constant is its own image
  constant_of : (c : List ℕ) → AnyMentions es (Text c) → (b : List ℕ) → b ≡ c → IsTextOf es d t0 b
  constant_of c h b e = inl (subst (λ x. AnyMentions es (Text x)) (sym e) h)

  mutual
    -- a program of the list ends alike from a tree and its shadow
    pub runs_alike : (e : Program) (t s : Tree) → ((x : Matter) → Mentions e x → AnyMentions es x) → Follows t s → EndAlike (run e t) (run e s)
    runs_alike Id t s within f = f
    runs_alike Err t s within f = tt
    runs_alike (Mkdir p) t s within f = made_alike p Folder t s (at p (within (At p) refl)) f (λ c has. absurd has)
    runs_alike (Creat p content) t s within f =
        let constant = within (Text content) (inr refl) in
        subst (λ c. EndAlike (made p (File content) t) (made p (File c) s)) (shadow.constants content constant)
        (made_alike p (File content) t s (at p (within (At p) (inl refl))) f (constant_of content constant))
    runs_alike (Link p target) t s within f =
        let constant = within (Text target) (inr refl) in
        subst (λ c. EndAlike (made p (LinkTo target) t) (made p (LinkTo c) s)) (shadow.constants target constant)
        (made_alike p (LinkTo target) t s (at p (within (At p) (inl refl))) f (constant_of target constant))
    runs_alike (Rm p) t s within f = removed_alike p t s (within (Below p) refl) f
    runs_alike (Cp from p) t s within f =
        let h = at from (within (At from) (inl refl)) in
        subst (λ r. EndAlike (copied (map.get t from) p t) (copied r p s)) (sym (f.entries from h))
        (copied_alike (map.get t from) p t s (at p (within (At p) (inr refl))) f (λ c has. f.texts from c h has))
    runs_alike (Steps ps) t s within f = steps_alike ps t s within f
    runs_alike (If a e g) t s within f = branches_alike _ _ _ _ _ _ (tests_agree a t s (λ x h. within x (inl h)) f)
        (runs_alike e t s (λ x h. within x (inr (inl h))) f) (runs_alike g t s (λ x h. within x (inr (inr h))) f)

    -- and so do its steps
    steps_alike : (ps : Programs) (t s : Tree) → ((x : Matter) → StepsMention ps x → AnyMentions es x) → Follows t s → EndAlike (run_all ps t) (run_all ps s)
    steps_alike none t s within f = f
    steps_alike (next e ps) t s within f =
        then_alike (run e t) (run e s) (run_all ps) (run_all ps) (runs_alike e t s (λ x h. within x (inl h)) f) (λ u v g. steps_alike ps u v (λ x h. within x (inr h)) g)
