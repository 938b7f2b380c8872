-- The folders of paths, and no others.
use Rattle.std.proofs.Common.{◌≡◌, ◌≢◌, ◌↔◌, ◌⊎◌, inl, inr, ℕ, Bool, true, false, true≢false, cond, ◌||◌, List, [], ◌∷◌, ◌++◌, map, Option, Some, None, is_some, append_assoc, refl, sym, ap, subst, ◌∙◌}
use Rattle.std.proofs.lemmas.Option.{same_Some, none-some}
use Rattle.std.specs.Prelude.{IsTrue}
use Rattle.std.specs.List.{list_any, AllByRecursion}
use Rattle.std.specs.FinMap as finite
use Rattle.std.specs.FinMap.{get-empty, get-insert, same_map, contains_key-keys}
use Rattle.fs_semantics.specs.FileTree.{Path, Entry, Folder, Tree, IsTree, IsSegment, parent, path_cmp, path_eq, is_among}
use Rattle.fs_semantics.proofs.Trees.{path_total, path_same, among_word, parent_is_above}
use Rattle.given_links.specs.Links.{IsWithin}
use Rattle.given_text.specs.Folders.{IsAboveOne, HasJust}
use Rattle.given_text.specs.Reading.{fronts, with_folders, with_paths}

-- ---- what stands where

-- nothing stands in the empty tree
nothing_at : (p : Path) → finite.get {X = Entry} (finite.empty {R = path_cmp}) p ≡ None
nothing_at p = get-empty path_cmp p

-- a choice of the same under one condition or else another is a choice under either
merged : {X : Type 0} (a b : Bool) (x y : X) → cond b x (cond a x y) ≡ cond (a || b) x y
merged true true x y = refl
merged true false x y = refl
merged false b x y = refl

-- after folders were put, a folder stands at each of them, and elsewhere what stood
after_folders : (ps : List Path) (t : Tree) (p : Path) → finite.get (with_folders t ps) p ≡ cond (is_among p ps) (Some Folder) (finite.get t p)
after_folders [] t p = refl
after_folders (q ∷ ps) t p =
    after_folders ps (finite.insert t q Folder) p ∙ ap (cond (is_among p ps) (Some Folder)) (get-insert path_total t q Folder p)
    ∙ merged (path_eq p q) (is_among p ps) (Some Folder) (finite.get t p)

-- it is a front of one of these
abbrev pub is_front_of_one : Path → List Path → Bool
is_front_of_one p paths = list_any (λ q. is_among p (fronts q)) paths

-- after the fronts of paths were put, a folder stands at each of them, and elsewhere what stood
after_paths : (paths : List Path) (t : Tree) (p : Path) → finite.get (with_paths t paths) p ≡ cond (is_front_of_one p paths) (Some Folder) (finite.get t p)
after_paths [] t p = refl
after_paths (q ∷ paths) t p =
    after_paths paths (with_folders t (fronts q)) p ∙ ap (cond (is_front_of_one p paths) (Some Folder)) (after_folders (fronts q) t p)
    ∙ merged (is_among p (fronts q)) (is_front_of_one p paths) (Some Folder) (finite.get t p)

-- ---- fronts

-- among paths with a segment more in front, each is one of the paths with that segment
among_longer : (s : List ℕ) (p : Path) (ps : List Path) → IsTrue (is_among p (map (λ q. s ∷ q) ps)) → (q : Path) × (p ≡ s ∷ q) × IsTrue (is_among q ps)
among_longer s p [] h = absurd (true≢false (sym h))
among_longer s p (r ∷ ps) h = elim ((among_word p (s ∷ r) (map (λ q. s ∷ q) ps)).0 h) [
  | inl e ↦ (r, e, (among_word r r ps).1 (inl refl))
  | inr later ↦ (let found = among_longer s p ps later in (found.0, found.1, (among_word found.0 r ps).1 (inr found.2)))
]

-- and each of the paths with that segment is among them
longer_among : (s : List ℕ) (q : Path) (ps : List Path) → IsTrue (is_among q ps) → IsTrue (is_among (s ∷ q) (map (λ r. s ∷ r) ps))
longer_among s q [] h = absurd (true≢false (sym h))
longer_among s q (r ∷ ps) h = elim ((among_word q r ps).0 h) [
  | inl e ↦ (among_word (s ∷ q) (s ∷ r) (map (λ l. s ∷ l) ps)).1 (inl (ap (λ l. s ∷ l) e))
  | inr later ↦ (among_word (s ∷ q) (s ∷ r) (map (λ l. s ∷ l) ps)).1 (inr (longer_among s q ps later))
]

-- a front of a path isn't the root, and the path is it or below it
front_is : (q p : Path) → IsTrue (is_among p (fronts q)) → (p ≢ []) × IsWithin q p
front_is [] p h = absurd (true≢false (sym h))
front_is (s ∷ q) p h = elim ((among_word p (s ∷ []) (map (λ r. s ∷ r) (fronts q))).0 h) [
  | inl e ↦ ((λ n. no_segment s [] (sym e ∙ n)), (q, ap (λ l. l ++ q) (sym e)))
  | inr later ↦ (let found = among_longer s p (fronts q) later in
      let rest = front_is q found.0 found.2 in
      ((λ n. no_segment s found.0 (sym found.1 ∙ n)), (rest.1.0, ap (λ l. s ∷ l) rest.1.1 ∙ ap (λ l. l ++ rest.1.0) (sym found.1))))
]
  where
    no_segment : (s : List ℕ) (p : Path) → ◌≡◌ {A = Path} (s ∷ p) [] → ⊥
    no_segment s p e = cc

-- and what isn't the root, and has the path at or below it, is a front
is_front : (q p : Path) → p ≢ [] → IsWithin q p → IsTrue (is_among p (fronts q))
is_front q [] n w = absurd (n refl)
is_front [] (r ∷ p) n w = absurd (none r p w.0 w.1)
  where
    none : (r : List ℕ) (p more : Path) → ◌≡◌ {A = Path} [] (r ∷ p ++ more) → ⊥
    none r p more e = cc
is_front (s ∷ q) (r ∷ []) n w =
    (among_word (r ∷ []) (s ∷ []) (map (λ l. s ∷ l) (fronts q))).1 (inl (heads s r q w.0 w.1))
  where
    heads : (s r : List ℕ) (q more : Path) → ◌≡◌ {A = Path} (s ∷ q) (r ∷ more) → ◌≡◌ {A = Path} (r ∷ []) (s ∷ [])
    heads s r q more e = let same : s ≡ r = cc in ap (λ l. l ∷ []) (sym same)
is_front (s ∷ q) (r ∷ t ∷ p) n w =
    let same = parts s r q (t ∷ p ++ w.0) w.1 in
    (among_word (r ∷ t ∷ p) (s ∷ []) (map (λ l. s ∷ l) (fronts q))).1
    (inr (subst (λ l. IsTrue (is_among (l ∷ t ∷ p) (map (λ l. s ∷ l) (fronts q)))) same.0
    (longer_among s (t ∷ p) (fronts q) (is_front q (t ∷ p) (λ e. some t p e) (w.0, same.1)))))
  where
    parts : (s r : List ℕ) (q rest : Path) → ◌≡◌ {A = Path} (s ∷ q) (r ∷ rest) → (s ≡ r) × (q ≡ rest)
    parts s r q rest e = (cc, cc)

    some : (t : List ℕ) (p : Path) → ◌≡◌ {A = Path} (t ∷ p) [] → ⊥
    some t p e = cc

-- of a disjunction that is true one side is true
either : (a b : Bool) → IsTrue (a || b) → IsTrue a ⊎ IsTrue b
either true b h = inl h
either false b h = inr h

-- a disjunction with a true left side is true
first_or : (a b : Bool) → IsTrue a → IsTrue (a || b)
first_or true b h = refl
first_or false b h = absurd (true≢false (sym h))

-- a disjunction with a true right side is true
later_or : (a b : Bool) → IsTrue b → IsTrue (a || b)
later_or true b h = refl
later_or false b h = h

-- a front of one of these is one of them or above one, and not the root
above_one : (paths : List Path) (p : Path) → IsTrue (is_front_of_one p paths) → (p ≢ []) × IsAboveOne p paths
above_one [] p h = absurd (true≢false (sym h))
above_one (q ∷ paths) p h = elim (either (is_among p (fronts q)) (is_front_of_one p paths) h) [
  | inl here ↦ (let w = front_is q p here in (w.0, inl w.1))
  | inr later ↦ (let w = above_one paths p later in (w.0, inr w.1))
]

-- and what is one of them or above one, and not the root, is a front of one
is_above_one : (paths : List Path) (p : Path) → p ≢ [] → IsAboveOne p paths → IsTrue (is_front_of_one p paths)
is_above_one [] p n h = absurd h
is_above_one (q ∷ paths) p n (inl w) = first_or (is_among p (fronts q)) (is_front_of_one p paths) (is_front q p n w)
is_above_one (q ∷ paths) p n (inr later) = later_or (is_among p (fronts q)) (is_front_of_one p paths) (is_above_one paths p n later)

-- ---- the tree of the folders of paths

-- where nothing stood, what stands now is a folder, and the condition holds
stands : (b : Bool) (o : Option Entry) (x : Entry) → o ≡ None → cond b (Some Folder) o ≡ Some x → IsTrue b × (x ≡ Folder)
stands true o x none h = (refl, sym (same_Some Folder x h))
stands false o x none h = absurd (none-some x (sym none ∙ h))

-- and under the condition a folder does
stood : (b : Bool) (o : Option Entry) (x : Entry) → IsTrue b → x ≡ Folder → cond b (Some Folder) o ≡ Some x
stood true o x h e = ap (λ y. Some y) (sym e)
stood false o x h e = absurd (true≢false (sym h))

-- the tree of the fronts of paths has just these and what lies above them
pub just : (paths : List Path) (t : Tree) → IsTree t → t ≡ with_paths finite.empty paths → HasJust paths t
just paths t tree is = record {
  is_tree = tree;
  each = λ p x.
      let at = ap (λ u. finite.get u p) is ∙ after_paths paths finite.empty p in (
        (λ h. let s = stands (is_front_of_one p paths) (finite.get finite.empty p) x (nothing_at p) (sym at ∙ h) in
            let w = above_one paths p s.0 in (s.1, w.0, w.1)),
        (λ h. at ∙ stood (is_front_of_one p paths) (finite.get finite.empty p) x (is_above_one paths p h.1 h.2) h.0),
      );
}

-- paths, and then others
pub paths_behind : (paths others : List Path) (t : Tree) → with_paths t (paths ++ others) ≡ with_paths (with_paths t paths) others
paths_behind [] others t = refl
paths_behind (p ∷ paths) others t = paths_behind paths others (with_folders t (fronts p))

-- ---- one tree

-- there is one tree of just these paths and what lies above them
pub same_tree : (paths : List Path) (t u : Tree) → HasJust paths t → HasJust paths u → t ≡ u
same_tree paths t u is was = same_map path_total path_same t u (λ q. at q (finite.get t q) (finite.get u q) refl refl)
  where
    at : (q : Path) (a b : Option Entry) → finite.get t q ≡ a → finite.get u q ≡ b → a ≡ b
    at q None None e f = refl
    at q (Some x) b e f = sym ((was.each q x).1 ((is.each q x).0 e)) ∙ f
    at q None (Some y) e f = sym e ∙ (is.each q y).1 ((was.each q y).0 f)

-- ---- its paths

-- what is told to be there is there
some_there : (o : Option Entry) → IsTrue (is_some o) → (x : Entry) × (o ≡ Some x)
some_there None h = absurd (true≢false (sym h))
some_there (Some x) h = (x, refl)

-- at each path of a tree something stands
pub among_keys : (t : Tree) (p : Path) → IsTrue (is_among p (finite.keys t)) → (x : Entry) × (finite.get t p ≡ Some x)
among_keys t p h = some_there (finite.get t p) (subst IsTrue (sym (contains_key-keys t p)) h)

-- and each path at which something stands is one of the tree's
pub keys_among : (t : Tree) (p : Path) (x : Entry) → finite.get t p ≡ Some x → IsTrue (is_among p (finite.keys t))
keys_among t p x h = subst IsTrue (contains_key-keys t p) (subst (λ o. IsTrue (is_some o)) (sym h) refl)

-- the paths of such a tree are those of the list and those above them, but the root
pub folders_where : (paths : List Path) (t : Tree) → HasJust paths t → (p : Path) → IsTrue (is_among p (finite.keys t)) ↔ ((p ≢ []) × IsAboveOne p paths)
folders_where paths t is p = (
  (λ h. let there = among_keys t p h in let w = (is.each p there.0).0 there.1 in (w.1, w.2)),
  (λ h. keys_among t p Folder ((is.each p Folder).1 (refl, h.0, h.1))),
)

-- what holds of each member of a list holds of all
pub all_among : (P : Path → Type 0) (ps : List Path) → ((p : Path) → IsTrue (is_among p ps) → P p) → AllByRecursion P ps
all_among P [] h = tt
all_among P (q ∷ ps) h = (h q ((among_word q q ps).1 (inl refl)), all_among P ps (λ p later. h p ((among_word p q ps).1 (inr later))))

-- the paths of such a tree are made of segments
pub folders_proper : (paths : List Path) (t : Tree) → HasJust paths t → AllByRecursion (AllByRecursion IsSegment) (finite.keys t)
folders_proper paths t is = all_among (AllByRecursion IsSegment) (finite.keys t) (λ p h. is.is_tree.paths p (subst IsTrue (sym (contains_key-keys t p)) h))

-- ---- parents

-- what is below something below a path is below the path
within_above : (q p above : Path) → IsWithin q p → IsWithin p above → IsWithin q above
within_above q p above w v = (v.0 ++ w.0, w.1 ∙ (ap (λ l. l ++ w.0) v.1 ∙ append_assoc above v.0 w.0))

-- what is above something above one of the paths is above one of them
one_above : (paths : List Path) (p above : Path) → IsWithin p above → IsAboveOne p paths → IsAboveOne above paths
one_above [] p above v h = absurd h
one_above (q ∷ paths) p above v (inl w) = inl (within_above q p above w v)
one_above (q ∷ paths) p above v (inr later) = inr (one_above paths p above v later)

-- the parent of each path of such a tree is the root or one of its paths
pub parents_stand : (paths : List Path) (t : Tree) → HasJust paths t → (p : Path) → IsTrue (is_among p (finite.keys t)) → (parent p ≡ []) ⊎ IsTrue (is_among (parent p) (finite.keys t))
parents_stand paths t is p h =
    let w = (folders_where paths t is p).0 h in
    let above = parent_is_above p w.0 in
    at (parent p) refl (one_above paths p (parent p) (above.0, above.2) w.1)
  where
    some : (s : List ℕ) (q : Path) → ◌≡◌ {A = Path} (s ∷ q) [] → ⊥
    some s q e = cc

    at : (q : Path) → parent p ≡ q → IsAboveOne (parent p) paths → (parent p ≡ []) ⊎ IsTrue (is_among (parent p) (finite.keys t))
    at [] e one = inl e
    at (s ∷ q) e one = inr ((folders_where paths t is (parent p)).1 ((λ none. some s q (sym e ∙ none)), one))
