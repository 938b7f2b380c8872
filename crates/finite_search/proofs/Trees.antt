-- Finitely many trees have their paths in one list and their contents in another.
use Rattle.std.proofs.Common.{◌≡◌, ℕ, Bool, true, false, cond, ◌||◌, List, [], ◌∷◌, Some, None, refl, sym, ap, subst, ◌∙◌}
use Rattle.std.proofs.lemmas.Bool.{or_left, or_right}
use Rattle.std.specs.Prelude.{Option, IsTrue, is_some}
use Rattle.std.specs.List.{AllByRecursion}
use Rattle.std.specs.FinMap as map
use Rattle.std.specs.FinMap.{get-empty, get-insert, get-remove, same_map}
use Rattle.fs_semantics.specs.FileTree.{Path, path_cmp, path_eq, is_among, Entry, Folder, File, Link, HasText, Tree}
use Rattle.fs_semantics.proofs.Trees.{path_total, path_same, path_eq_refl, path_eq_same}
use Rattle.finite_domain.specs.Domains.{text_eq, is_text_among}
use Rattle.finite_domain.proofs.Texts.{text_same, text_itself}
use Rattle.finite_search.proofs.Deciding.{Decided, decided_as, decided_both, decided_all, all_found, found_all}

-- the content or target, where there is one, is in the list
abbrev pub HasTextAmong : List (List ℕ) → Option Entry → Type 0
HasTextAmong cs x = (c : List ℕ) → HasText x c → IsTrue (is_text_among c cs)

-- each path of the tree is in the one list, and each content and target in the other
pub record IsMadeOf (ps : List Path) (cs : List (List ℕ)) (t : Tree) : Type 0 where
  pub paths : (p : Path) → IsTrue (map.contains_key t p) → IsTrue (is_among p ps)
  pub texts : (p : Path) → HasTextAmong cs (map.get t p)

-- whether nothing and all entries with these texts have what is decided of each
decided_entries : (cs : List (List ℕ)) (P : Option Entry → Type 0) → ((x : Option Entry) → Decided (P x)) → Decided ((x : Option Entry) → HasTextAmong cs x → P x)
decided_entries cs P d =
    decided_as there back (decided_both (d None) (decided_both (d (Some Folder)) (decided_all Both (λ c. decided_both (d (Some (File c))) (d (Some (Link c)))) cs)))
  where
    Both : List ℕ → Type 0
    Both c = P (Some (File c)) × P (Some (Link c))

    at : AllByRecursion Both cs → (c : List ℕ) → IsTrue (is_text_among c cs) → Both c
    at h c k = all_found text_eq text_same Both cs h c k

    there : P None × (P (Some Folder) × AllByRecursion Both cs) → (x : Option Entry) → HasTextAmong cs x → P x
    there h None k = h.0
    there h (Some Folder) k = h.1.0
    there h (Some (File c)) k = (at h.1.1 c (k c refl)).0
    there h (Some (Link c)) k = (at h.1.1 c (k c refl)).1

    only : (c d : List ℕ) → IsTrue (is_text_among c cs) → d ≡ c → IsTrue (is_text_among d cs)
    only c d k e = ap (λ b. is_text_among b cs) e ∙ k

    back : ((x : Option Entry) → HasTextAmong cs x → P x) → P None × (P (Some Folder) × AllByRecursion Both cs)
    back f = (
      f None (λ c h. absurd h),
      (
        f (Some Folder) (λ c h. absurd h),
        found_all text_eq (λ c. text_itself c c refl) Both cs (λ c k. (f (Some (File c)) (λ d e. only c d k e), f (Some (Link c)) (λ d e. only c d k e))),
      ),
    )

-- the tree with this at the path
placed : Tree → Path → Option Entry → Tree
placed t p None = map.remove t p
placed t p (Some x) = map.insert t p x

-- what stands in it at each path
get-placed : (t : Tree) (p : Path) (x : Option Entry) (q : Path) → map.get (placed t p x) q ≡ cond (path_eq q p) x (map.get t q)
unfolding placed
get-placed t p None q = get-remove path_total t p q
get-placed t p (Some x) q = get-insert path_total t p x q

-- what both of two values have, the one that a test chooses has
by_cases : {A : Type 0} (P : A → Type 0) (b : Bool) (x y : A) → (b ≡ true → P x) → (b ≡ false → P y) → P (cond b x y)
by_cases P true x y f g = f refl
by_cases P false x y f g = g refl

-- what stands in the tree with this at the path: this there, and elsewhere what stood in the tree
at_placed : (Q : Path → Option Entry → Type 0) (t : Tree) (p : Path) (x : Option Entry) → Q p x → ((q : Path) → Q q (map.get t q)) → (q : Path) → Q q (map.get (placed t p x) q)
at_placed Q t p x h k q = subst (Q q) (sym (get-placed t p x q)) (by_cases (Q q) (path_eq q p) x (map.get t q) (λ e. subst (λ r. Q r x) (sym (path_eq_same q p e)) h) (λ e. k q))

module _ (cs : List (List ℕ)) where
  -- with something of these texts at one more path, a tree is of one more path
  made_with : (p : Path) (ps : List Path) (t : Tree) (x : Option Entry) → IsMadeOf ps cs t → HasTextAmong cs x → IsMadeOf (p ∷ ps) cs (placed t p x)
  made_with p ps t x made fits = record {
    paths = at_placed (λ q y. IsTrue (is_some y) → IsTrue (is_among q (p ∷ ps))) t p x (λ k. or_left _ _ (path_eq_refl p)) (λ q k. or_right _ _ (made.paths q k));
    texts = at_placed (λ q y. HasTextAmong cs y) t p x fits made.texts;
  }

  -- a path that still has an entry once what stood at the first path is taken away is one of the others
  left_without : (p q : Path) (ps : List Path) (x : Option Entry) → (IsTrue (is_some x) → IsTrue (is_among q (p ∷ ps))) → IsTrue (is_some (cond (path_eq q p) None x)) → IsTrue (is_among q ps)
  left_without p q ps x h k = elim (path_eq q p) as (λ b. IsTrue (is_some (cond b None x)) → (IsTrue (is_some x) → (b || is_among q ps) ≡ true) → IsTrue (is_among q ps)) [
    | true ↦ λ k h. cc
    | false ↦ λ k h. h k
  ] k h

  -- without what stands at the first path it is of the others
  made_without : (p : Path) (ps : List Path) (t : Tree) → IsMadeOf (p ∷ ps) cs t → IsMadeOf ps cs (placed t p None)
  made_without p ps t made = record {
    paths = λ q k. left_without p q ps (map.get t q) (made.paths q) (subst (λ y. IsTrue (is_some y)) (get-placed t p None q) k);
    texts = at_placed (λ q y. HasTextAmong cs y) t p None (λ c h. absurd h) made.texts;
  }

  -- of two choices by one test the first counts
  over : {A : Type 0} (b : Bool) (x y z : A) → cond b x (cond b y z) ≡ cond b x z
  over true x y z = refl
  over false x y z = refl

  -- a tree without what stands at a path, and then with it, is the tree
  put_back : (t : Tree) (p : Path) → placed (placed t p None) p (map.get t p) ≡ t
  put_back t p = same_map path_total path_same _ _ (λ q.
      get-placed (placed t p None) p (map.get t p) q ∙ ap (cond (path_eq q p) (map.get t p)) (get-placed t p None q)
      ∙ over (path_eq q p) (map.get t p) None (map.get t q)
      ∙ by_cases (λ x. x ≡ map.get t q) (path_eq q p) (map.get t p) (map.get t q) (λ e. ap (map.get t) (sym (path_eq_same q p e))) (λ e. refl))

  -- where there isn't an entry, there is none
  none_of : (x : Option Entry) → (IsTrue (is_some x) → ⊥) → x ≡ None
  none_of None h = refl
  none_of (Some e) h = absurd (h refl)

  -- and the other way round
  not_there : (x : Option Entry) → x ≡ None → IsTrue (is_some x) → ⊥
  not_there None e k = cc
  not_there (Some y) e k = cc

  -- a tree of no path is the empty one
  made_of_none : (t : Tree) → IsMadeOf [] cs t → t ≡ map.empty
  made_of_none t made = same_map path_total path_same _ _ (λ q. none_of (map.get t q) (λ k. let bad = made.paths q k in cc) ∙ sym (get-empty path_cmp q))

  -- and the empty tree is of no path
  empty_made : IsMadeOf [] cs map.empty
  empty_made = record {
    paths = λ p k. absurd (not_there (map.get map.empty p) (get-empty path_cmp p) k);
    texts = λ p c h. absurd (subst (λ x. HasText x c) (get-empty path_cmp p) h);
  }

  -- whether all trees of these paths and texts have what is decided of each
  pub decided_trees : (ps : List Path) (P : Tree → Type 0) → ((t : Tree) → Decided (P t)) → Decided ((t : Tree) → IsMadeOf ps cs t → P t)
  decided_trees [] P d = decided_as (λ h t made. subst P (sym (made_of_none t made)) h) (λ f. f map.empty empty_made) (d map.empty)
  decided_trees (p ∷ ps) P d =
      decided_as {P = (t : Tree) → IsMadeOf ps cs t → (x : Option Entry) → HasTextAmong cs x → P (placed t p x)}
      (λ h t made. subst P (put_back t p) (h (placed t p None) (made_without p ps t made) (map.get t p) (made.texts p)))
      (λ f t made x fits. f (placed t p x) (made_with p ps t x made fits))
      (decided_trees ps (λ t. (x : Option Entry) → HasTextAmong cs x → P (placed t p x)) (λ t. decided_entries cs (λ x. P (placed t p x)) (λ x. d (placed t p x))))
