-- Every tree has a shadow.
use Rattle.std.proofs.Common.{◌≡◌, ◌⊎◌, ℕ, Bool, true, false, cond, ◌&&◌, ◌||◌, not, List, [], ◌∷◌, ◌++◌, Option, Some, None, inl, inr, refl, sym, ap, subst, ◌∙◌}
use Rattle.std.specs.Prelude.{is_some, IsTrue}
use Rattle.std.specs.List.{AllByRecursion}
use Rattle.std.specs.FinMap as map
use Rattle.std.specs.FinMap.{get-empty, get-insert}
use Rattle.std.proofs.lemmas.Bool.{cases_Bool, or_cases, or_left, or_right, and_parts, both_ways, false_from_ne_true}
use Rattle.std.proofs.lemmas.List.Folds.{list_any-append}
use Rattle.fs_semantics.specs.FileTree.{Segment, IsBytes, IsSegment, Path, Entry, Folder, File, Link as LinkTo, Tree, IsTree, parent, path_cmp, path_eq, is_root, is_dir, is_folder_entry, is_among, HasText}
use Rattle.fs_semantics.specs.Programs.{Program}
use Rattle.fs_semantics.proofs.Trees.{path_total, path_eq_refl, path_eq_same}
use Rattle.finite_domain.specs.Mentions.{Text, AnyMentions}
use Rattle.finite_domain.specs.Domains.{text_eq, Domain, is_known, is_text_among, IsDomain}
use Rattle.finite_domain.specs.Shadows.{mapped, has_other, IsTextOf, IsShadow}
use Rattle.finite_domain.proofs.Texts.{text_same, text_itself}
use Rattle.fs_semantics.proofs.Keys.{key_from}
use Rattle.finite_domain.proofs.Paths.{parent_child, child_no_root, spoken_known, parent_known, named_known, fresh_unknown}
use Rattle.finite_domain.proofs.Runs.{folder_mapped, some_mapped}
use Rattle.finite_domain.proofs.Steps.{text_of_mapped}

-- ---- the tree that has at the paths of a list what a function says

-- the tree with this at a path, if it is an entry
abbrev with_entry : Tree → Path → Option Entry → Tree
with_entry t p None = t
with_entry t p (Some x) = map.insert t p x

-- the tree that has at these paths what a function says
tree_of : (Path → Option Entry) → List Path → Tree
tree_of f [] = map.empty
tree_of f (p ∷ ps) = with_entry (tree_of f ps) p (f p)

-- a path that comes first takes what is there, which the function says as well
chosen : (b a : Bool) (x y : Option Entry) → (b ≡ true → y ≡ x) → cond b x (cond a y None) ≡ cond (b || a) y None
chosen true a x y h = sym (h refl)
chosen false a x y h = refl

-- a path without an entry takes none
passed : (b a : Bool) (y : Option Entry) → (b ≡ true → y ≡ None) → cond a y None ≡ cond (b || a) y None
passed true true y h = refl
passed true false y h = sym (h refl)
passed false a y h = refl

-- what stands at a path of the tree with one more
get_with : (t : Tree) (p q : Path) (x y : Option Entry) (a : Bool) → map.get t q ≡ cond a y None → (path_eq q p ≡ true → y ≡ x) → map.get (with_entry t p x) q ≡ cond (path_eq q p || a) y None
get_with t p q None y a h k = h ∙ passed (path_eq q p) a y k
get_with t p q (Some x) y a h k = get-insert path_total t p x q ∙ ap (cond (path_eq q p) (Some x)) h ∙ chosen (path_eq q p) a (Some x) y k

-- at each of the paths stands what the function says, and nothing elsewhere
get_tree_of : (f : Path → Option Entry) (ps : List Path) (q : Path) → map.get (tree_of f ps) q ≡ cond (is_among q ps) (f q) None
unfolding tree_of
get_tree_of f [] q = get-empty path_cmp q
get_tree_of f (p ∷ ps) q = get_with (tree_of f ps) p q (f p) (f q) (is_among q ps) (get_tree_of f ps q) (λ e. ap f (path_eq_same q p e))

-- ---- texts

-- whether the text is the content or the target of the entry
has_text : Option Entry → List ℕ → Bool
has_text None c = false
has_text (Some Folder) c = false
has_text (Some (File content)) c = text_eq c content
has_text (Some (LinkTo target)) c = text_eq c target

-- a text that is told to be an entry's is
has_text-true : (r : Option Entry) (c : List ℕ) → has_text r c ≡ true → HasText r c
unfolding has_text
has_text-true None c h = cc
has_text-true (Some Folder) c h = cc
has_text-true (Some (File content)) c h = text_same c content h
has_text-true (Some (LinkTo target)) c h = text_same c target h

-- an entry's text is told to be
true-has_text : (r : Option Entry) (c : List ℕ) → HasText r c → has_text r c ≡ true
unfolding has_text
true-has_text None c h = absurd h
true-has_text (Some Folder) c h = absurd h
true-has_text (Some (File content)) c h = text_itself c content h
true-has_text (Some (LinkTo target)) c h = text_itself c target h

-- an entry has one text at most
one_text : (r : Option Entry) (b c : List ℕ) → HasText r b → HasText r c → b ≡ c
one_text None b c h k = absurd h
one_text (Some Folder) b c h k = absurd h
one_text (Some (File content)) b c h k = h ∙ sym k
one_text (Some (LinkTo target)) b c h k = h ∙ sym k

-- the first of the paths at which the tree has the text
first_with : Tree → List ℕ → List Path → Path
first_with t c [] = []
first_with t c (p ∷ ps) = cond (has_text (map.get t p) c) p (first_with t c ps)

-- a path of the list at which the tree has the text
abbrev IsPlaceOf : Tree → List ℕ → List Path → Path → Type 0
IsPlaceOf t c ps p = IsTrue (is_among p ps) × HasText (map.get t p) c

-- where some path has the text, the first one does
first_has : (t : Tree) (c : List ℕ) (ps : List Path) (p : Path) → IsPlaceOf t c ps p → IsPlaceOf t c ps (first_with t c ps)
unfolding first_with
first_has t c [] p h = let no : ◌≡◌ false true = h.0 in cc
first_has t c (k ∷ ks) p h = elim (has_text (map.get t k) c) as (λ b. has_text (map.get t k) c ≡ b → IsPlaceOf t c (k ∷ ks) (cond b k (first_with t c ks))) [
  | true ↦ λ e. (or_left _ _ (path_eq_refl k), has_text-true (map.get t k) c e)
  | false ↦ λ e. elim (or_cases (path_eq p k) (is_among p ks) h.0) [
    | inl same ↦ absurd (both_ways _ e (ap (λ q. has_text (map.get t q) c) (sym (path_eq_same p k same)) ∙ true-has_text (map.get t p) c h.1))
    | inr later ↦ let rest = first_has t c ks p (later, h.1) in (or_right _ _ rest.0, rest.1)
  ]
] refl

-- ---- segments

-- the parent of a path of segments is made of segments
parent_segments : (p : Path) → AllByRecursion IsSegment p → AllByRecursion IsSegment (parent p)
parent_segments [] all = tt
parent_segments (s ∷ []) all = tt
parent_segments (s ∷ r ∷ p) all = (all.0, parent_segments (r ∷ p) all.1)

-- so is a path with one segment more
child_segments : (p : Path) (s : Segment) → AllByRecursion IsSegment p → IsSegment s → AllByRecursion IsSegment (p ++ s ∷ [])
child_segments [] s all is = (is, tt)
child_segments (r ∷ p) s all is = (all.0, child_segments p s all.1 is)

-- what stands in one of two lists, by the first, and then by the second
two_lists : (a b : Bool) (x y : Option Entry) → cond (a || b) (cond a x y) None ≡ cond a x (cond b y None)
two_lists true b x y = refl
two_lists false b x y = refl

-- an entry is there exactly where the test for it is true
is_some-cond : (b : Bool) (x : Entry) → is_some (cond b (Some x) None) ≡ b
is_some-cond true x = refl
is_some-cond false x = refl

-- a file that was made empty has the empty text
empty_text : (b : Bool) (c : List ℕ) → HasText (cond b (Some (File [])) None) c → c ≡ []
empty_text true c h = h
empty_text false c h = absurd h

module _ (es : List Program) (d : Domain) (dom : IsDomain es d) (t : Tree) (tree : IsTree t) where
  -- a constant stays; another text becomes that of the first path at which it stands
  m : List ℕ → List ℕ
  m c = cond (is_text_among c dom.constants) c (dom.text (first_with t c d.named))

  -- a child of the path of p that isn't named is seen in a fresh file
  fresh_entry : Path → Option Entry
  fresh_entry q = cond (has_other d t (parent q)) (Some (File [])) None

  -- what the shadow has at a path
  entry_of : Path → Option Entry
  entry_of q = cond (is_among q d.named) (mapped m (map.get t q)) (fresh_entry q)

  -- the shadow: the named paths with their mapped entries, and the fresh files
  s : Tree
  s = tree_of entry_of (d.named ++ d.fresh)

  -- at a named path stands the mapped entry, at a fresh one the file that tells of other children, and nothing elsewhere
  at : (q : Path) → map.get s q ≡ cond (is_among q d.named) (mapped m (map.get t q)) (cond (is_among q d.fresh) (fresh_entry q) None)
  unfolding s entry_of
  at q = get_tree_of _ (d.named ++ d.fresh) q ∙ ap (λ b. cond b (entry_of q) None) (list_any-append (path_eq q) d.named d.fresh)
      ∙ two_lists (is_among q d.named) (is_among q d.fresh) (mapped m (map.get t q)) (fresh_entry q)

  -- at a named path stands the mapped entry
  at_named : (q : Path) → is_among q d.named ≡ true → map.get s q ≡ mapped m (map.get t q)
  at_named q h = at q ∙ ap (λ b. cond b (mapped m (map.get t q)) (cond (is_among q d.fresh) (fresh_entry q) None)) h

  -- at other paths stand the fresh files
  elsewhere : (q : Path) → is_among q d.named ≡ false → map.get s q ≡ cond (is_among q d.fresh) (fresh_entry q) None
  elsewhere q h = at q ∙ ap (λ b. cond b (mapped m (map.get t q)) (cond (is_among q d.fresh) (fresh_entry q) None)) h

  -- no fresh path is named
  fresh_unnamed : (q : Path) → is_among q d.fresh ≡ true → is_among q d.named ≡ false
  fresh_unnamed q h = false_from_ne_true _ (λ k. both_ways (is_known d q) (fresh_unknown es d dom q h) (named_known es d dom q k))

  -- at a fresh path stands a file where the tree has other children
  at_fresh : (q : Path) → is_among q d.fresh ≡ true → map.get s q ≡ fresh_entry q
  at_fresh q h = elsewhere q (fresh_unnamed q h) ∙ ap (λ b. cond b (fresh_entry q) None) h

  -- where the shadow has an entry
  stands : (q : Path) → IsTrue (map.contains_key s q) → (IsTrue (is_among q d.named) × IsTrue (map.contains_key t q)) ⊎ (IsTrue (is_among q d.fresh) × IsTrue (has_other d t (parent q)))
  unfolding fresh_entry
  stands q h = elim (cases_Bool (is_among q d.named)) [
    | inl named ↦ inl (named, sym (ap is_some (at_named q named) ∙ some_mapped m (map.get t q)) ∙ h)
    | inr other ↦ elim (cases_Bool (is_among q d.fresh)) [
      | inl fresh ↦ inr (fresh, sym (ap is_some (at_fresh q fresh) ∙ is_some-cond (has_other d t (parent q)) (File [])) ∙ h)
      | inr none ↦ let gone : ◌≡◌ false true = sym (ap is_some (elsewhere q other ∙ ap (λ b. cond b (fresh_entry q) None) none)) ∙ h in cc
    ]
  ]

  -- the root isn't a named path
  root_unnamed : is_among [] d.named ≡ false
  root_unnamed = false_from_ne_true _ (λ h. ((dom.named []).0 h).not_root refl)

  -- nor a fresh one
  root_not_fresh : is_among [] d.fresh ≡ false
  root_not_fresh = false_from_ne_true _ (λ h. let f = (dom.fresh []).0 h in both_ways _ (child_no_root f.0 dom.other) (ap is_root (sym f.2)))

  -- the shadow has no entry at the root
  no_root : map.get s [] ≡ None
  no_root = elsewhere [] root_unnamed ∙ ap (λ b. cond b (fresh_entry []) None) root_not_fresh

  -- at each known path stands the mapped entry
  entries : (p : Path) → is_known d p ≡ true → map.get s p ≡ mapped m (map.get t p)
  entries [] h = no_root ∙ ap (mapped m) (sym tree.no_root)
  entries (r ∷ p) h = at_named (r ∷ p) h

  -- ---- it is a tree

  -- a known folder is one in the shadow
  folder_kept : (p : Path) → is_known d p ≡ true → is_dir t p ≡ true → is_dir s p ≡ true
  folder_kept [] h k = refl
  folder_kept (r ∷ p) h k = ap is_folder_entry (entries (r ∷ p) h) ∙ folder_mapped m (map.get t (r ∷ p)) ∙ k

  -- a path with another child has a child
  other_child : (p : Path) → has_other d t p ≡ true → (q : Path) × IsTrue (map.contains_key t q) × (parent q ≡ p)
  other_child p h =
      let k = key_from (λ q. path_eq (parent q) p && not (is_known d q)) t h in
      (k.0, k.1, path_eq_same (parent k.0) p (and_parts (path_eq (parent k.0) p) (not (is_known d k.0)) k.2).0)

  -- the paths of the shadow are made of segments
  segments : (q : Path) → IsTrue (map.contains_key s q) → AllByRecursion IsSegment q
  segments q h = elim (stands q h) [
    | inl named ↦ tree.paths q named.1
    | inr fresh ↦
        let f = (dom.fresh q).0 fresh.0 in
        let c = other_child (parent q) fresh.1 in
        let up : parent c.0 ≡ f.0 = c.2 ∙ ap parent f.2 ∙ parent_child f.0 dom.other in
        subst (AllByRecursion IsSegment) (sym f.2) (child_segments f.0 dom.other (subst (AllByRecursion IsSegment) up (parent_segments c.0 (tree.paths c.0 c.1))) dom.other_is)
  ]

  -- the parent of each entry of the shadow is a folder
  parents : (q : Path) → IsTrue (map.contains_key s q) → IsTrue (is_dir s (parent q))
  parents q h = elim (stands q h) [
    | inl named ↦ folder_kept (parent q) (parent_known es d dom q (named_known es d dom q named.0)) (tree.parents q named.1)
    | inr fresh ↦
        let f = (dom.fresh q).0 fresh.0 in
        let c = other_child (parent q) fresh.1 in
        folder_kept (parent q) (ap (is_known d) (ap parent f.2 ∙ parent_child f.0 dom.other) ∙ spoken_known es d dom f.0 (inr f.1)) (subst (λ p. is_dir t p ≡ true) c.2 (tree.parents c.0 c.1))
  ]

  -- ---- its contents

  -- a text that is no constant stands at some named path
  place : (c : List ℕ) → IsTextOf es d t c → is_text_among c dom.constants ≡ false → IsPlaceOf t c d.named (first_with t c d.named)
  place c (inl constant) h = absurd (both_ways _ h ((dom.constants_are c).1 constant))
  place c (inr at) h = first_has t c d.named at.0 (named at.0 at.1 at.2, at.2)
    where
      named : (p : Path) → is_known d p ≡ true → HasText (map.get t p) c → is_among p d.named ≡ true
      named [] known has = absurd (subst (λ r. HasText r c) tree.no_root has)
      named (r ∷ p) known has = known

  -- a constant stays what it is
  constant_stays : (c : List ℕ) → is_text_among c dom.constants ≡ true → m c ≡ c
  unfolding m
  constant_stays c h = ap (λ b. cond b c (dom.text (first_with t c d.named))) h

  -- another text becomes that of the first path at which it stands
  other_text : (c : List ℕ) → is_text_among c dom.constants ≡ false → m c ≡ dom.text (first_with t c d.named)
  unfolding m
  other_text c h = ap (λ b. cond b c (dom.text (first_with t c d.named))) h

  -- a fresh text is no constant
  apart : (b c : List ℕ) → is_text_among b dom.constants ≡ true → is_text_among c dom.constants ≡ false → IsTextOf es d t c → m b ≡ m c → ⊥
  apart b c h k text e =
      dom.new_text (first_with t c d.named) (or_left _ _ (place c text k).0)
      (subst (λ x. AnyMentions es (Text x)) (sym (constant_stays b h) ∙ e ∙ other_text c k) ((dom.constants_are b).0 h))

  -- different texts become different ones
  one_to_one : (b c : List ℕ) → IsTextOf es d t b → IsTextOf es d t c → m b ≡ m c → b ≡ c
  one_to_one b c h k e = elim (cases_Bool (is_text_among b dom.constants)) [
    | inl left ↦ elim (cases_Bool (is_text_among c dom.constants)) [
      | inl right ↦ sym (constant_stays b left) ∙ e ∙ constant_stays c right
      | inr right ↦ absurd (apart b c left right k e)
    ]
    | inr left ↦ elim (cases_Bool (is_text_among c dom.constants)) [
      | inl right ↦ absurd (apart c b right left h (sym e))
      | inr right ↦
          let first = place b h left in
          let second = place c k right in
          let same = dom.own_text _ _ (or_left _ _ first.0) (or_left _ _ second.0) (sym (other_text b left) ∙ e ∙ other_text c right) in
          one_text (map.get t (first_with t c d.named)) b c (subst (λ p. HasText (map.get t p) b) same first.1) second.1
    ]
  ]

  -- what a text becomes is a text of the domain
  image_over : (c : List ℕ) → IsTextOf es d t c → IsTrue (is_text_among (m c) d.contents)
  image_over c h = elim (cases_Bool (is_text_among c dom.constants)) [
    | inl constant ↦ subst (λ x. IsTrue (is_text_among x d.contents)) (sym (constant_stays c constant)) ((dom.contents c).1 (inr (inl ((dom.constants_are c).0 constant))))
    | inr other ↦ (dom.contents (m c)).1 (inr (inr (first_with t c d.named, or_left _ _ (place c h other).0, other_text c other)))
  ]

  -- the texts of the shadow are those of the domain
  contents : (p : Path) (c : List ℕ) → HasText (map.get s p) c → IsTrue (is_text_among c d.contents)
  unfolding fresh_entry
  contents p c h = elim (cases_Bool (is_among p d.named)) [
    | inl named ↦
        let from = text_of_mapped m (map.get t p) c (subst (λ r. HasText r c) (at_named p named) h) in
        subst (λ x. IsTrue (is_text_among x d.contents)) (sym from.2) (image_over from.0 (inr (p, named_known es d dom p named, from.1)))
    | inr other ↦ elim (cases_Bool (is_among p d.fresh)) [
      | inl fresh ↦ (dom.contents c).1 (inl (empty_text (has_other d t (parent p)) c (subst (λ r. HasText r c) (at_fresh p fresh) h)))
      | inr none ↦ absurd (subst (λ r. HasText r c) (elsewhere p other ∙ ap (λ b. cond b (fresh_entry p) None) none) h)
    ]
  ]

  -- what a text becomes is made of bytes
  image_bytes : (p : Path) (c : List ℕ) → HasText (map.get t p) c → IsTextOf es d t c → IsBytes (m c)
  image_bytes p c has text = elim (cases_Bool (is_text_among c dom.constants)) [
    | inl constant ↦ subst IsBytes (sym (constant_stays c constant)) (tree.texts p c has)
    | inr other ↦ subst IsBytes (sym (other_text c other)) (dom.bytes (first_with t c d.named) (or_left _ _ (place c text other).0))
  ]

  -- the texts of the shadow are made of bytes
  texts : (p : Path) (c : List ℕ) → HasText (map.get s p) c → IsBytes c
  unfolding fresh_entry
  texts p c h = elim (cases_Bool (is_among p d.named)) [
    | inl named ↦
        let from = text_of_mapped m (map.get t p) c (subst (λ r. HasText r c) (at_named p named) h) in
        subst IsBytes (sym from.2) (image_bytes p from.0 from.1 (inr (p, named_known es d dom p named, from.1)))
    | inr other ↦ elim (cases_Bool (is_among p d.fresh)) [
      | inl fresh ↦ subst IsBytes (sym (empty_text (has_other d t (parent p)) c (subst (λ r. HasText r c) (at_fresh p fresh) h))) tt
      | inr none ↦ absurd (subst (λ r. HasText r c) (elsewhere p other ∙ ap (λ b. cond b (fresh_entry p) None) none) h)
    ]
  ]

  -- the shadow is a file tree
  is_tree : IsTree s
  is_tree = record { no_root = no_root; paths = segments; parents = parents; texts = texts }

  -- its paths are those of the domain
  paths : (p : Path) → IsTrue (map.contains_key s p) → IsTrue (is_known d p || is_among p d.fresh)
  paths p h = elim (stands p h) [ inl named ↦ or_left _ _ (named_known es d dom p named.0) | inr fresh ↦ or_right _ _ fresh.0 ]

  -- it is a shadow of the tree
  is_shadow : IsShadow es d m t s
  unfolding fresh_entry
  is_shadow = record {
    over = record { paths = paths; contents = contents };
    constants = λ c h. constant_stays c ((dom.constants_are c).1 h);
    one_to_one = one_to_one;
    entries = entries;
    others = λ q h. ap is_some (at_fresh q h) ∙ is_some-cond (has_other d t (parent q)) (File []);
  }

  -- every file tree has a shadow over the domain
  pub has_shadow : (m : List ℕ → List ℕ) × (s : Tree) × IsTree s × IsShadow es d m t s
  has_shadow = (m, s, is_tree, is_shadow)
