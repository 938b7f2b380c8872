-- The members that are written.
use Rattle.std.proofs.Common.{◌≡◌, ◌≢◌, ◌⊎◌, inl, inr, ℕ, Bool, true, false, cond, ◌&&◌, List, [], ◌∷◌, Some, is_some, refl, sym, ap, subst, ◌∙◌}
use Rattle.std.specs.Prelude.{T}
use Rattle.std.specs.declared.cmp.Ordering.{Ordering}
use Rattle.std.specs.declared.cmp.Ordering.TheVariants.{Less, Equal}
use Rattle.std.specs.Ordering.{is_lt}
use Rattle.std.specs.Cmp.{tied_itself}
use Rattle.std.specs.List.{AllByRecursion}
use Rattle.std.specs.FinMap as map
use Rattle.std.specs.FinMap.{find, is_sorted, get-entries, entries_sorted}
use Rattle.std.specs.FinMap.Entries.{below_all}
use Rattle.serde_json.specs.Data.{Data, Members, no_members, put}
use Rattle.fs_semantics.specs.FileTree.{Path, Entry, Tree, IsTree, IsSegment, path_cmp, path_eq}
use Rattle.fs_lang.specs.PathText.{path_text}
use Rattle.tree_text.specs.TreeText.{entry_data, HasMember, AreMembers, members_with, members_of}
use Rattle.tree_text.proofs.MemberLaws.{has_put, has_kept, has_only}
use Rattle.std.proofs.lemmas.Option.{same_Some}
use Rattle.fs_lang.proofs.EntryOrder.{is_less}
use Rattle.fs_semantics.proofs.Trees.{path_total}

-- paths that are written alike are the same, as the law of paths says
abbrev pub SameText : Type 0
SameText = (p q : Path) → AllByRecursion IsSegment p → AllByRecursion IsSegment q → path_text p ≡ path_text q → p ≡ q

-- paths that are tested as equal are the same, as the law of paths says
abbrev pub SamePath : Type 0
SamePath = (p q : Path) → ((path_eq p q ≡ true) → p ≡ q) × (p ≡ q → path_eq p q ≡ true)

-- ---- entries of a list

-- the entry stands in the list under this path
abbrev pub Stands : Path → Entry → List (Path × Entry) → Type 0
Stands p x [] = ⊥
Stands p x (e ∷ es) = ((p ≡ e.0) × (x ≡ e.1)) ⊎ Stands p x es

-- an entry that is found stands there
found_stands : SamePath → (p : Path) (x : Entry) (es : List (Path × Entry)) → find path_cmp p es ≡ Some x → Stands p x es
found_stands same p x [] h = cc
found_stands same p x (e ∷ es) h = at (path_eq p e.0) refl h (found_stands same p x es)
  where
    at : (b : Bool) → path_eq p e.0 ≡ b → cond b (Some e.1) (find path_cmp p es) ≡ Some x → (find path_cmp p es ≡ Some x → Stands p x es) → Stands p x (e ∷ es)
    at true s h later = inl ((same p e.0).0 s, sym (same_Some e.1 x h))
    at false s h later = inr (later h)

-- of a conjunction that is true both sides are true
both : (a b : Bool) → T (a && b) → T a × T b
both true b h = (tt, h)
both false b h = absurd h

-- a path that is less than all others is less than each that stands there
stands_behind : (k p : Path) (x : Entry) (es : List (Path × Entry)) → T (below_all path_cmp k es) → Stands p x es → path_cmp k p ≡ Less
stands_behind k p x [] h s = absurd s
stands_behind k p x (e ∷ es) h (inl two) = ap (path_cmp k) two.0 ∙ is_less (path_cmp k e.0) (both (is_lt (path_cmp k e.0)) (below_all path_cmp k es) h).0
stands_behind k p x (e ∷ es) h (inr s) = stands_behind k p x es (both (is_lt (path_cmp k e.0)) (below_all path_cmp k es) h).1 s

-- a path isn't one that it is greater than
not_less : (k p : Path) → path_cmp k p ≡ Less → p ≢ k
not_less k p h e = let clash : ◌≡◌ {A = Ordering} Equal Less = sym (tied_itself path_total k) ∙ ap (path_cmp k) (sym e) ∙ h in cc

-- ---- members that are put one after another

-- a member is kept when others with other keys are put
has_kept_all : (es : List (Path × Entry)) (ms : Members) (q : List ℕ) (c : Data) → AllByRecursion (λ e. q ≢ path_text e.0) es → HasMember q c ms → HasMember q c (members_with ms es)
has_kept_all [] ms q c n h = h
has_kept_all (e ∷ es) ms q c n h = has_kept_all es (put (path_text e.0) (entry_data e.1) ms) q c n.1 (has_kept q c (path_text e.0) (entry_data e.1) ms n.0 h)

-- the member stands for one of these entries
abbrev Among : List (Path × Entry) → List ℕ → Data → Type 0
Among es q c = (p : Path) × (x : Entry) × Stands p x es × (q ≡ path_text p) × (c ≡ entry_data x)

-- a member, after those of entries were put, was there or stands for one of them
has_only_all : (es : List (Path × Entry)) (ms : Members) (q : List ℕ) (c : Data) → HasMember q c (members_with ms es) → HasMember q c ms ⊎ Among es q c
has_only_all [] ms q c h = inl h
has_only_all (e ∷ es) ms q c h = elim (has_only_all es (put (path_text e.0) (entry_data e.1) ms) q c h) [
  | inl m ↦ elim (has_only q c (path_text e.0) (entry_data e.1) ms m) [
    | inl two ↦ inr (e.0, e.1, inl (refl, refl), two.0, two.1)
    | inr m ↦ inl m
  ]
  | inr s ↦ inr (s.0, s.1, inr s.2, s.3, s.4)
]

-- a path that is less than all others has another text than each
distinct : SameText → (k : Path) (es : List (Path × Entry)) → AllByRecursion IsSegment k → AllByRecursion (λ e. AllByRecursion IsSegment e.0) es → T (below_all path_cmp k es) → AllByRecursion (λ e. path_text k ≢ path_text e.0) es
distinct same k [] pk pes h = tt
distinct same k (e ∷ es) pk pes h = (
  (λ t. not_less k e.0 (is_less (path_cmp k e.0) (both (is_lt (path_cmp k e.0)) (below_all path_cmp k es) h).0) (sym (same k e.0 pk pes.0 t))),
  distinct same k es pk pes.1 (both (is_lt (path_cmp k e.0)) (below_all path_cmp k es) h).1,
)

-- when the members of sorted entries are put, each of them is there
has_all : SameText → (es : List (Path × Entry)) (ms : Members) → T (is_sorted path_cmp es) → AllByRecursion (λ e. AllByRecursion IsSegment e.0) es
    → (p : Path) (x : Entry) → Stands p x es → HasMember (path_text p) (entry_data x) (members_with ms es)
has_all same [] ms s proper p x h = absurd h
has_all same (e ∷ es) ms s proper p x (inl two) =
    let here = has_kept_all es (put (path_text e.0) (entry_data e.1) ms) (path_text e.0) (entry_data e.1)
    (distinct same e.0 es proper.0 proper.1 (both (below_all path_cmp e.0 es) (is_sorted path_cmp es) s).0) (has_put (path_text e.0) (entry_data e.1) ms) in
    subst (λ r. HasMember (path_text r) (entry_data x) (members_with ms (e ∷ es))) (sym two.0)
    (subst (λ y. HasMember (path_text e.0) (entry_data y) (members_with ms (e ∷ es))) (sym two.1) here)
has_all same (e ∷ es) ms s proper p x (inr h) =
    has_all same es (put (path_text e.0) (entry_data e.1) ms) (both (below_all path_cmp e.0 es) (is_sorted path_cmp es) s).1 proper.1 p x h

-- ---- the entries of a tree

-- an entry of a tree stands in its list of entries
entry_stands : SamePath → (t : Tree) (p : Path) (x : Entry) → map.get t p ≡ Some x → Stands p x (map.entries t)
entry_stands same t p x h = found_stands same p x (map.entries t) (sym (get-entries t p) ∙ h)

-- an entry that stands in a sorted list is found
found_of : SamePath → (p : Path) (x : Entry) (es : List (Path × Entry)) → T (is_sorted path_cmp es) → Stands p x es → find path_cmp p es ≡ Some x
found_of same p x [] s h = absurd h
found_of same p x (e ∷ es) s (inl two) = ap (λ b. cond b (Some e.1) (find path_cmp p es)) ((same p e.0).1 two.0) ∙ ap (λ y. Some y) (sym two.1)
found_of same p x (e ∷ es) s (inr h) =
    let behind = stands_behind e.0 p x es (both (below_all path_cmp e.0 es) (is_sorted path_cmp es) s).0 h in
    ap (λ b. cond b (Some e.1) (find path_cmp p es)) (other (path_eq p e.0) refl (not_less e.0 p behind))
    ∙ found_of same p x es (both (below_all path_cmp e.0 es) (is_sorted path_cmp es) s).1 h
  where
    other : (b : Bool) → path_eq p e.0 ≡ b → p ≢ e.0 → b ≡ false
    other true i n = absurd (n ((same p e.0).0 i))
    other false i n = refl

-- an entry that stands in the list of a tree's entries is the tree's at that path
stands_entry : SamePath → (t : Tree) (p : Path) (x : Entry) → Stands p x (map.entries t) → map.get t p ≡ Some x
stands_entry same t p x h = get-entries t p ∙ found_of same p x (map.entries t) (entries_sorted t) h

-- what holds of each path that stands there holds of all
all_from : (P : Path → Type 0) (es : List (Path × Entry)) → ((p : Path) (x : Entry) → Stands p x es → P p) → AllByRecursion (λ e. P e.0) es
all_from P [] f = tt
all_from P (e ∷ es) f = (f e.0 e.1 (inl (refl, refl)), all_from P es (λ p x s. f p x (inr s)))

-- a path at which a file tree has an entry is made of segments
pub proper_at : (t : Tree) (p : Path) (x : Entry) → IsTree t → map.get t p ≡ Some x → AllByRecursion IsSegment p
proper_at t p x is h = is.paths p (ap is_some h)

-- the members that are put for a tree's entries are just those of the tree
pub are_members : SameText → SamePath → (t : Tree) → IsTree t → AreMembers (members_of t) t
are_members same_text same_path t is = record {
  member_is_entry = λ q c h. elim (has_only_all (map.entries t) no_members q c h) [
    | inl m ↦ absurd m
    | inr s ↦ record { path = s.0; entry = s.1; stands = stands_entry same_path t s.0 s.1 s.2; key_is = s.3; data_is = s.4 }
  ];
  entry_is_member = λ p x h.
      has_all same_text (map.entries t) no_members (entries_sorted t)
      (all_from (λ r. AllByRecursion IsSegment r) (map.entries t) (λ r y s. proper_at t r y is (stands_entry same_path t r y s))) p x (entry_stands same_path t p x h);
}
