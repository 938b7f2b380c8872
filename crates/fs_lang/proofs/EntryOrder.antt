-- Parents stand before their children.
use Rattle.std.proofs.Common.{◌≡◌, ◌≢◌, inl, inr, Bool, true, false, cond, ◌&&◌, List, [], ◌∷◌, ◌++◌, Option, Some, None, is_some, refl, sym, ap, subst, ◌∙◌}
use Rattle.std.specs.Prelude.{T}
use Rattle.std.specs.declared.cmp.Ordering.{Ordering}
use Rattle.std.specs.declared.cmp.Ordering.TheVariants.{Less, Equal, Greater}
use Rattle.std.specs.Ordering.{is_lt, is_eq, ordering_then, ordering_reverse}
use Rattle.std.specs.Cmp.{tied_itself}
use Rattle.std.specs.Cmp.Lexicographic.{nat_list_cmp_total}
use Rattle.std.specs.FinMap as map
use Rattle.std.specs.FinMap.{find, is_sorted, get-entries, get-from_entries, entries_sorted}
use Rattle.std.specs.FinMap.Entries.{below_all}
use Rattle.fs_semantics.specs.FileTree.{Path, Entry, Tree, IsTree, parent, path_cmp, path_eq}
use Rattle.fs_semantics.specs.Entries.{IsFreeAt, IsFolderAt}
use Rattle.fs_semantics.proofs.Trees.{path_total, path_eq_refl, parent_and_last}
use Rattle.fs_semantics.proofs.Words.{folder_at}

-- of a conjunction that is true the left side is true
first_part : (a b : Bool) → T (a && b) → T a
first_part true b h = tt
first_part false b h = absurd h

-- of a conjunction that is true the right side is true
second_part : (a b : Bool) → T (a && b) → T b
second_part true b h = h
second_part false b h = absurd h

-- a conjunction of two that are true is true
both_parts : (a b : Bool) → T a → T b → T (a && b)
both_parts true b h k = k
both_parts false b h k = absurd h

-- what is told to be less is less
pub is_less : (o : Ordering) → T (is_lt o) → o ≡ Less
is_less Less h = refl
is_less Equal h = absurd h
is_less Greater h = absurd h

-- a path that is less than another isn't that one
lower : (p q : Path) → path_cmp p q ≡ Less → path_eq p q ≡ false
lower p q h = ap is_eq h

-- and neither is one that another is less than
higher : (p q : Path) → path_cmp q p ≡ Less → path_eq p q ≡ false
higher p q h = ap is_eq (path_total.antisymm p q ∙ ap ordering_reverse h)

-- ---- looking into a front of the entries

-- a path that isn't found in the rest is found just where it is found in the front
find_front : (q : Path) (before rest : List (Path × Entry)) → find path_cmp q rest ≡ None → find path_cmp q (before ++ rest) ≡ find path_cmp q before
find_front q [] rest none = none
find_front q (e ∷ before) rest none = ap (cond (path_eq q e.0) (Some e.1)) (find_front q before rest none)

-- a path that is less than those of all entries isn't found among them
find_behind : (q : Path) (es : List (Path × Entry)) → T (below_all path_cmp q es) → find path_cmp q es ≡ None
find_behind q [] h = refl
find_behind q (e ∷ es) h =
    ap (λ b. cond b (Some e.1) (find path_cmp q es)) (lower q e.0 (is_less (path_cmp q e.0) (first_part (is_lt (path_cmp q e.0)) (below_all path_cmp q es) h)))
    ∙ find_behind q es (second_part (is_lt (path_cmp q e.0)) (below_all path_cmp q es) h)

-- a path that is less than those of all entries is less than the one of each
below_at : (q p : Path) (x : Entry) (before after : List (Path × Entry)) → T (below_all path_cmp q (before ++ (p, x) ∷ after)) → path_cmp q p ≡ Less
below_at q p x [] after h = is_less (path_cmp q p) (first_part (is_lt (path_cmp q p)) (below_all path_cmp q after) h)
below_at q p x (e ∷ before) after h = below_at q p x before after (second_part (is_lt (path_cmp q e.0)) (below_all path_cmp q (before ++ (p, x) ∷ after)) h)

-- in sorted entries the path of one isn't found before it
new_in : (p : Path) (x : Entry) (before after : List (Path × Entry)) → T (is_sorted path_cmp (before ++ (p, x) ∷ after)) → find path_cmp p before ≡ None
new_in p x [] after h = refl
new_in p x (e ∷ before) after h =
    ap (λ b. cond b (Some e.1) (find path_cmp p before))
    (higher p e.0 (below_at e.0 p x before after (first_part (below_all path_cmp e.0 (before ++ (p, x) ∷ after)) (is_sorted path_cmp (before ++ (p, x) ∷ after)) h)))
    ∙ new_in p x before after (second_part (below_all path_cmp e.0 (before ++ (p, x) ∷ after)) (is_sorted path_cmp (before ++ (p, x) ∷ after)) h)

-- in sorted entries the path of one is less than all behind it
after_it : (p : Path) (x : Entry) (before after : List (Path × Entry)) → T (is_sorted path_cmp (before ++ (p, x) ∷ after)) → T (below_all path_cmp p after)
after_it p x [] after h = first_part (below_all path_cmp p after) (is_sorted path_cmp after) h
after_it p x (e ∷ before) after h = after_it p x before after (second_part (below_all path_cmp e.0 (before ++ (p, x) ∷ after)) (is_sorted path_cmp (before ++ (p, x) ∷ after)) h)

-- an entry whose path isn't found before it is found
found_at : (p : Path) (x : Entry) (before after : List (Path × Entry)) → find path_cmp p before ≡ None → find path_cmp p (before ++ (p, x) ∷ after) ≡ Some x
found_at p x [] after none = ap (λ b. cond b (Some x) (find path_cmp p after)) (path_eq_refl p)
found_at p x (e ∷ before) after none = at (path_eq p e.0) none (found_at p x before after)
  where
    at : (b : Bool) → cond b (Some e.1) (find path_cmp p before) ≡ None → (find path_cmp p before ≡ None → find path_cmp p (before ++ (p, x) ∷ after) ≡ Some x)
        → cond b (Some e.1) (find path_cmp p (before ++ (p, x) ∷ after)) ≡ Some x
    at true n more = cc
    at false n more = more n

-- ---- a parent comes before its children

-- a path is less than each longer one that it begins
front_less : (q more : Path) → more ≢ [] → path_cmp q (q ++ more) ≡ Less
front_less [] [] n = absurd (n refl)
front_less [] (s ∷ more) n = refl
front_less (s ∷ q) more n = ap (λ o. ordering_then o (path_cmp q (q ++ more))) (tied_itself nat_list_cmp_total s) ∙ front_less q more n

-- a parent is less than its child
parent_less : (p : Path) → p ≢ [] → path_cmp (parent p) p ≡ Less
parent_less p n = let last = parent_and_last p n in ap (path_cmp (parent p)) last.1 ∙ front_less (parent p) (last.0 ∷ []) (λ e. cc)

-- what is less than a path that is less than all others is less than those too
all_below : (q p : Path) (es : List (Path × Entry)) → path_cmp q p ≡ Less → T (below_all path_cmp p es) → T (below_all path_cmp q es)
all_below q p [] h k = tt
all_below q p (e ∷ es) h k =
    let less = path_total.trans q p e.0 h (is_less (path_cmp p e.0) (first_part (is_lt (path_cmp p e.0)) (below_all path_cmp p es) k)) in
    both_parts (is_lt (path_cmp q e.0)) (below_all path_cmp q es) (subst (λ o. T (is_lt o)) (sym less) tt) (all_below q p es h (second_part (is_lt (path_cmp p e.0)) (below_all path_cmp p es) k))

-- an entry has its place in the tree of those before it
pub has_place : (t : Tree) → IsTree t → (before after : List (Path × Entry)) (p : Path) (x : Entry) → map.entries t ≡ before ++ (p, x) ∷ after
    → IsFreeAt (map.from_entries {R = path_cmp} before) p × IsFolderAt (map.from_entries {R = path_cmp} before) (parent p)
has_place t is before after p x parts =
    let sorted = subst (λ es. T (is_sorted path_cmp es)) parts (entries_sorted t) in
    let new = new_in p x before after sorted in
    let here : map.get t p ≡ Some x = get-entries t p ∙ ap (find path_cmp p) parts ∙ found_at p x before after new in
    let below_root : p ≢ [] = (λ e. let clash : ◌≡◌ {A = Option Entry} None (Some x) = sym is.no_root ∙ ap (map.get t) (sym e) ∙ here in cc) in
    let less = parent_less p below_root in (
      (below_root, get-from_entries path_total before p ∙ new),
      elim ((folder_at t (parent p)).0 (is.parents p (ap is_some here))) [
        | inl e ↦ inl e
        | inr f ↦ inr (
            get-from_entries path_total before (parent p)
            ∙ sym (find_front (parent p) before ((p, x) ∷ after)
            (find_behind (parent p) ((p, x) ∷ after)
            (both_parts (is_lt (path_cmp (parent p) p)) (below_all path_cmp (parent p) after) (subst (λ o. T (is_lt o)) (sym less) tt) (all_below (parent p) p after less (after_it p x before after sorted)))))
            ∙ ap (find path_cmp (parent p)) (sym parts) ∙ sym (get-entries t (parent p)) ∙ f)
      ],
    )
