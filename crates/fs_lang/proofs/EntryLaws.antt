-- The entries of a tree, in order.
use Rattle.std.proofs.Common.{◌≡◌, List, [], ◌∷◌, ◌++◌, length, refl, sym, ap, subst, ◌∙◌, arith, append_assoc}
use Rattle.std.specs.declared.cmp.Ordering.TheVariants.{Less}
use Rattle.std.specs.Ordering.{ordering_reverse, match_ordering}
use Rattle.std.specs.FinMap as finite
use Rattle.std.specs.FinMap.{put, entries-insert, len-empty, len-entries}
use Rattle.std.specs.FinMap.Entries.{by_order}
use Rattle.std.specs.List.{AllByRecursion}
use Rattle.std.specs.List.Sorted.{IsStrictlySortedBy}
use Rattle.std.specs.Map.{keys_of}
use Rattle.std.specs.BTreeMap.{BTreeMap, IsOrdered, insert_entry}
use Rattle.fs_semantics.specs.FileTree as tree
use Rattle.fs_semantics.specs.FileTree.{Path, path_cmp}
use Rattle.fs_semantics.proofs.Trees.{path_total}
use Rattle.fs_lang.specs.declared.program.Entry.{Entry}
use Rattle.fs_lang.specs.Meaning.{entry_of}
use Rattle.fs_lang.specs.Trees.{entries_of, tree_of}

-- a list of no length is empty
no_items : {A : Type 0} (es : List A) → length es ≡ 0 → es ≡ []
no_items [] e = refl
no_items (x ∷ es) e = absurd (omega arith)

-- an entry whose path is less than all others is put in front
put_first : (k : Path) (x : tree.Entry) (es : List (Path × Entry)) → AllByRecursion (λ q. path_cmp k q ≡ Less) (keys_of es) → put path_cmp k x (entries_of es) ≡ (k, x) ∷ entries_of es
put_first k x [] h = refl
put_first k x (e ∷ es) h =
    ap (λ r. by_order r ((k, x) ∷ entries_of (e ∷ es)) ((e.0, x) ∷ entries_of es) ((e.0, entry_of e.1) ∷ put path_cmp k x (entries_of es))) h.0

-- entries whose paths rise are those of the tree that is made of them
in_order : (es : List (Path × Entry)) → IsStrictlySortedBy path_cmp (keys_of es) → finite.entries (finite.from_entries {R = path_cmp} (entries_of es)) ≡ entries_of es
unfolding IsStrictlySortedBy
in_order [] h = no_items _ (sym (len-entries (finite.empty {R = path_cmp})) ∙ len-empty path_cmp tree.Entry)
in_order (e ∷ es) h =
    entries-insert path_total (finite.from_entries (entries_of es)) e.0 (entry_of e.1)
    ∙ ap (put path_cmp e.0 (entry_of e.1)) (in_order es h.1) ∙ put_first e.0 (entry_of e.1) es h.0

-- the entries of an ordered map are those of its tree, in order
pub entries_are : (m : BTreeMap Path Entry) → IsOrdered path_cmp m → entries_of m.entries ≡ finite.entries (tree_of m)
entries_are m h = sym (in_order m.entries h)

-- an entry behind all others is put at the end
below : (k : Path) (v : Entry) (rest : List (Path × Entry)) (q : Path) (es : List (Path × Entry)) → AllByRecursion (λ r. path_cmp q r ≡ Less) (keys_of (es ++ (k, v) ∷ rest)) → path_cmp q k ≡ Less
below k v rest q [] h = h.0
below k v rest q (e ∷ es) h = below k v rest q es h.1

-- an entry that comes right behind others in sorted entries is put at their end
pub put_last : (es rest : List (Path × Entry)) (k : Path) (v : Entry) → IsStrictlySortedBy path_cmp (keys_of (es ++ (k, v) ∷ rest)) → insert_entry path_cmp es k v ≡ es ++ (k, v) ∷ []
unfolding IsStrictlySortedBy
put_last [] rest k v h = refl
put_last (e ∷ es) rest k v h =
    ap (λ r. match_ordering r ((k, v) ∷ e ∷ es) ((e.0, v) ∷ es) (e ∷ insert_entry path_cmp es k v)) (path_total.antisymm k e.0 ∙ ap ordering_reverse (below k v rest e.0 es h.0))
    ∙ ap (λ l. e ∷ l) (put_last es rest k v h.1)

-- with one more entry copied, what was copied and what is left to copy are the same whole
pub copied_next : (all es old rest new : List (Path × Entry)) (p : Path) (x : Entry) → IsStrictlySortedBy path_cmp (keys_of all) → es ++ old ≡ all → old ≡ (p, x) ∷ rest → new ≡ insert_entry path_cmp es p x → new ++ rest ≡ all
copied_next all es old rest new p x sorted so_far next is =
    let whole : es ++ (p, x) ∷ rest ≡ all = ap (λ l. es ++ l) (sym next) ∙ so_far in
    ap (λ l. l ++ rest) (is ∙ put_last es rest p x (subst (λ l. IsStrictlySortedBy path_cmp (keys_of l)) (sym whole) sorted))
    ∙ append_assoc es ((p, x) ∷ []) rest ∙ whole
