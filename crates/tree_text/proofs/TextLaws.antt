-- The text that is written of members.
use Rattle.std.proofs.Common.{◌≡◌, ℕ, max, ◌≤◌, false, ◌||◌, List, [], ◌∷◌, Option, Some, refl, sym, ap, ap₂, subst, ◌∙◌, arith}
use Rattle.std.proofs.Math.Nat.{max-le}
use Rattle.std.specs.declared.cmp.Ordering.{Ordering}
use Rattle.std.specs.declared.cmp.Ordering.TheVariants.{Less, Equal, Greater}
use Rattle.std.specs.Ordering.{nat_cmp, match_ordering, ordering_reverse}
use Rattle.std.specs.Cmp.Lexicographic.{slice_cmp, nat_list_cmp_total}
use Rattle.std.specs.List.{AllByRecursion}
use Rattle.std.specs.List.Sorted.{IsStrictlySortedBy}
use Rattle.std.specs.FinMap as map
use Rattle.json.specs.Json as json
use Rattle.json.specs.Tree as tree
use Rattle.json.specs.Print.{print}
use Rattle.json.proofs.Printed.Trees.{document-print}
use Rattle.serde_json.specs.Data.{Data, string, object, Members, no_members, member, put, depth, members_depth}
use Rattle.serde_json.specs.Read.{max_depth}
use Rattle.serde_json.specs.Written.{outline, members_outline, has_float, members_have_float}
use Rattle.serde_json.proofs.Texts.{print-outline}
use Rattle.fs_semantics.specs.FileTree.{Path, Entry, Folder, File, Link, Tree}
use Rattle.fs_lang.specs.PathText.{path_text}
use Rattle.tree_text.specs.TreeText.{entry_data, members_with, members_of, tree_text, keys_in, KeysRise}

-- ---- the keys rise

-- what holds of a key and of all others holds of all when that member is put
all_put : (P : List ℕ → Type 0) (k : List ℕ) (d : Data) (ms : Members) → P k → AllByRecursion P (keys_in ms) → AllByRecursion P (keys_in (put k d ms))
all_put P k d no_members here h = (here, tt)
all_put P k d (member l e ms) here h = at (slice_cmp nat_cmp k l) (all_put P k d ms here h.1)
  where
    at : (o : Ordering) → AllByRecursion P (keys_in (put k d ms)) → AllByRecursion P (keys_in (match_ordering o (member k d (member l e ms)) (member l d ms) (member l e (put k d ms))))
    at Less later = (here, h)
    at Equal later = h
    at Greater later = (h.0, later)

-- what is less than a key that is less than all others is less than those too
all_below : (k l : List ℕ) (ks : List (List ℕ)) → slice_cmp nat_cmp k l ≡ Less → AllByRecursion (λ y. slice_cmp nat_cmp l y ≡ Less) ks → AllByRecursion (λ y. slice_cmp nat_cmp k y ≡ Less) ks
all_below k l [] s h = tt
all_below k l (y ∷ ks) s h = (nat_list_cmp_total.trans k l y s h.0, all_below k l ks s h.1)

-- keys still rise when a member is put
rise_put : (k : List ℕ) (d : Data) (ms : Members) → KeysRise ms → KeysRise (put k d ms)
unfolding IsStrictlySortedBy
rise_put k d no_members h = (tt, tt)
rise_put k d (member l e ms) h = at (slice_cmp nat_cmp k l) refl (rise_put k d ms h.1)
  where
    at : (o : Ordering) → slice_cmp nat_cmp k l ≡ o → KeysRise (put k d ms) → KeysRise (match_ordering o (member k d (member l e ms)) (member l d ms) (member l e (put k d ms)))
    at Less s later = ((s, all_below k l (keys_in ms) s h.0), h)
    at Equal s later = h
    at Greater s later = (all_put (λ y. slice_cmp nat_cmp l y ≡ Less) k d ms (nat_list_cmp_total.antisymm l k ∙ ap ordering_reverse s) h.0, later)

-- and so they do when several are put
rise_with : (es : List (Path × Entry)) (ms : Members) → KeysRise ms → KeysRise (members_with ms es)
rise_with [] ms h = h
rise_with (e ∷ es) ms h = rise_with es (put (path_text e.0) (entry_data e.1) ms) (rise_put (path_text e.0) (entry_data e.1) ms h)

-- no keys rise
nothing_rises : KeysRise no_members
unfolding IsStrictlySortedBy
nothing_rises = tt

-- the keys of a tree's object rise
pub keys_rise : (t : Tree) → KeysRise (members_of t)
keys_rise t = rise_with (map.entries t) no_members nothing_rises

-- ---- each member stands for an entry

-- each member stands for an entry
abbrev OfEntries : Members → Type 0
OfEntries no_members = Unit {0}
OfEntries (member k d ms) = ((x : Entry) × (d ≡ entry_data x)) × OfEntries ms

-- it is so still when a member that stands for an entry is put
of_put : (k : List ℕ) (x : Entry) (ms : Members) → OfEntries ms → OfEntries (put k (entry_data x) ms)
of_put k x no_members h = ((x, refl), tt)
of_put k x (member l e ms) h = at (slice_cmp nat_cmp k l) (of_put k x ms h.1)
  where
    at : (o : Ordering) → OfEntries (put k (entry_data x) ms) → OfEntries (match_ordering o (member k (entry_data x) (member l e ms)) (member l (entry_data x) ms) (member l e (put k (entry_data x) ms)))
    at Less later = ((x, refl), h)
    at Equal later = ((x, refl), h.1)
    at Greater later = (h.0, later)

-- and when the members of several entries are put
of_with : (es : List (Path × Entry)) (ms : Members) → OfEntries ms → OfEntries (members_with ms es)
of_with [] ms h = h
of_with (e ∷ es) ms h = of_with es (put (path_text e.0) (entry_data e.1) ms) (of_put (path_text e.0) e.1 ms h)

-- each member of a tree's object stands for an entry
pub of_tree : (t : Tree) → OfEntries (members_of t)
of_tree t = of_with (map.entries t) no_members tt

-- ---- no floats, and little depth

-- what stands for an entry has no float
entry_float : (x : Entry) → has_float (entry_data x) ≡ false
entry_float Folder = refl
entry_float (File content) = refl
entry_float (Link target) = refl

-- and neither have members that stand for entries
members_float : (ms : Members) → OfEntries ms → members_have_float ms ≡ false
members_float no_members h = refl
members_float (member k d ms) h = ap₂ (λ a b. a || b) (ap has_float h.0.1 ∙ entry_float h.0.0) (members_float ms h.1)

-- a tree's object has no float
pub no_float : (t : Tree) → has_float (object (members_of t)) ≡ false
no_float t = members_float (members_of t) (of_tree t)

-- what stands for an entry is one deep at most
entry_depth : (x : Entry) → depth (entry_data x) ≤ 1
entry_depth Folder = omega arith
entry_depth (File content) = omega arith
entry_depth (Link target) = omega arith

-- the greater of two numbers that are one at most is one at most
max_below : (a b : ℕ) → a ≤ 1 → b ≤ 1 → max a b ≤ 1
max_below a b h k = max-le h k

-- members that stand for entries are one deep at most
depth_below : (ms : Members) → OfEntries ms → members_depth ms ≤ 1
depth_below no_members h = omega arith
depth_below (member k d ms) h = max_below (depth d) (members_depth ms) (subst (λ e. depth e ≤ 1) (sym h.0.1) (entry_depth h.0.0)) (depth_below ms h.1)

-- a tree's object is no deeper than may be read
pub shallow : (t : Tree) → depth (object (members_of t)) ≤ max_depth
shallow t = let below = depth_below (members_of t) (of_tree t) in omega arith

-- ---- texts that are alike

-- in the outline of what stands for an entry each number's text is a number
entry_numbers : (x : Entry) → tree.HasNumbers (outline (entry_data x))
entry_numbers Folder = tt
entry_numbers (File content) = tt
entry_numbers (Link target) = (tt, tt)

-- and so it is with members that stand for entries
numbers : (ms : Members) → OfEntries ms → tree.MembersHaveNumbers (members_outline ms)
numbers no_members h = tt
numbers (member k d ms) h = (subst (λ e. tree.HasNumbers (outline e)) (sym h.0.1) (entry_numbers h.0.0), numbers ms h.1)

-- the outline of what stands for an entry is one deep at most
outline_depth : (x : Entry) → tree.depth (outline (entry_data x)) ≤ 1
outline_depth Folder = omega arith
outline_depth (File content) = omega arith
outline_depth (Link target) = omega arith

-- and so is that of members that stand for entries
outline_below : (ms : Members) → OfEntries ms → tree.members_depth (members_outline ms) ≤ 1
outline_below no_members h = omega arith
outline_below (member k d ms) h = max_below (tree.depth (outline d)) (tree.members_depth (members_outline ms)) (subst (λ e. tree.depth (outline e) ≤ 1) (sym h.0.1) (outline_depth h.0.0)) (outline_below ms h.1)

-- entries for which the same JSON stands are the same
pub same_entry : (x y : Entry) → entry_data x ≡ entry_data y → x ≡ y
same_entry Folder Folder h = refl
same_entry Folder (File c) h = cc
same_entry Folder (Link c) h = cc
same_entry (File c) Folder h = cc
same_entry (File c) (File d) h = let same : c ≡ d = cc in ap (λ e. File e) same
same_entry (File c) (Link d) h = cc
same_entry (Link c) Folder h = cc
same_entry (Link c) (File d) h = cc
same_entry (Link c) (Link d) h = let same : c ≡ d = cc in ap (λ e. Link e) same

-- what stands for entries is the same where the outlines are
same_outline : (x y : Entry) → outline (entry_data x) ≡ outline (entry_data y) → entry_data x ≡ entry_data y
same_outline Folder Folder h = refl
same_outline Folder (File c) h = cc
same_outline Folder (Link c) h = cc
same_outline (File c) Folder h = cc
same_outline (File c) (File d) h = let same : c ≡ d = cc in ap (λ e. string e) same
same_outline (File c) (Link d) h = cc
same_outline (Link c) Folder h = cc
same_outline (Link c) (File d) h = cc
same_outline (Link c) (Link d) h = let same : c ≡ d = cc in ap (λ e. entry_data (Link e)) same

-- and so are members that stand for entries
same_members : (ms ns : Members) → OfEntries ms → OfEntries ns → members_outline ms ≡ members_outline ns → ms ≡ ns
same_members no_members no_members h k e = refl
same_members no_members (member l d ns) h k e = cc
same_members (member k c ms) no_members h g e = cc
same_members (member k c ms) (member l d ns) h g e =
    let key : k ≡ l = cc in
    let out : outline c ≡ outline d = cc in
    let rest : members_outline ms ≡ members_outline ns = cc in
    let data_same : c ≡ d = h.0.1 ∙ same_outline h.0.0 g.0.0 (sym (ap outline h.0.1) ∙ out ∙ ap outline g.0.1) ∙ sym g.0.1 in
    let more = same_members ms ns h.1 g.1 rest in
    cc

-- the object of such members, when it is printed, is read back as its outline
printed : (ms : Members) → OfEntries ms → json.document (print (tree.json_tokens (outline (object ms)))) ≡ Some (outline (object ms))
printed ms h = let below = outline_below ms h in document-print (outline (object ms)) (numbers ms h) (omega arith)

-- what is there twice is one
same_some : (x y : json.Json) → ◌≡◌ {A = Option json.Json} (Some x) (Some y) → x ≡ y
same_some x y e = cc

-- objects that are the same have the same members
same_object : (ms ns : json.Members) → json.object ms ≡ json.object ns → ms ≡ ns
same_object ms ns e = cc

-- trees that are written alike have the same members
pub same_written : (t u : Tree) → tree_text t ≡ tree_text u → members_of t ≡ members_of u
same_written t u e =
    let texts : print (tree.json_tokens (outline (object (members_of t)))) ≡ print (tree.json_tokens (outline (object (members_of u)))) =
    print-outline (object (members_of t)) ∙ e ∙ sym (print-outline (object (members_of u))) in
    same_members (members_of t) (members_of u) (of_tree t) (of_tree u)
    (same_object _ _ (same_some _ _ (sym (printed (members_of t) (of_tree t)) ∙ ap json.document texts ∙ printed (members_of u) (of_tree u))))
