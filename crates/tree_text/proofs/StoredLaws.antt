-- What JSON that is stored says.
use Rattle.std.proofs.Common.{◌≡◌, ℕ, ◌≤◌, ◌==◌, true, false, cond, List, length, Option, Some, None, option_map, option_and_then, codes, refl, sym, ap, subst, ◌∙◌, arith, String, Global, BTreeMap}
use Rattle.std.specs.declared.cmp.Ordering.{Ordering}
use Rattle.std.specs.declared.cmp.Ordering.TheVariants.{Less, Equal, Greater}
use Rattle.std.specs.Ordering.{nat_cmp, match_ordering}
use Rattle.std.specs.Cmp.Lexicographic.{slice_cmp}
use Rattle.std.proofs.lemmas.Bool.{eqb-true}
use Rattle.serde_json.specs.Data.{Data, null, boolean, number, string, array, object, Members, no_members, member, depth}
use Rattle.serde_json.specs.Events.{members_len}
use Rattle.serde_json.specs.Find.{get, get_member, as_str, as_object}
use Rattle.serde_json.specs.Read.{read, max_depth}
use Rattle.serde_json.specs.Written.{compact_text, has_float}
use Rattle.serde_json.specs.View.{view, members_view}
use Rattle.serde_json.specs.declared.value.Value as json
use Rattle.serde_json.proofs.Views.{Entry, view-Object, members_len-members_view}
use Rattle.fs_semantics.specs.FileTree as fs
use Rattle.fs_semantics.specs.FileTree.{Folder, File, Link, Tree}
use Rattle.tree_text.specs.TreeText.{entry_data, members_of, tree_text}
use Rattle.tree_text.specs.Reading.{target_in, entry_in}
use Rattle.tree_text.proofs.MemberLaws.{same_key}
use Rattle.tree_text.proofs.TextLaws.{no_float, shallow}
use Rattle.rh_base.proofs.Options.{if_some}
use Rattle.std.proofs.lemmas.Option.{same_Some}
use Rattle.json_parts.proofs.DataLaws.{object_is}

-- ---- writing

-- what is stored with a tree's members is the object of the tree
stored_is : (m : BTreeMap (String Global) json.Value) (t : Tree) → members_view m.entries ≡ members_of t → view (json.Object m) ≡ object (members_of t)
stored_is m t e = view-Object m ∙ ap object e

-- and is written as the text of the tree
pub written_text : (m : BTreeMap (String Global) json.Value) (t : Tree) (bytes : List ℕ) → members_view m.entries ≡ members_of t
    → (has_float (view (json.Object m)) ≡ false → bytes ≡ compact_text (view (json.Object m))) → bytes ≡ tree_text t
written_text m t bytes e h = subst (λ d. has_float d ≡ false → bytes ≡ compact_text d) (stored_is m t e) h (no_float t)

-- and that text is read as the object of the tree
pub written_read : (m : BTreeMap (String Global) json.Value) (t : Tree) (bytes : List ℕ) → members_view m.entries ≡ members_of t
    → (depth (view (json.Object m)) ≤ max_depth → read bytes ≡ Some (view (json.Object m))) → read bytes ≡ Some (object (members_of t))
written_read m t bytes e h = subst (λ d. depth d ≤ max_depth → read bytes ≡ Some d) (stored_is m t e) h (shallow t)

-- ---- links

-- the target is looked up in an object of one entry, and else there is none
pub target_of : (d : Data) (es : List Entry) → as_object d ≡ Some (members_view es)
    → option_and_then target_in (as_object d) ≡ cond (length es == 1) (option_and_then as_str (get (codes "link") d)) None
target_of d es h =
    ap (option_and_then target_in) h
    ∙ ap (λ n. cond (n == 1) (option_and_then as_str (get_member (codes "link") (members_view es))) None) (members_len-members_view es)
    ∙ ap (λ e. cond (length es == 1) (option_and_then as_str (get (codes "link") e)) None) (sym (object_is d (members_view es) h))

-- in an object of one entry the target is the text under `link`
pub target_one : (d : Data) (es : List Entry) → as_object d ≡ Some (members_view es) → (length es == 1) ≡ true
    → option_and_then target_in (as_object d) ≡ option_and_then as_str (get (codes "link") d)
target_one d es h one = target_of d es h ∙ ap (λ b. cond b (option_and_then as_str (get (codes "link") d)) None) one

-- in an object of more entries, or of none, there is no target
pub target_none : (d : Data) (es : List Entry) → as_object d ≡ Some (members_view es) → (length es == 1) ≡ false → option_and_then target_in (as_object d) ≡ None
target_none d es h one = target_of d es h ∙ ap (λ b. cond b (option_and_then as_str (get (codes "link") d)) None) one

-- ---- the entry for which JSON stands

-- JSON that is there and gives a text is that string
string_is : (o : Option Data) (s : List ℕ) → option_and_then as_str o ≡ Some s → o ≡ Some (string s)
string_is None s h = cc
string_is (Some null) s h = cc
string_is (Some (boolean b)) s h = cc
string_is (Some (number n)) s h = cc
string_is (Some (string t)) s h = let same : t ≡ s = cc in ap (λ u. Some (string u)) same
string_is (Some (array items)) s h = cc
string_is (Some (object ms)) s h = cc

-- an object of one member that has a value under a key is that of the key and the value
one_member : (ms : Members) (key : List ℕ) (d : Data) → members_len ms ≡ 1 → get_member key ms ≡ Some d → ms ≡ member key d no_members
one_member no_members key d n h = absurd (omega arith)
one_member (member k c (member l e ms)) key d n h = absurd (omega arith)
one_member (member k c no_members) key d n h = at (slice_cmp nat_cmp key k) refl h
  where
    at : (o : Ordering) → slice_cmp nat_cmp key k ≡ o → match_ordering o None (Some c) None ≡ Some d → member k c no_members ≡ member key d no_members
    at Less s h = cc
    at Equal s h = let same : c ≡ d = same_Some c d h in ap (λ x. member x c no_members) (sym (same_key key k s)) ∙ ap (λ x. member key x no_members) same
    at Greater s h = cc

-- members with a target are just the one of `link`
link_is : (ms : Members) (s : List ℕ) → target_in ms ≡ Some s → ms ≡ member (codes "link") (string s) no_members
link_is ms s h =
    let two = if_some (members_len ms == 1) (option_and_then as_str (get_member (codes "link") ms)) s h in
    one_member ms (codes "link") (string s) (eqb-true (members_len ms) 1 two.0) (string_is (get_member (codes "link") ms) s two.1)

-- JSON that is read as an entry is what stands for the entry
pub entry_is : (d : Data) (x : fs.Entry) → entry_in d ≡ Some x → d ≡ entry_data x
entry_is null x h = ap entry_data (same_Some Folder x h)
entry_is (boolean b) x h = cc
entry_is (number n) x h = cc
entry_is (string s) x h = ap entry_data (same_Some (File s) x h)
entry_is (array items) x h = cc
entry_is (object ms) x h = at (target_in ms) refl h
  where
    at : (o : Option (List ℕ)) → target_in ms ≡ o → option_map Link o ≡ Some x → object ms ≡ entry_data x
    at None e h = cc
    at (Some s) e h = ap object (link_is ms s e) ∙ ap entry_data (same_Some (Link s) x h)
