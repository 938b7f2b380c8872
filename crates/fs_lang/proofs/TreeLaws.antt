-- A map of entries as a tree.
use Rattle.std.proofs.Common.{◌≡◌, ℕ, Bool, true, false, cond, List, [], ◌∷◌, Option, Some, None, option_map, is_some, refl, sym, ap, subst, ◌∙◌}
use Rattle.std.specs.Cmp.{eq_by_cmp_equiv}
use Rattle.std.specs.FinMap as finite
use Rattle.std.specs.FinMap.{find, get-from_entries, get-insert, get-empty}
use Rattle.std.specs.Map.{lookup}
use Rattle.std.specs.BTreeMap as stored
use Rattle.std.specs.BTreeMap.{BTreeMap, is_at}
use Rattle.std.specs.List.{AllByRecursion}
use Rattle.fs_semantics.specs.FileTree.{Path, Tree, IsTree, IsSegment, IsBytes, HasText, path_cmp, path_eq, parent}
use Rattle.fs_semantics.specs.Entries.{IsFreeAt, IsFolderAt}
use Rattle.fs_semantics.proofs.Trees.{path_total}
use Rattle.fs_semantics.proofs.Words.{same_tree, free_at, folder_at}
use Rattle.fs_semantics.proofs.ConstructLaws.{insert_keeps_tree}
use Rattle.fs_lang.specs.declared.program.Entry.{Entry}
use Rattle.fs_lang.specs.declared.program.Entry.TheVariants as entry
use Rattle.fs_lang.specs.Meaning.{entry_of}
use Rattle.fs_lang.specs.Trees.{entries_of, tree_of, TextIsBytes}

-- what is found among entries as the definitions have them is the entry of the code there
found : (q : Path) (es : List (Path × Entry)) → find path_cmp q (entries_of es) ≡ option_map entry_of (lookup (is_at (path_cmp q)) es)
found q [] = refl
found q (e ∷ es) = ap (cond (path_eq q e.0) (Some (entry_of e.1))) (found q es) ∙ inside (path_eq q e.0) e.1 (lookup (is_at (path_cmp q)) es)
  where
    inside : (b : Bool) (x : Entry) (r : Option Entry) → cond b (Some (entry_of x)) (option_map entry_of r) ≡ option_map entry_of (cond b (Some x) r)
    inside true x r = refl
    inside false x r = refl

-- what stands at a path
pub get_tree : (m : BTreeMap Path Entry) (q : Path) → finite.get (tree_of m) q ≡ option_map entry_of (stored.get path_cmp m q)
get_tree m q = get-from_entries path_total (entries_of m.entries) q ∙ found q m.entries

-- the entry of the definitions is told of the new entry or of the old one, whichever it is
inserted_at : (b : Bool) (x : Entry) (r : Option Entry) → option_map entry_of (cond b (Some x) r) ≡ cond b (Some (entry_of x)) (option_map entry_of r)
inserted_at true x r = refl
inserted_at false x r = refl

-- an entry more
pub inserted : (m n : BTreeMap Path Entry) (p : Path) (x : Entry) → stored.Updates path_cmp m n p (Some x) → tree_of n ≡ finite.insert (tree_of m) p (entry_of x)
inserted m n p x more = same_tree (tree_of n) (finite.insert (tree_of m) p (entry_of x)) (λ q.
    get_tree n q ∙ ap (option_map entry_of) (more.0 q) ∙ inserted_at (is_at (path_cmp p) q) x (stored.get path_cmp m q)
    ∙ ap (λ b. cond b (Some (entry_of x)) (option_map entry_of (stored.get path_cmp m q))) ((eq_by_cmp_equiv path_total).symm p q)
    ∙ ap (cond (path_eq q p) (Some (entry_of x))) (sym (get_tree m q))
    ∙ sym (get-insert path_total (tree_of m) p (entry_of x) q))

-- a content or target that the code holds to be of bytes is so
has_bytes : (x : Entry) → TextIsBytes x → (text : List ℕ) → HasText (Some (entry_of x)) text → IsBytes text
has_bytes entry.Folder h text k = absurd k
has_bytes (entry.File content) h text k = subst IsBytes (sym k) h
has_bytes (entry.Link target) h text k = subst IsBytes (sym k) h

-- a tree with an entry more, in a free place below a folder
pub grown : (t : Tree) (p : Path) (x : Entry) → IsTree t → AllByRecursion IsSegment p → TextIsBytes x → IsFreeAt t p → IsFolderAt t (parent p) → IsTree (finite.insert t p (entry_of x))
grown t p x is proper bytes free above = insert_keeps_tree t p (entry_of x) is proper (has_bytes x bytes) ((free_at t p).1 free) ((folder_at t (parent p)).1 above)

-- the tree without entries is a file tree
pub empty_tree : IsTree finite.empty
empty_tree = record {
  no_root = get-empty path_cmp [];
  paths = λ p h. let no : ◌≡◌ false true = sym (ap is_some (get-empty path_cmp p)) ∙ h in cc;
  parents = λ p h. let no : ◌≡◌ false true = sym (ap is_some (get-empty path_cmp p)) ∙ h in cc;
  texts = λ p text h. absurd (subst (λ r. HasText r text) (get-empty path_cmp p) h);
}

-- a map without entries is the empty tree
pub no_entries : (m : BTreeMap Path Entry) → m.entries ≡ [] → tree_of m ≡ finite.empty
no_entries m e = ap (λ es. finite.from_entries (entries_of es)) e

-- two functions on what may be there, one after the other, are both at once
pub mapped_twice : {A B C : Type 0} (f : A → B) (g : B → C) (r : Option A) → option_map (λ x. g (f x)) r ≡ option_map g (option_map f r)
mapped_twice f g None = refl
mapped_twice f g (Some x) = refl
