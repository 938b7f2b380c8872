-- What maps of entries stand for.
use Rattle.std.specs.Prelude.{◌≡◌, ℕ, List, map, Option, Some, None, refl}
use Rattle.std.specs.Coded.{Coded, code_by, coded_list, coded_ℕ, coded×, coded_option}
use Rattle.std.specs.FinMap as finite
use Rattle.std.specs.BTreeMap.{BTreeMap}
use Rattle.fs_semantics.specs.FileTree as tree
use Rattle.fs_semantics.specs.FileTree.{Path, Tree, IsBytes}
use Rattle.fs_lang.specs.declared.program.Entry.{Entry}
use Rattle.fs_lang.specs.declared.program.Entry.TheVariants as entry
use Rattle.fs_lang.specs.Meaning.{entry_of}

-- the entries of the definitions
abbrev pub entries_of : List (Path × Entry) → List (Path × tree.Entry)
entries_of es = map (λ e. (e.0, entry_of e.1)) es

-- the tree with these entries
abbrev pub tree_of : BTreeMap Path Entry → Tree
tree_of entries = finite.from_entries (entries_of entries.entries)

-- an entry as one of two texts, or none
abbrev pub to_texts : tree.Entry → Option (List ℕ × Option (List ℕ))
to_texts tree.Folder = None
to_texts (tree.File content) = Some (content, None)
to_texts (tree.Link target) = Some (target, Some target)

-- the entry that these texts stand for
abbrev pub from_texts : Option (List ℕ × Option (List ℕ)) → tree.Entry
from_texts None = tree.Folder
from_texts (Some (content, None)) = tree.File content
from_texts (Some (target, Some more)) = tree.Link target

-- each entry comes back
pub back : (e : tree.Entry) → from_texts (to_texts e) ≡ e
back tree.Folder = refl
back (tree.File content) = refl
back (tree.Link target) = refl

-- trees by codes of their paths and entries, which the kit asks for where contracts see a type as a tree
abbrev pub coded_tree : Coded Tree
coded_tree = finite.code (coded_list (coded_list coded_ℕ)) (code_by (Option (List ℕ
    × Option (List ℕ))) (coded_option
    (coded× (coded_list coded_ℕ) (coded_option (coded_list coded_ℕ)))) to_texts from_texts back)

-- the entry's content or target is of bytes
abbrev pub TextIsBytes : Entry → Type 0
TextIsBytes entry.Folder = Unit {0}
TextIsBytes (entry.File content) = IsBytes content
TextIsBytes (entry.Link target) = IsBytes target
