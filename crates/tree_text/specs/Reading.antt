-- The reading of a tree's text, member by member.
use Rattle.std.specs.Prelude.{◌≡◌, ℕ, ◌==◌, List, Option, Some, None, option_map, option_and_then, if◌then◌else◌, codes}
use Rattle.std.specs.FinMap as map
use Rattle.serde_json.specs.Data.{Data, null, boolean, number, string, array, object, Members}
use Rattle.serde_json.specs.Find.{get_member, as_str}
use Rattle.serde_json.specs.Events.{members_len}
use Rattle.fs_semantics.specs.FileTree.{Path, Entry, Folder, File, Link, Tree, parent}
use Rattle.fs_semantics.specs.Entries.{IsFreeAt, IsFolderAt}
use Rattle.fs_lang.specs.PathText.{IsPathText, path_text}
use Rattle.tree_text.specs.TreeText.{entry_data}

-- the target in an object of one member, which is named `link`
abbrev pub target_in : Members → Option (List ℕ)
target_in members = if members_len members == 1 then option_and_then as_str (get_member (codes "link") members) else None

-- the entry for which this stands
abbrev pub entry_in : Data → Option Entry
entry_in null = Some Folder
entry_in (boolean b) = None
entry_in (number n) = None
entry_in (string content) = Some (File content)
entry_in (array items) = None
entry_in (object members) = option_map Link (target_in members)

-- the text of a path, as it is written
pub record IsKey (key : List ℕ) (p : Path) : Type 0 where
  pub text : IsPathText key p
  pub form : key ≡ path_text p

-- the member stands for this entry, for which there is a place in the tree
pub record Fits (key : List ℕ) (d : Data) (t : Tree) (p : Path) (x : Entry) : Type 0 where
  pub is_key : IsKey key p
  pub value : d ≡ entry_data x
  pub free : IsFreeAt t p
  pub above : IsFolderAt t (parent p)

-- u is t with the entry for which the member stands
abbrev pub IsGrown : List ℕ → Data → Tree → Tree → Type 0
IsGrown key d t u = (p : Path) × (x : Entry) × Fits key d t p x × (u ≡ map.insert t p x)
