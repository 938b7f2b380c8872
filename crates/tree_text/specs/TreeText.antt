-- The JSON text of a file tree.
use Rattle.std.specs.Prelude.{◌≡◌, ◌⊎◌, ◌≤◌, ℕ, List, [], ◌∷◌, length, Some, IsUtf8, codes}
use Rattle.std.specs.Ordering.{nat_cmp}
use Rattle.std.specs.Cmp.Lexicographic.{slice_cmp}
use Rattle.std.specs.List.Sorted.{IsStrictlySortedBy}
use Rattle.std.specs.FinMap as map
use Rattle.serde_json.specs.Data.{Data, null, string, object, Members, no_members, member, put}
use Rattle.serde_json.specs.Read.{read}
use Rattle.serde_json.specs.Written.{compact_text}
use Rattle.rh_base.specs.declared.limits.TheConstants.{PATH_BYTES, PATH_SEGMENTS}
use Rattle.fs_semantics.specs.FileTree.{Path, Entry, Folder, File, Link, Tree, IsTree}
use Rattle.fs_lang.specs.PathText.{path_text}

-- what stands for an entry: null for a folder, the content for a file, and {"link": TARGET} for a link
abbrev pub entry_data : Entry → Data
entry_data Folder = null
entry_data (File content) = string content
entry_data (Link target) = object (member (codes "link") (string target) no_members)

-- the object has this member
abbrev pub HasMember : List ℕ → Data → Members → Type 0
HasMember key d no_members = ⊥
HasMember key d (member k e members) = ((key ≡ k) × (d ≡ e)) ⊎ HasMember key d members

-- the tree has an entry for which this member stands, under the text of its path
pub record IsEntryOf (t : Tree) (key : List ℕ) (d : Data) : Type 0 where
  pub path : Path
  pub entry : Entry
  pub stands : map.get t path ≡ Some entry
  pub key_is : key ≡ path_text path
  pub data_is : d ≡ entry_data entry

-- Each member stands for an entry of the tree, and for each entry there is its member.
pub record AreMembers (members : Members) (t : Tree) : Type 0 where
  pub member_is_entry : (key : List ℕ) (d : Data) → HasMember key d members → IsEntryOf t key d
  pub entry_is_member : (path : Path) (entry : Entry) → map.get t path ≡ Some entry → HasMember (path_text path) (entry_data entry) members

-- each path of the tree is within the limits of path texts
abbrev pub IsWithinLimits : Tree → Type 0
IsWithinLimits t = (path : Path) (entry : Entry) → map.get t path ≡ Some entry → (length (path_text path) ≤ PATH_BYTES)
    × (length path ≤ PATH_SEGMENTS)

-- The bytes are UTF-8 and a JSON object of this tree's entries, each under the text of its path as it is written. Of equal
-- keys of an object the last counts.
pub record IsTreeText (bytes : List ℕ) (t : Tree) : Type 0 where
  pub is_tree : IsTree t
  pub limits : IsWithinLimits t
  pub text : IsUtf8 bytes
  pub members : Members
  pub is_read : read bytes ≡ Some (object members)
  pub are : AreMembers members t

-- ---- the text that is written

-- the members of these entries and those before, with the keys in the order of their bytes
abbrev pub members_with : Members → List (Path × Entry) → Members
members_with members [] = members
members_with members (e ∷ es) = members_with (put (path_text e.0) (entry_data e.1) members) es

-- the members of the object of a tree
abbrev pub members_of : Tree → Members
members_of t = members_with no_members (map.entries t)

-- without blanks
abbrev pub tree_text : Tree → List ℕ
tree_text t = compact_text (object (members_of t))

-- the keys of these members, in order
abbrev pub keys_in : Members → List (List ℕ)
keys_in no_members = []
keys_in (member key d members) = key ∷ keys_in members

-- each key comes before the next in the order of bytes
abbrev pub KeysRise : Members → Type 0
KeysRise members = IsStrictlySortedBy (slice_cmp nat_cmp) (keys_in members)
