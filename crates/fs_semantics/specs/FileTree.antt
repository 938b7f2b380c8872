-- File trees: finite maps from paths to entries.
use Rattle.std.specs.Prelude.{◌≡◌, ◌≢◌, ℕ, ◌<◌, Bool, true, false, not, ◌&&◌, List, [], ◌∷◌, IsTrue, Option, Some, None}
use Rattle.std.specs.declared.cmp.Ordering.{Ordering}
use Rattle.std.specs.Ordering.{nat_cmp, is_eq}
use Rattle.std.specs.Cmp.Lexicographic.{slice_cmp}
use Rattle.std.specs.List.{list_any, AllByRecursion}
use Rattle.std.specs.FinMap as map

-- a segment is a text, and a path the list of its segments; the root is the empty list
abbrev pub Segment : Type 0
Segment = List ℕ

abbrev pub Path : Type 0
Path = List Segment

-- each number is a byte
abbrev pub IsBytes : List ℕ → Type 0
IsBytes text = AllByRecursion (λ b. b < 256) text

-- nonempty, of bytes, without a slash or a zero, and neither one dot nor two
pub record IsSegment (s : Segment) : Type 0 where
  pub bytes : IsBytes s
  pub nonempty : s ≢ []
  pub no_slash : AllByRecursion (λ b. b ≢ 47) s
  pub no_zero : AllByRecursion (λ b. b ≢ 0) s
  pub not_dot : s ≢ (46 ∷ [])
  pub not_dots : s ≢ (46 ∷ 46 ∷ [])

-- the parent of the root is the root
abbrev pub parent : Path → Path
parent [] = []
parent (s ∷ []) = []
parent (s ∷ r ∷ p) = s ∷ parent (r ∷ p)

-- segment by segment, each by its bytes
abbrev pub path_cmp : Path → Path → Ordering
path_cmp = slice_cmp (slice_cmp nat_cmp)

-- the two are one path
abbrev pub path_eq : Path → Path → Bool
path_eq p q = is_eq (path_cmp p q)

-- the path stands in the list
abbrev pub is_among : Path → List Path → Bool
is_among p ps = list_any (path_eq p) ps

-- a folder, a file with its content, or a symbolic link with its target, which isn't followed
pub data Entry : Type 0 where
  Folder : Entry
  File : List ℕ → Entry
  Link : List ℕ → Entry

-- the text is the content or the target of the entry
abbrev pub HasText : Option Entry → List ℕ → Type 0
HasText None text = ⊥
HasText (Some Folder) text = ⊥
HasText (Some (File content)) text = text ≡ content
HasText (Some (Link target)) text = text ≡ target

-- What stands at which path: a finite map. Two of them are equal where they have the same entries.
abbrev pub Tree : Type 0
Tree = map.FinMap path_cmp Entry

abbrev pub is_file_entry : Option Entry → Bool
is_file_entry None = false
is_file_entry (Some Folder) = false
is_file_entry (Some (File content)) = true
is_file_entry (Some (Link target)) = false

abbrev pub is_link_entry : Option Entry → Bool
is_link_entry None = false
is_link_entry (Some Folder) = false
is_link_entry (Some (File content)) = false
is_link_entry (Some (Link target)) = true

abbrev pub is_folder_entry : Option Entry → Bool
is_folder_entry None = false
is_folder_entry (Some Folder) = true
is_folder_entry (Some (File content)) = false
is_folder_entry (Some (Link target)) = false

abbrev pub is_no_entry : Option Entry → Bool
is_no_entry None = true
is_no_entry (Some e) = false

abbrev pub is_file : Tree → Path → Bool
is_file t p = is_file_entry (map.get t p)

abbrev pub is_link : Tree → Path → Bool
is_link t p = is_link_entry (map.get t p)

-- the root is always a folder
abbrev pub is_dir : Tree → Path → Bool
is_dir t [] = true
is_dir t (s ∷ p) = is_folder_entry (map.get t (s ∷ p))

-- nothing stands there; the root isn't such a place
abbrev pub is_none : Tree → Path → Bool
is_none t [] = false
is_none t (s ∷ p) = is_no_entry (map.get t (s ∷ p))

abbrev pub is_root : Path → Bool
is_root [] = true
is_root (s ∷ p) = false

-- a folder that is the parent of no entry
abbrev pub is_empty_dir : Tree → Path → Bool
is_empty_dir t p = is_dir t p && not (list_any (λ q. path_eq (parent q) p) (map.keys t))

-- A file tree: the root has no entry, each path is made of segments, the parent of each entry is the root or a folder, and
-- contents and targets are of bytes.
pub record IsTree (t : Tree) : Type 0 where
  pub no_root : map.get t [] ≡ None
  pub paths : (p : Path) → IsTrue (map.contains_key t p) → AllByRecursion IsSegment p
  pub parents : (p : Path) → IsTrue (map.contains_key t p) → IsTrue (is_dir t (parent p))
  pub texts : (p : Path) (text : List ℕ) → HasText (map.get t p) text → IsBytes text

-- The rule on parents alone: the root has no entry, and the parent of each entry is the root or a folder.
pub record HasParents (t : Tree) : Type 0 where
  pub no_root : map.get t [] ≡ None
  pub parents : (p : Path) → IsTrue (map.contains_key t p) → IsTrue (is_dir t (parent p))
