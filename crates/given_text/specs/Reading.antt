-- What the text of what every host has gives, as it is read; none, where it has another form.
use Rattle.std.specs.Prelude.{◌≡◌, ℕ, ◌==◌, if◌then◌else◌, List, [], ◌∷◌, map, Option, Some, None, option_map, codes}
use Rattle.std.specs.List.{AllByRecursion}
use Rattle.std.specs.FinMap as finite
use Rattle.serde_json.specs.Data.{Data, Members, no_members, member}
use Rattle.serde_json.specs.Find.{get, as_object, as_array}
use Rattle.serde_json.specs.Events.{members_len}
use Rattle.rh_base.specs.Reading.{◌>>=◌}
use Rattle.fs_semantics.specs.FileTree.{Path, Entry, Folder, IsSegment, Tree}
use Rattle.pkg_listing.specs.Reading.{managed_path, path_of, folders_of}
use Rattle.given_links.specs.declared.links.GivenLink.{GivenLink}
use Rattle.given_text.specs.declared.given.Given.{Given}
use Rattle.json_parts.specs.Versions.{has_version}

-- ---- the folders of paths

-- what lies above the path, from its first segment on, and the path itself; nothing of the root
abbrev pub fronts : Path → List Path
fronts [] = []
fronts (s ∷ p) = (s ∷ []) ∷ map (λ q. s ∷ q) (fronts p)

-- the tree with a folder at each of these
abbrev pub with_folders : Tree → List Path → Tree
with_folders t [] = t
with_folders t (p ∷ ps) = with_folders (finite.insert t p Folder) ps

-- the tree with the folders of each of these
abbrev pub with_paths : Tree → List Path → Tree
with_paths t [] = t
with_paths t (p ∷ paths) = with_paths (with_folders t (fronts p)) paths

-- the tree of the folders of these alone
abbrev pub folder_tree : List Path → Tree
folder_tree paths = with_paths finite.empty paths

-- each entry is a folder
abbrev pub HasOnlyFolders : Tree → Type 0
HasOnlyFolders t = (p : Path) (x : Entry) → finite.get t p ≡ Some x → x ≡ Folder

-- ---- what a text states

-- the link from a path to a target
abbrev pub link_with : Path → Path → GivenLink
link_with p target = record { path = p; target = target }

-- the link of a member
abbrev pub link_of : List ℕ → Data → Option GivenLink
link_of key d = managed_path key >>= (λ p. option_map (link_with p) (path_of d))

-- the links of all members, unless one has another form
abbrev pub links_of : Members → Option (List GivenLink)
links_of no_members = Some []
links_of (member key d members) = link_of key d >>= (λ l. option_map (λ ls. l ∷ ls) (links_of members))

-- the links of an object, if it stands among so many keys; no links, where it doesn't stand
abbrev pub links_in : Option Data → ℕ → Option (List GivenLink)
links_in None keys = if keys == 2 then Some [] else None
links_in (Some d) keys = if keys == 3 then as_object d >>= links_of else None

-- what names these folders and links
abbrev pub given_with : List Path → List GivenLink → Given
given_with folders links = record { folders = folders; links = links }

-- the folders of a list
abbrev pub folders_in : Option Data → Option (List Path)
folders_in None = None
folders_in (Some d) = as_array d >>= folders_of

-- the folders and links that JSON names, which is an object of so many keys
abbrev pub stated_with : Data → ℕ → Option Given
stated_with d keys = if has_version (get (codes "version") d)
    then folders_in (get (codes "folders") d) >>= (λ folders. option_map (given_with folders) (links_in (get (codes "links") d) keys))
    else None

-- the folders and links that JSON names
abbrev pub stated_of : Data → Option Given
stated_of d = as_object d >>= (λ members. stated_with d (members_len members))

-- each path is made of segments
abbrev pub IsProperLink : GivenLink → Type 0
IsProperLink l = AllByRecursion IsSegment l.path × AllByRecursion IsSegment l.target

abbrev pub IsProper : Given → Type 0
IsProper g = AllByRecursion (AllByRecursion IsSegment) g.folders × AllByRecursion IsProperLink g.links
