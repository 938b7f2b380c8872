-- The form of a text of what every host has: which folders and links it gives.
use Rattle.std.specs.Prelude.{◌≡◌, ℕ, List, [], ◌∷◌, ◌++◌, map, Option, Some, None, IsUtf8, codes}
use Rattle.std.specs.List.{AllByRecursion}
use Rattle.std.specs.FinMap as finite
use Rattle.serde_json.specs.Data.{Data, number, string, array, object, unsigned, Items, Members, no_members, member}
use Rattle.serde_json.specs.Find.{get_member}
use Rattle.serde_json.specs.Events.{members_len}
use Rattle.serde_json.specs.Read.{read}
use Rattle.fs_semantics.specs.FileTree.{Path, Tree}
use Rattle.pkg_listing.specs.Form.{IsPath, AreFolders}
use Rattle.given_links.specs.declared.links.GivenLink.{GivenLink}
use Rattle.given_links.specs.Links.{IsBehindNone, AreLinks}
use Rattle.given_text.specs.declared.given.Given.{Given}
use Rattle.given_text.specs.Folders.{HasJust}

-- a member from the link's path to its target
abbrev pub IsLinkOf : GivenLink → List ℕ → Data → Type 0
IsLinkOf l key d = IsPath l.path (string key) × IsPath l.target d

-- each member is a link; JSON is read with its keys in the order of bytes, and of equal ones the last counts
abbrev pub AreLinksOf : List GivenLink → Members → Type 0
AreLinksOf [] no_members = Unit {0}
AreLinksOf [] (member key d _) = ⊥
AreLinksOf (l ∷ links) no_members = ⊥
AreLinksOf (l ∷ links) (member key d members) = IsLinkOf l key d × AreLinksOf links members

-- an object of links; or nothing, where there are none, among so many keys, which it is one of
abbrev pub LinksAre : List GivenLink → Option Data → ℕ → Type 0
LinksAre links None keys = (links ≡ []) × (keys ≡ 2)
LinksAre links (Some d) keys = (members : Members) × (d ≡ object members) × AreLinksOf links members × (keys ≡ 3)

-- {"version": 1, "folders": [..], "links": {..}}, with no other key, and perhaps without the links
pub record IsStated (g : Given) (d : Data) : Type 0 where
  pub members : Members
  pub is_object : d ≡ object members
  pub has_version : get_member (codes "version") members ≡ Some (number (unsigned 1))
  pub folders : Items
  pub has_folders : get_member (codes "folders") members ≡ Some (array folders)
  pub are_folders : AreFolders g.folders folders
  pub are_links : LinksAre g.links (get_member (codes "links") members) (members_len members)

-- No link's path or target is at or below another link's path or its own, and no folder is at or below a link's path.
pub record IsSound (g : Given) : Type 0 where
  pub links : AreLinks g.links
  pub folders : AllByRecursion (λ p. IsBehindNone p g.links) g.folders

-- what is named: the folders, and the targets of the links
abbrev pub named : Given → List Path
named g = g.folders ++ map (λ l. l.target) g.links

-- The links that are named; and the given folders, which are the folders that are named, the targets of links and what lies above them,
-- the root not among them: each once, in the order of paths by segments, so that a folder stands ahead of what lies below it.
pub record IsClosed (stated g : Given) : Type 0 where
  pub links : g.links ≡ stated.links
  pub tree : Tree
  pub just : HasJust (named stated) tree
  pub folders : g.folders ≡ finite.keys tree

-- JSON of folders and links that are sound, and what is given with them
pub record IsGivenBy (d : Data) (g : Given) : Type 0 where
  pub stated : Given
  pub states : IsStated stated d
  pub sound : IsSound stated
  pub closed : IsClosed stated g

-- The bytes are UTF-8 and the JSON of what is given.
pub record IsGivenText (bytes : List ℕ) (g : Given) : Type 0 where
  pub text : IsUtf8 bytes
  pub json : Data
  pub is_read : read bytes ≡ Some json
  pub gives : IsGivenBy json g
