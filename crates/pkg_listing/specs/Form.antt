-- The form of a listing: which packages a text gives.
use Rattle.std.specs.Prelude.{◌≡◌, ℕ, true, List, [], ◌∷◌, Option, Some, None, IsUtf8, codes}
use Rattle.serde_json.specs.Data.{Data, null, number, string, array, object, unsigned, Items, no_items, item, Members, no_members, member}
use Rattle.serde_json.specs.Find.{get_member}
use Rattle.serde_json.specs.Events.{members_len}
use Rattle.serde_json.specs.Read.{read}
use Rattle.fs_semantics.specs.FileTree.{Path}
use Rattle.fs_lang.specs.PathText.{IsPathText}
use Rattle.fs_lang.specs.Managed.{MayBeManaged}
use Rattle.pkg_listing.specs.declared.listing.Listed.{Listed}
use Rattle.pkg_listing.specs.declared.listing.Package.{Package}
use Rattle.pkg_listing.specs.declared.reading.Version.{Version}
use Rattle.pkg_listing.specs.declared.reading.Version.TheVariants.{First, Second}
use Rattle.pkg_listing.specs.Packages.{Packages, IsDigest, paths_of, stand_once}

-- a text that spells the path, which may be managed
pub record IsPath (p : Path) (d : Data) : Type 0 where
  pub text : List ℕ
  pub is_text : d ≡ string text
  pub spells : IsPathText text p
  pub managed : MayBeManaged p

-- a digest is a text, and null stands for none
abbrev pub IsDigestOf : Option (List ℕ) → Data → Type 0
IsDigestOf None d = d ≡ null
IsDigestOf (Some digest) d = (d ≡ string digest) × IsDigest (Some digest)

-- a list of the path and the digest
pub record IsPair (f : Listed) (d : Data) : Type 0 where
  pub path : Data
  pub digest : Data
  pub is_list : d ≡ array (item path (item digest no_items))
  pub is_path : IsPath f.path path
  pub is_digest : IsDigestOf f.digest digest

-- in version 1 the path alone, in version 2 the path and the digest
abbrev pub IsFile : Version → Listed → Data → Type 0
IsFile First f d = IsPath f.path d × (f.digest ≡ None)
IsFile Second f d = IsPair f d

-- the items are these files, in order
abbrev pub AreFiles : Version → List Listed → Items → Type 0
AreFiles version [] no_items = Unit {0}
AreFiles version [] (item d items) = ⊥
AreFiles version (f ∷ files) no_items = ⊥
AreFiles version (f ∷ files) (item d items) = IsFile version f d × AreFiles version files items

-- the items are these folders, in order
abbrev pub AreFolders : List Path → Items → Type 0
AreFolders [] no_items = Unit {0}
AreFolders [] (item d items) = ⊥
AreFolders (p ∷ folders) no_items = ⊥
AreFolders (p ∷ folders) (item d items) = IsPath p d × AreFolders folders items

-- {"files": [..], "folders": [..]}, with no other key, in which no path stands twice
pub record IsPackage (version : Version) (p : Package) (d : Data) : Type 0 where
  pub members : Members
  pub is_object : d ≡ object members
  pub just_two : members_len members ≡ 2
  pub files : Items
  pub folders : Items
  pub has_files : get_member (codes "files") members ≡ Some (array files)
  pub has_folders : get_member (codes "folders") members ≡ Some (array folders)
  pub are_files : AreFiles version p.files files
  pub are_folders : AreFolders p.folders folders
  pub once : stand_once (paths_of p) ≡ true

-- each member is a package under its name; JSON is read with its names in the order of bytes, and of equal ones the last counts
abbrev pub ArePackages : Version → Packages → Members → Type 0
ArePackages version [] no_members = Unit {0}
ArePackages version [] (member name d _) = ⊥
ArePackages version (p ∷ ps) no_members = ⊥
ArePackages version (p ∷ ps) (member name d members) = (p.0 ≡ name) × IsPackage version p.1 d × ArePackages version ps members

-- the whole number of the version
abbrev pub IsVersion : Version → Data → Type 0
IsVersion First d = d ≡ number (unsigned 1)
IsVersion Second d = d ≡ number (unsigned 2)

-- {"version": 1 or 2, "packages": {NAME: PACKAGE, ..}}, with no other key
pub record IsListing (ps : Packages) (d : Data) : Type 0 where
  pub members : Members
  pub is_object : d ≡ object members
  pub just_two : members_len members ≡ 2
  pub version : Version
  pub numbered : Data
  pub has_version : get_member (codes "version") members ≡ Some numbered
  pub is_version : IsVersion version numbered
  pub packages : Members
  pub has_packages : get_member (codes "packages") members ≡ Some (object packages)
  pub are_packages : ArePackages version ps packages

-- The bytes are UTF-8 and the JSON of this listing.
pub record IsListingText (bytes : List ℕ) (ps : Packages) : Type 0 where
  pub text : IsUtf8 bytes
  pub json : Data
  pub is_read : read bytes ≡ Some json
  pub is_listing : IsListing ps json
