-- The text that is written of a listing.
use Rattle.std.specs.Prelude.{ℕ, List, [], ◌∷◌, map, Option, Some, None, codes}
use Rattle.serde_json.specs.Data.{Data, null, number, string, array, object, unsigned, no_items, item, Members, no_members, member}
use Rattle.serde_json.specs.View.{items_of}
use Rattle.serde_json.specs.Written.{compact_text}
use Rattle.fs_semantics.specs.FileTree.{Path}
use Rattle.fs_lang.specs.PathText.{path_text}
use Rattle.pkg_listing.specs.declared.listing.Listed.{Listed}
use Rattle.pkg_listing.specs.declared.listing.Package.{Package}
use Rattle.pkg_listing.specs.Packages.{Packages}

-- a string, or null where there is none
abbrev pub digest_data : Option (List ℕ) → Data
digest_data None = null
digest_data (Some digest) = string digest

-- a path as it is written
abbrev pub path_data : Path → Data
path_data p = string (path_text p)

-- the path as it is written, and the digest
abbrev pub file_data : Listed → Data
file_data f = array (item (path_data f.path) (item (digest_data f.digest) no_items))

-- the object of a package: its files and its folders
abbrev pub package_data : Package → Data
package_data p = object (member (codes "files") (array (items_of (map file_data p.files))) (member (codes "folders") (array (items_of (map path_data p.folders))) no_members))

-- a member for each package, under its name
abbrev pub packages_data : Packages → Members
packages_data [] = no_members
packages_data (p ∷ ps) = member p.0 (package_data p.1) (packages_data ps)

-- version 2, with the keys of each object in the order of their bytes
abbrev pub listing_data : Packages → Data
listing_data ps = object (member (codes "packages") (object (packages_data ps)) (member (codes "version") (number (unsigned 2)) no_members))

-- without blanks
abbrev pub listing_text : Packages → List ℕ
listing_text ps = compact_text (listing_data ps)
