-- The listing that JSON gives, as it is read; none, where it has another form.
use Rattle.std.specs.Prelude.{◌≡◌, Result, Ok, Err, ◌++◌, ℕ, ◌==◌, ◌&&◌, Bool, true, false, not, nat_le, if◌then◌else◌, List, [], ◌∷◌, length, Option, Some, None, option_map, codes}
use Rattle.std.specs.Str.{bytes_eq}
use Rattle.serde_json.specs.Data.{Data, null, boolean, number, string, array, object, Items, no_items, item, Members, no_members, member}
use Rattle.serde_json.specs.Find.{get_member, as_object, as_array, as_str, as_number, as_u64}
use Rattle.serde_json.specs.Events.{members_len}
use Rattle.rh_base.specs.Reading.{◌>>=◌}
use Rattle.rh_base.specs.declared.text.NoMemory.{NoMemory}
use Rattle.fs_semantics.specs.FileTree.{Path}
use Rattle.fs_lang.specs.Reading.{path_in}
use Rattle.pkg_listing.specs.declared.listing.Listed.{Listed}
use Rattle.pkg_listing.specs.declared.listing.Package.{Package}
use Rattle.pkg_listing.specs.declared.listing.TheConstants.{DIGEST_BYTES}
use Rattle.pkg_listing.specs.declared.reading.Version.{Version}
use Rattle.pkg_listing.specs.declared.reading.Version.TheVariants.{First, Second}
use Rattle.pkg_listing.specs.Packages.{Packages, paths_of, are_new, stand_once, ArePathsProper}
use Rattle.pp_value.specs.Keys.{with_pair}

-- ---- paths and digests

-- neither the root nor at or under `/.rehearsal`
abbrev pub is_managed : Path → Bool
is_managed [] = false
is_managed (s ∷ p) = not (bytes_eq s (codes ".rehearsal"))

-- the path, if it may be managed
abbrev pub if_managed : Path → Option Path
if_managed p = if is_managed p then Some p else None

-- the path that a text spells, if it may be managed
abbrev pub managed_path : List ℕ → Option Path
managed_path text = path_in text >>= if_managed

-- the path of JSON that is a text
abbrev pub path_of : Data → Option Path
path_of d = as_str d >>= managed_path

-- the text, if it may be a digest
abbrev pub if_digest : List ℕ → Option (List ℕ)
if_digest text = if not (length text == 0) && nat_le (length text) DIGEST_BYTES then Some text else None

-- a text, or null where there is none
abbrev pub digest_of : Data → Option (Option (List ℕ))
digest_of null = Some None
digest_of (boolean b) = None
digest_of (number n) = None
digest_of (string text) = option_map (λ t. Some t) (if_digest text)
digest_of (array items) = None
digest_of (object _) = None

-- ---- files and folders

-- the file with this path and digest
abbrev pub file_with : Option (List ℕ) → Path → Listed
file_with digest p = record { path = p; digest = digest }

-- the file of a list of just a path and a digest
abbrev pub pair_of : Items → Option Listed
pair_of no_items = None
pair_of (item p no_items) = None
pair_of (item p (item digest no_items)) = path_of p >>= (λ q. option_map (λ g. file_with g q) (digest_of digest))
pair_of (item p (item digest (item d more))) = None

-- a file as the version has it: a path, or a path and a digest
abbrev pub file_of : Version → Data → Option Listed
file_of First d = option_map (file_with None) (path_of d)
file_of Second d = as_array d >>= pair_of

-- the files of all items, unless one has another form
abbrev pub files_of : Version → Items → Option (List Listed)
files_of version no_items = Some []
files_of version (item d items) = file_of version d >>= (λ f. option_map (λ fs. f ∷ fs) (files_of version items))

-- the folders of all items, unless one has another form
abbrev pub folders_of : Items → Option (List Path)
folders_of no_items = Some []
folders_of (item d items) = path_of d >>= (λ p. option_map (λ ps. p ∷ ps) (folders_of items))

-- ---- packages

-- the values of an object that has just these two keys
abbrev pub two_among : List ℕ → List ℕ → Members → Option (Data × Data)
two_among a b members = if members_len members == 2 then get_member a members >>=
    (λ x. option_map (λ y. (x, y)) (get_member b members)) else None

-- the same of JSON, if it is an object
abbrev pub two_of : List ℕ → List ℕ → Data → Option (Data × Data)
two_of a b d = as_object d >>= two_among a b

-- the package with these files and folders
abbrev pub package_with : List Listed → List Path → Package
package_with files folders = record { files = files; folders = folders }

-- the package, unless a path stands twice in it
abbrev pub if_once : Package → Option Package
if_once p = if stand_once (paths_of p) then Some p else None

-- the package of two lists
abbrev pub lists_of : Version → Data → Data → Option Package
lists_of version files folders = as_array files >>= files_of version >>=
    (λ fs. option_map (λ ps. package_with fs ps) (as_array folders >>= folders_of))

-- the package of these two values, unless a path stands twice in it
abbrev pub package_among : Version → Data × Data → Option Package
package_among version two = lists_of version two.0 two.1 >>= if_once

-- the package of an object of just `files` and `folders`
abbrev pub package_of : Version → Data → Option Package
package_of version d = two_of (codes "files") (codes "folders") d >>= package_among version

-- the packages of all members, unless one has another form
abbrev pub packages_of : Version → Members → Option Packages
packages_of version no_members = Some []
packages_of version (member name d members) = package_of version d >>=
    (λ p. option_map (λ ps. (name, p) ∷ ps) (packages_of version members))

-- ---- listings

-- the version with this number
abbrev pub version_numbered : ℕ → Option Version
version_numbered n = if n == 1 then Some First else (if n == 2 then Some Second else None)

-- the version of JSON that is its number
abbrev pub version_of : Data → Option Version
version_of d = as_number d >>= as_u64 >>= version_numbered

-- the packages of these two values, the version and the packages
abbrev pub listing_among : Data × Data → Option Packages
listing_among two = version_of two.0 >>= (λ version. as_object two.1 >>= packages_of version)

-- the listing of an object of just `version` and `packages`
abbrev pub listing_of : Data → Option Packages
listing_of d = two_of (codes "version") (codes "packages") d >>= listing_among

-- ---- what the parts of the code do

-- Whether the paths are new and differ from one another, and the paths that are kept then.
abbrev pub AddsAll : Result Bool NoMemory → List Path → List Path → List Path → Type 0
AddsAll (Ok true) ps old new = (are_new old ps ≡ true) × (new ≡ old ++ ps)
AddsAll (Ok false) ps old new = are_new old ps ≡ false
AddsAll (Err e) ps old new = Unit {0}

-- The packages with one more, which the member stands for.
abbrev pub AddsPackage : Version → List ℕ → Data → Packages → Packages → Type 0
AddsPackage version name d old new = (p : Package) × (package_of version d ≡ Some p) × ArePathsProper p × (new ≡ with_pair name p old)
