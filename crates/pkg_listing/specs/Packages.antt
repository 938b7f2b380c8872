-- Packages, and what holds of them in a listing.
use Rattle.std.specs.Prelude.{◌≡◌, ◌≢◌, ℕ, ◌≤◌, Bool, true, ◌&&◌, not, if◌then◌else◌, List, [], ◌∷◌, ◌++◌, length, map, Option, Some, None}
use Rattle.std.specs.Ordering.{nat_cmp}
use Rattle.std.specs.Cmp.Lexicographic.{slice_cmp}
use Rattle.std.specs.List.{AllByRecursion}
use Rattle.std.specs.List.Sorted.{IsStrictlySortedBy}
use Rattle.rh_base.specs.declared.limits.TheConstants.{PATH_BYTES, PATH_SEGMENTS}
use Rattle.fs_semantics.specs.FileTree.{Path, IsSegment, is_among}
use Rattle.fs_lang.specs.PathText.{path_text}
use Rattle.fs_lang.specs.Managed.{MayBeManaged}
use Rattle.pkg_listing.specs.declared.listing.Package.{Package}
use Rattle.pkg_listing.specs.declared.listing.TheConstants.{DIGEST_BYTES}

-- names with their packages
abbrev pub Packages : Type 0
Packages = List (List ℕ × Package)

-- all paths of a package: those of its files, and then its folders
abbrev pub paths_of : Package → List Path
paths_of p = map (λ f. f.path) p.files ++ p.folders

-- ---- each path once

-- each of the paths is none of those before it, of which some have been seen already
abbrev pub are_new : List Path → List Path → Bool
are_new seen [] = true
are_new seen (p ∷ ps) = not (is_among p seen) && are_new (seen ++ p ∷ []) ps

-- no path stands twice
abbrev pub stand_once : List Path → Bool
stand_once ps = are_new [] ps

-- ---- what may be listed

-- A path that may be listed: it may be managed, and it is within the limits of path texts.
pub record MayBeListed (p : Path) : Type 0 where
  pub segments : AllByRecursion IsSegment p
  pub managed : MayBeManaged p
  pub bytes : length (path_text p) ≤ PATH_BYTES
  pub depth : length p ≤ PATH_SEGMENTS

-- a digest is a text of 1 to 255 bytes
abbrev pub IsDigest : Option (List ℕ) → Type 0
IsDigest None = Unit {0}
IsDigest (Some digest) = (1 ≤ length digest) × (length digest ≤ DIGEST_BYTES)

-- Each path may be listed, no path stands twice, and each digest is one.
pub record IsFit (p : Package) : Type 0 where
  pub paths : AllByRecursion MayBeListed (paths_of p)
  pub once : stand_once (paths_of p) ≡ true
  pub digests : AllByRecursion (λ f. IsDigest f.digest) p.files

-- the names of the packages
abbrev pub names_of : Packages → List (List ℕ)
names_of ps = map (λ p. p.0) ps

-- Each name comes before the next in the order of bytes, and each package is fit.
pub record AreFit (ps : Packages) : Type 0 where
  pub names : IsStrictlySortedBy (slice_cmp nat_cmp) (names_of ps)
  pub packages : AllByRecursion (λ p. IsFit p.1) ps

-- ---- paths that are kept once

-- the paths with one more, unless it is there
abbrev pub with_path : List Path → Path → List Path
with_path ps p = if is_among p ps then ps else ps ++ p ∷ []

-- each path behind its text
abbrev pub AreKeyed : List (List ℕ × Path) → Type 0
AreKeyed es = AllByRecursion (λ e. (e.0 ≡ path_text e.1) × AllByRecursion IsSegment e.1) es

-- each path differs from those behind it
abbrev pub AreApart : List Path → Type 0
AreApart [] = Unit {0}
AreApart (p ∷ ps) = AllByRecursion (λ q. p ≢ q) ps × AreApart ps

-- each path of the package is made of segments
abbrev pub ArePathsProper : Package → Type 0
ArePathsProper p = AllByRecursion (λ f. AllByRecursion IsSegment f.path) p.files × AllByRecursion (AllByRecursion IsSegment) p.folders
