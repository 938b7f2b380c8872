-- What is written of a listing is read back.
use Rattle.std.proofs.Common.{◌≡◌, ℕ, suc, max, ◌≤◌, false, ◌||◌, List, [], ◌∷◌, ◌++◌, length, map, Option, Some, None, option_map, IsUtf8, refl, ap, ap₂, subst, ◌∙◌, arith, cond}
use Rattle.std.proofs.Math.Nat.{max-le}
use Rattle.std.specs.declared.cmp.Ordering.{Ordering}
use Rattle.std.specs.declared.cmp.Ordering.TheVariants.{Less, Greater}
use Rattle.std.specs.Ordering.{nat_cmp, match_ordering, ordering_reverse}
use Rattle.std.specs.Cmp.Lexicographic.{slice_cmp, nat_list_cmp_total}
use Rattle.std.specs.List.{AllByRecursion}
use Rattle.std.specs.List.Sorted.{IsStrictlySortedBy}
use Rattle.rh_base.specs.declared.limits.TheConstants.{PATH_BYTES, PATH_SEGMENTS}
use Rattle.rh_base.specs.Reading.{◌>>=◌}
use Rattle.serde_json.specs.Data.{Data, Members, member, put, depth, items_depth, members_depth}
use Rattle.serde_json.specs.View.{items_of}
use Rattle.serde_json.specs.Read.{read, max_depth}
use Rattle.serde_json.specs.Written.{has_float, items_have_float, members_have_float}
use Rattle.fs_semantics.specs.FileTree.{Path, IsSegment}
use Rattle.fs_lang.specs.PathText.{IsPathText, path_text}
use Rattle.pkg_listing.specs.declared.listing.Listed.{Listed}
use Rattle.pkg_listing.specs.declared.listing.Package.{Package}
use Rattle.pkg_listing.specs.declared.reading.Version.TheVariants.{Second}
use Rattle.pkg_listing.specs.Packages.{Packages, MayBeListed, IsDigest, IsFit, AreFit, names_of, ArePathsProper}
use Rattle.pkg_listing.specs.Reading.{path_of, digest_of, file_with, file_of, files_of, folders_of, package_with, if_once, package_of, packages_of, listing_of}
use Rattle.pkg_listing.specs.Form.{IsDigestOf, IsListingText}
use Rattle.pkg_listing.specs.ListingText.{path_data, digest_data, file_data, package_data, packages_data, listing_data, listing_text}
use Rattle.pkg_listing.proofs.PathLaws.{read_path}
use Rattle.pkg_listing.proofs.FormLaws.{digest_back, AreProper, listing_read}

-- a path within the limits is read back from what is written of it, as the law of path texts says
abbrev pub Again : Type 0
Again = (p : Path) → AllByRecursion IsSegment p → length (path_text p) ≤ PATH_BYTES → length p ≤ PATH_SEGMENTS → IsPathText (path_text p) p

-- ---- it is read back

-- a path that may be listed is read back
path_again : Again → (p : Path) → MayBeListed p → path_of (path_data p) ≡ Some p
path_again again p h = read_path (path_text p) p (again p h.segments h.bytes h.depth) h.managed

-- what is written of a digest, or of none, has its form
digest_told : (g : Option (List ℕ)) → IsDigest g → IsDigestOf g (digest_data g)
digest_told None h = refl
digest_told (Some digest) h = (refl, h)

-- a file that may be listed is read back
file_again : Again → (f : Listed) → MayBeListed f.path → IsDigest f.digest → file_of Second (file_data f) ≡ Some f
file_again again f h g =
    ap (λ o. o >>= (λ q. option_map (λ d. file_with d q) (digest_of (digest_data f.digest)))) (path_again again f.path h)
    ∙ ap (option_map (λ d. file_with d f.path)) (digest_back (digest_data f.digest) f.digest (digest_told f.digest g))

-- and so are all files of a list
files_again : Again → (files : List Listed) → AllByRecursion MayBeListed (map (λ f. f.path) files) → AllByRecursion (λ f. IsDigest f.digest) files → files_of Second (items_of (map file_data files)) ≡ Some files
files_again again [] h g = refl
files_again again (f ∷ files) h g =
    ap (λ o. o >>= (λ x. option_map (λ fs. x ∷ fs) (files_of Second (items_of (map file_data files))))) (file_again again f h.0 g.0)
    ∙ ap (option_map (λ fs. f ∷ fs)) (files_again again files h.1 g.1)

-- and all folders
folders_again : Again → (folders : List Path) → AllByRecursion MayBeListed folders → folders_of (items_of (map path_data folders)) ≡ Some folders
folders_again again [] h = refl
folders_again again (p ∷ folders) h =
    ap (λ o. o >>= (λ q. option_map (λ ps. q ∷ ps) (folders_of (items_of (map path_data folders))))) (path_again again p h.0)
    ∙ ap (option_map (λ ps. p ∷ ps)) (folders_again again folders h.1)

-- what holds of all of two lists joined holds of all of each
split : {X : Type 0} (P : X → Type 0) (xs ys : List X) → AllByRecursion P (xs ++ ys) → AllByRecursion P xs × AllByRecursion P ys
split P [] ys h = (tt, h)
split P (x ∷ xs) ys h = let two = split P xs ys h.1 in ((h.0, two.0), two.1)

-- a fit package is read back
package_again : Again → (p : Package) → IsFit p → package_of Second (package_data p) ≡ Some p
package_again again p h =
    let two = split MayBeListed (map (λ f. f.path) p.files) p.folders h.paths in
    ap (λ o. o >>= (λ fs. option_map (λ ps. package_with fs ps) (folders_of (items_of (map path_data p.folders)))) >>= if_once) (files_again again p.files two.0 h.digests)
    ∙ (ap (λ o. option_map (λ ps. package_with p.files ps) o >>= if_once) (folders_again again p.folders two.1)
    ∙ ap (λ t. cond t (Some p) None) h.once)

-- and so are all packages
packages_again : Again → (ps : Packages) → AllByRecursion (λ p. IsFit p.1) ps → packages_of Second (packages_data ps) ≡ Some ps
packages_again again [] h = refl
packages_again again (p ∷ ps) h =
    ap (λ o. o >>= (λ q. option_map (λ qs. (p.0, q) ∷ qs) (packages_of Second (packages_data ps)))) (package_again again p.1 h.0)
    ∙ ap (option_map (λ qs. p ∷ qs)) (packages_again again ps h.1)

-- and a fit listing
listing_again : Again → (ps : Packages) → AreFit ps → listing_of (listing_data ps) ≡ Some ps
listing_again again ps h = packages_again again ps h.packages

-- the paths of files that may be listed are made of segments
files_proper : (files : List Listed) → AllByRecursion MayBeListed (map (λ f. f.path) files) → AllByRecursion (λ f. AllByRecursion IsSegment f.path) files
files_proper [] h = tt
files_proper (f ∷ files) h = (h.0.segments, files_proper files h.1)

-- and so are folders that may be listed
folders_proper : (folders : List Path) → AllByRecursion MayBeListed folders → AllByRecursion (AllByRecursion IsSegment) folders
folders_proper [] h = tt
folders_proper (p ∷ folders) h = (h.0.segments, folders_proper folders h.1)

-- and the paths of a fit package
package_proper : (p : Package) → IsFit p → ArePathsProper p
package_proper p h = let two = split MayBeListed (map (λ f. f.path) p.files) p.folders h.paths in (files_proper p.files two.0, folders_proper p.folders two.1)

-- and those of all packages
packages_proper : (ps : Packages) → AllByRecursion (λ p. IsFit p.1) ps → AreProper ps
packages_proper [] h = tt
packages_proper (p ∷ ps) h = (package_proper p.1 h.0, packages_proper ps h.1)

-- and those of a fit listing
pub all_proper : (ps : Packages) → AreFit ps → AreProper ps
all_proper ps h = packages_proper ps h.packages

-- the text of a fit listing is a text of that listing
pub text_again : Again → (ps : Packages) (bytes : List ℕ) → AreFit ps → bytes ≡ listing_text ps → IsUtf8 bytes → read bytes ≡ Some (listing_data ps) → IsListingText (listing_text ps) ps
text_again again ps bytes h is text e = subst (λ l. IsListingText l ps) is (listing_read bytes (listing_data ps) ps text e (listing_again again ps h) (all_proper ps h))

-- ---- no floats, and little depth

-- what is written of a digest has no float
digest_float : (g : Option (List ℕ)) → has_float (digest_data g) ≡ false
digest_float None = refl
digest_float (Some digest) = refl

-- and neither has what is written of files
files_float : (files : List Listed) → items_have_float (items_of (map file_data files)) ≡ false
files_float [] = refl
files_float (f ∷ files) = ap₂ (λ a b. (a || false) || b) (digest_float f.digest) (files_float files)

-- and of folders
folders_float : (folders : List Path) → items_have_float (items_of (map path_data folders)) ≡ false
folders_float [] = refl
folders_float (p ∷ folders) = folders_float folders

-- and of packages
packages_float : (ps : Packages) → members_have_float (packages_data ps) ≡ false
packages_float [] = refl
packages_float (p ∷ ps) = ap₂ (λ a b. a || b) (ap₂ (λ a b. a || (b || false)) (files_float p.1.files) (folders_float p.1.folders)) (packages_float ps)

-- the JSON of a listing has no float
pub no_float : (ps : Packages) → has_float (listing_data ps) ≡ false
no_float ps = ap (λ a. a || false) (packages_float ps)

-- the greater of two numbers within a bound is within it
below : (a b n : ℕ) → a ≤ n → b ≤ n → max a b ≤ n
below a b n h k = max-le h k

-- what is written of a digest is a plain value
digest_shallow : (g : Option (List ℕ)) → depth (digest_data g) ≤ 0
digest_shallow None = omega arith
digest_shallow (Some digest) = omega arith

-- what is written of files is one deep at most
files_shallow : (files : List Listed) → items_depth (items_of (map file_data files)) ≤ 1
files_shallow [] = omega arith
files_shallow (f ∷ files) =
    let inner = below (depth (digest_data f.digest)) 0 0 (digest_shallow f.digest) (omega arith) in
    let two = below 0 (max (depth (digest_data f.digest)) 0) 0 (omega arith) inner in
    below (suc (max 0 (max (depth (digest_data f.digest)) 0))) (items_depth (items_of (map file_data files))) 1 (omega arith) (files_shallow files)

-- and so is what is written of folders
folders_shallow : (folders : List Path) → items_depth (items_of (map path_data folders)) ≤ 1
folders_shallow [] = omega arith
folders_shallow (p ∷ folders) = below 0 (items_depth (items_of (map path_data folders))) 1 (omega arith) (folders_shallow folders)

-- a package's JSON is three deep at most
package_shallow : (p : Package) → depth (package_data p) ≤ 3
package_shallow p =
    let files = files_shallow p.files in
    let folders = folders_shallow p.folders in
    let second = below (suc (items_depth (items_of (map path_data p.folders)))) 0 2 (omega arith) (omega arith) in
    let both = below (suc (items_depth (items_of (map file_data p.files)))) (max (suc (items_depth (items_of (map path_data p.folders)))) 0) 2 (omega arith) second in
    omega arith

-- and so are the members of all packages
packages_shallow : (ps : Packages) → members_depth (packages_data ps) ≤ 3
packages_shallow [] = omega arith
packages_shallow (p ∷ ps) = below (depth (package_data p.1)) (members_depth (packages_data ps)) 3 (package_shallow p.1) (packages_shallow ps)

-- the JSON of a listing is no deeper than may be read
pub shallow : (ps : Packages) → depth (listing_data ps) ≤ max_depth
shallow ps =
    let all = packages_shallow ps in
    let second = below 0 0 4 (omega arith) (omega arith) in
    let both = below (suc (members_depth (packages_data ps))) (max 0 0) 4 (omega arith) second in
    omega arith

-- ---- members in order

-- a member whose key is greater goes behind
put_at : (o : Ordering) (k l : List ℕ) (d e : Data) (ms : Members) → o ≡ Greater → match_ordering o (member k d (member l e ms)) (member l d ms) (member l e (put k d ms)) ≡ member l e (put k d ms)
put_at o k l d e ms h = ap (λ r. match_ordering r (member k d (member l e ms)) (member l d ms) (member l e (put k d ms))) h

-- a key is greater than one that is less
greater : (k l : List ℕ) → slice_cmp nat_cmp l k ≡ Less → slice_cmp nat_cmp k l ≡ Greater
greater k l h = nat_list_cmp_total.antisymm k l ∙ ap ordering_reverse h

-- a name that is less than all others is less than each of them
first_below : (p q : List ℕ × Package) (front more : Packages) → AllByRecursion (λ y. slice_cmp nat_cmp q.0 y ≡ Less) (names_of (front ++ p ∷ more)) → slice_cmp nat_cmp q.0 p.0 ≡ Less
first_below p q [] more h = h.0
first_below p q (x ∷ front) more h = first_below p q front more h.1

-- a package whose name comes after the others goes last
pub put_last : (front more : Packages) (p : List ℕ × Package) → IsStrictlySortedBy (slice_cmp nat_cmp) (names_of (front ++ p ∷ more))
    → put p.0 (package_data p.1) (packages_data front) ≡ packages_data (front ++ p ∷ [])
unfolding IsStrictlySortedBy
put_last [] more p h = refl
put_last (q ∷ front) more p h =
    put_at (slice_cmp nat_cmp p.0 q.0) p.0 q.0 (package_data p.1) (package_data q.1) (packages_data front) (greater p.0 q.0 (first_below p q front more h.0))
    ∙ ap (member q.0 (package_data q.1)) (put_last front more p h.1)
