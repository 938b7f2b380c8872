-- The packages that are read are those of the form, both ways.
use Rattle.std.proofs.Common.{◌≡◌, ℕ, ◌==◌, Bool, true, false, true≢false, cond, not, ◌&&◌, nat_le, List, [], ◌∷◌, length, Option, Some, None, option_map, IsUtf8, codes, refl, sym, ap, ap₂, subst, ◌∙◌, arith, eqb-true}
use Rattle.std.specs.List.{AllByRecursion}
use Rattle.std.proofs.Math.Dec.{eqb-suc-zero}
use Rattle.std.proofs.Common.{leb-true}
use Rattle.std.proofs.lemmas.Bool.{le-leb, ne_eqb, and_parts as both}
use Rattle.serde_json.specs.Data.{Data, null, boolean, number, string, array, object, unsigned, negative, float, Items, no_items, item, Members, no_members, member}
use Rattle.serde_json.specs.View.{members_view}
use Rattle.serde_json.proofs.Views.{Entry, members_len-members_view}
use Rattle.serde_json.specs.Find.{get, get_member, as_object, as_array, as_str}
use Rattle.serde_json.specs.Events.{members_len}
use Rattle.serde_json.specs.Read.{read}
use Rattle.rh_base.specs.Reading.{◌>>=◌}
use Rattle.rh_base.specs.Refused.{IfRefused, IsRefusal}
use Rattle.rh_base.specs.declared.fault.Fault.{Fault}
use Rattle.rh_base.specs.declared.fault.Fault.TheVariants.{Refused, Memory}
use Rattle.fs_semantics.specs.FileTree.{Path, IsSegment}
use Rattle.fs_lang.specs.Reading.{path_in}
use Rattle.fs_lang.specs.Managed.{MayBeManaged}
use Rattle.pkg_listing.specs.declared.listing.Listed.{Listed}
use Rattle.pkg_listing.specs.declared.listing.Package.{Package}
use Rattle.pkg_listing.specs.declared.listing.TheConstants.{DIGEST_BYTES}
use Rattle.pkg_listing.specs.declared.reading.Version.{Version}
use Rattle.pkg_listing.specs.declared.reading.Version.TheVariants.{First, Second}
use Rattle.pkg_listing.specs.Packages.{Packages, IsDigest, paths_of, stand_once, ArePathsProper}
use Rattle.pkg_listing.specs.Reading.{is_managed, if_managed, managed_path, path_of, if_digest, digest_of, file_with, pair_of, file_of, files_of, folders_of, two_among, two_of, package_with, lists_of, if_once, package_among, package_of, packages_of, version_numbered, version_of, listing_among, listing_of}
use Rattle.pkg_listing.specs.Form.{IsPath, IsDigestOf, IsPair, IsFile, AreFiles, AreFolders, IsPackage, ArePackages, IsVersion, IsListing, IsListingText}
use Rattle.pkg_listing.proofs.PathLaws.{path_spelled, managed_where, read_path}
use Rattle.rh_base.proofs.Options.{bind_some, map_some, if_some, bind_goes}
use Rattle.std.proofs.lemmas.Option.{none-some, same_Some}
use Rattle.json_parts.proofs.DataLaws.{object_is, array_is, string_is}

-- ---- paths and digests

-- a path that passes as one that may be managed is itself, and passes the test
managed_is : (p q : Path) → if_managed p ≡ Some q → (is_managed p ≡ true) × (p ≡ q)
managed_is p q h = let two = if_some (is_managed p) (Some p) q h in (two.0, same_Some p q two.1)

-- a path that is read of JSON is the one of its form
pub path_is : (d : Data) (p : Path) → path_of d ≡ Some p → AllByRecursion IsSegment p → IsPath p d
path_is d p h s =
    let text = bind_some (as_str d) managed_path p h in
    let read = bind_some (path_in text.0) if_managed p text.2 in
    let managed = managed_is read.0 p read.2 in
    record {
      text = text.0;
      is_text = string_is d text.0 text.1;
      spells = path_spelled text.0 p s (read.1 ∙ ap (λ q. Some q) managed.1);
      managed = subst MayBeManaged managed.1 ((managed_where read.0).0 managed.0);
    }

-- and a path of the form is read
pub path_back : (d : Data) (p : Path) → IsPath p d → path_of d ≡ Some p
path_back d p h = ap path_of h.is_text ∙ read_path h.text p h.spells h.managed

-- a text whose length passes the test may be a digest
digest_length : (l : List ℕ) → (not (length l == 0) && nat_le (length l) DIGEST_BYTES) ≡ true → IsDigest (Some l)
digest_length [] h = absurd (true≢false (sym h))
digest_length (b ∷ l) h = (omega arith, leb-true (length (b ∷ l)) DIGEST_BYTES (both (not (length (b ∷ l) == 0)) (nat_le (length (b ∷ l)) DIGEST_BYTES) h).1)

-- and a digest's length passes it
digest_test : (l : List ℕ) → IsDigest (Some l) → (not (length l == 0) && nat_le (length l) DIGEST_BYTES) ≡ true
digest_test [] h = absurd (omega (arith, h.0))
digest_test (b ∷ l) h = ap₂ (λ x y. not x && y) (eqb-suc-zero (length l)) (le-leb (length (b ∷ l)) DIGEST_BYTES h.1)

-- a text that passes as a digest is itself, and may be one
digest_text_is : (text digest : List ℕ) → if_digest text ≡ Some digest → (text ≡ digest) × IsDigest (Some digest)
digest_text_is text digest h =
    let two = if_some (not (length text == 0) && nat_le (length text) DIGEST_BYTES) (Some text) digest h in
    let same = same_Some text digest two.1 in
    (same, subst (λ d. IsDigest (Some d)) same (digest_length text two.0))

-- a digest that is read of JSON, or none, is the one of its form
pub digest_is : (d : Data) (digest : Option (List ℕ)) → digest_of d ≡ Some digest → IsDigestOf digest d
digest_is null digest h = subst (λ g. IsDigestOf g null) (same_Some None digest h) refl
digest_is (boolean b) digest h = absurd (none-some digest h)
digest_is (number n) digest h = absurd (none-some digest h)
digest_is (string text) digest h =
    let two = map_some (λ t. Some t) (if_digest text) digest h in
    let is = digest_text_is text two.0 two.1 in
    subst (λ g. IsDigestOf g (string text)) two.2 (ap string is.0, is.1)
digest_is (array items) digest h = absurd (none-some digest h)
digest_is (object _) digest h = absurd (none-some digest h)

-- a text that may be a digest passes as one
digest_text_back : (text : List ℕ) → IsDigest (Some text) → if_digest text ≡ Some text
digest_text_back text h = ap (λ t. cond t (Some text) None) (digest_test text h)

-- and a digest of the form, or none, is read
pub digest_back : (d : Data) (digest : Option (List ℕ)) → IsDigestOf digest d → digest_of d ≡ Some digest
digest_back d None h = ap digest_of h
digest_back d (Some digest) h = ap digest_of h.0 ∙ ap (option_map (λ t. Some t)) (digest_text_back digest h.1)

-- ---- files and folders

-- a file with a path and a digest has these
listed_same : (f : Listed) (p : Path) (digest : Option (List ℕ)) → file_with digest p ≡ f → (p ≡ f.path) × (digest ≡ f.digest)
listed_same f p digest h = (ap (λ l. l.path) h, ap (λ l. l.digest) h)

-- a file that is read of a list of two is that of its path and its digest
pair_is : (d : Data) (items : Items) (f : Listed) → d ≡ array items → pair_of items ≡ Some f → AllByRecursion IsSegment f.path → IsPair f d
pair_is d no_items f e h s = absurd (none-some f h)
pair_is d (item p no_items) f e h s = absurd (none-some f h)
pair_is d (item p (item digest no_items)) f e h s =
    let path = bind_some (path_of p) (λ q. option_map (λ g. file_with g q) (digest_of digest)) f h in
    let found = map_some (λ g. file_with g path.0) (digest_of digest) f path.2 in
    let same = listed_same f path.0 found.0 found.2 in
    record {
      path = p;
      digest = digest;
      is_list = e;
      is_path = path_is p f.path (path.1 ∙ ap (λ q. Some q) same.0) s;
      is_digest = digest_is digest f.digest (found.1 ∙ ap (λ g. Some g) same.1);
    }
pair_is d (item p (item digest (item c more))) f e h s = absurd (none-some f h)

-- a file that is read of JSON is the one of its form
pub file_is : (version : Version) (d : Data) (f : Listed) → file_of version d ≡ Some f → AllByRecursion IsSegment f.path → IsFile version f d
file_is First d f h s =
    let path = map_some (file_with None) (path_of d) f h in
    let same = listed_same f path.0 None path.2 in
    (path_is d f.path (path.1 ∙ ap (λ q. Some q) same.0) s, sym same.1)
file_is Second d f h s =
    let items = bind_some (as_array d) pair_of f h in
    pair_is d items.0 f (array_is d items.0 items.1) items.2 s

-- a file without a digest is its path with none
with_none : (f : Listed) → f.digest ≡ None → file_with None f.path ≡ f
with_none f h = ap (λ g. file_with g f.path) (sym h)

-- and a file of the form is read
pub file_back : (version : Version) (d : Data) (f : Listed) → IsFile version f d → file_of version d ≡ Some f
file_back First d f h = ap (option_map (file_with None)) (path_back d f.path h.0) ∙ ap (λ l. Some l) (with_none f h.1)
file_back Second d f h =
    ap (λ e. as_array e >>= pair_of) h.is_list
    ∙ (bind_goes (path_of h.path) (λ q. option_map (λ g. file_with g q) (digest_of h.digest)) f.path (path_back h.path f.path h.is_path)
    ∙ ap (option_map (λ g. file_with g f.path)) (digest_back h.digest f.digest h.is_digest))

-- the files that are read of items are those of their form
pub files_are : (version : Version) (items : Items) (files : List Listed) → files_of version items ≡ Some files → AllByRecursion (λ f. AllByRecursion IsSegment f.path) files → AreFiles version files items
files_are version no_items files h s = subst (λ fs. AreFiles version fs no_items) (same_Some [] files h) tt
files_are version (item d items) files h s =
    let first = bind_some (file_of version d) (λ f. option_map (λ fs. f ∷ fs) (files_of version items)) files h in
    let rest = map_some (λ fs. first.0 ∷ fs) (files_of version items) files first.2 in
    let both = subst (AllByRecursion (λ f. AllByRecursion IsSegment f.path)) (sym rest.2) s in
    subst (λ fs. AreFiles version fs (item d items)) rest.2 (file_is version d first.0 first.1 both.0, files_are version items rest.0 rest.1 both.1)

-- and files of the form are read
pub files_back : (version : Version) (items : Items) (files : List Listed) → AreFiles version files items → files_of version items ≡ Some files
files_back version no_items [] h = refl
files_back version no_items (f ∷ files) h = absurd h
files_back version (item d items) [] h = absurd h
files_back version (item d items) (f ∷ files) h =
    bind_goes (file_of version d) (λ g. option_map (λ fs. g ∷ fs) (files_of version items)) f (file_back version d f h.0) ∙ ap (option_map (λ fs. f ∷ fs)) (files_back version items files h.1)

-- the folders that are read of items are those of their form
pub folders_are : (items : Items) (folders : List Path) → folders_of items ≡ Some folders → AllByRecursion (AllByRecursion IsSegment) folders → AreFolders folders items
folders_are no_items folders h s = subst (λ ps. AreFolders ps no_items) (same_Some [] folders h) tt
folders_are (item d items) folders h s =
    let first = bind_some (path_of d) (λ p. option_map (λ ps. p ∷ ps) (folders_of items)) folders h in
    let rest = map_some (λ ps. first.0 ∷ ps) (folders_of items) folders first.2 in
    let both = subst (AllByRecursion (AllByRecursion IsSegment)) (sym rest.2) s in
    subst (λ ps. AreFolders ps (item d items)) rest.2 (path_is d first.0 first.1 both.0, folders_are items rest.0 rest.1 both.1)

-- and folders of the form are read
pub folders_back : (items : Items) (folders : List Path) → AreFolders folders items → folders_of items ≡ Some folders
folders_back no_items [] h = refl
folders_back no_items (p ∷ folders) h = absurd h
folders_back (item d items) [] h = absurd h
folders_back (item d items) (p ∷ folders) h =
    bind_goes (path_of d) (λ q. option_map (λ ps. q ∷ ps) (folders_of items)) p (path_back d p h.0) ∙ ap (option_map (λ ps. p ∷ ps)) (folders_back items folders h.1)

-- ---- objects of two keys

-- JSON is an object of just these two keys, with these values
pub record Two (a b : List ℕ) (d x y : Data) : Type 0 where
  pub members : Members
  pub is_object : d ≡ object members
  pub just_two : members_len members ≡ 2
  pub first : get_member a members ≡ Some x
  pub second : get_member b members ≡ Some y

-- values that are read of an object of two keys are those of its form
pub two_are : (a b : List ℕ) (d : Data) (two : Data × Data) → two_of a b d ≡ Some two → Two a b d two.0 two.1
two_are a b d two h =
    let members = bind_some (as_object d) (two_among a b) two h in
    let test = if_some (members_len members.0 == 2) (get_member a members.0 >>= (λ x. option_map (λ y. (x, y)) (get_member b members.0))) two members.2 in
    let first = bind_some (get_member a members.0) (λ x. option_map (λ y. (x, y)) (get_member b members.0)) two test.1 in
    let second = map_some (λ y. (first.0, y)) (get_member b members.0) two first.2 in
    record {
      members = members.0;
      is_object = object_is d members.0 members.1;
      just_two = eqb-true (members_len members.0) 2 test.0;
      first = first.1 ∙ ap (λ t. Some t.0) second.2;
      second = second.1 ∙ ap (λ t. Some t.1) second.2;
    }

-- and values of the form are read
pub two_back : (a b : List ℕ) (d x y : Data) → Two a b d x y → two_of a b d ≡ Some (x, y)
two_back a b d x y t =
    ap (two_of a b) t.is_object
    ∙ (ap (λ n. cond (n == 2) (get_member a t.members >>= (λ x. option_map (λ y. (x, y)) (get_member b t.members))) None) t.just_two
    ∙ (bind_goes (get_member a t.members) (λ x. option_map (λ y. (x, y)) (get_member b t.members)) x t.first ∙ ap (option_map (λ y. (x, y))) t.second))

-- ---- packages

-- a package that passes as one in which no path stands twice is itself, and passes the test
once_is : (p q : Package) → if_once p ≡ Some q → (stand_once (paths_of p) ≡ true) × (p ≡ q)
once_is p q h = let two = if_some (stand_once (paths_of p)) (Some p) q h in (two.0, same_Some p q two.1)

-- a package that is read of JSON is the one of its form
pub package_is : (version : Version) (d : Data) (p : Package) → package_of version d ≡ Some p → ArePathsProper p → IsPackage version p d
package_is version d p h s =
    let two = bind_some (two_of (codes "files") (codes "folders") d) (package_among version) p h in
    let t = two_are (codes "files") (codes "folders") d two.0 two.1 in
    let made = bind_some (lists_of version two.0.0 two.0.1) if_once p two.2 in
    let once = once_is made.0 p made.2 in
    let lists = bind_some (as_array two.0.0 >>= files_of version) (λ fs. option_map (λ ps. package_with fs ps) (as_array two.0.1 >>= folders_of)) made.0 made.1 in
    let files = bind_some (as_array two.0.0) (files_of version) lists.0 lists.1 in
    let folders_made = map_some (λ ps. package_with lists.0 ps) (as_array two.0.1 >>= folders_of) made.0 lists.2 in
    let folders = bind_some (as_array two.0.1) folders_of folders_made.0 folders_made.1 in
    let files_same : lists.0 ≡ p.files = ap (λ q. q.files) (folders_made.2 ∙ once.1) in
    let folders_same : folders_made.0 ≡ p.folders = ap (λ q. q.folders) (folders_made.2 ∙ once.1) in
    record {
      members = t.members;
      is_object = t.is_object;
      just_two = t.just_two;
      files = files.0;
      folders = folders.0;
      has_files = t.first ∙ ap (λ x. Some x) (array_is two.0.0 files.0 files.1);
      has_folders = t.second ∙ ap (λ x. Some x) (array_is two.0.1 folders.0 folders.1);
      are_files = files_are version files.0 p.files (files.2 ∙ ap (λ fs. Some fs) files_same) s.0;
      are_folders = folders_are folders.0 p.folders (folders.2 ∙ ap (λ ps. Some ps) folders_same) s.1;
      once = subst (λ q. stand_once (paths_of q) ≡ true) once.1 once.0;
    }

-- and a package of the form is read
pub package_back : (version : Version) (d : Data) (p : Package) → IsPackage version p d → package_of version d ≡ Some p
package_back version d p h =
    let two = two_back (codes "files") (codes "folders") d (array h.files) (array h.folders)
    (record { members = h.members; is_object = h.is_object; just_two = h.just_two; first = h.has_files; second = h.has_folders }) in
    bind_goes (two_of (codes "files") (codes "folders") d) (package_among version) (array h.files, array h.folders) two
    ∙ (ap (λ o. o >>= (λ fs. option_map (λ ps. package_with fs ps) (folders_of h.folders)) >>= if_once) (files_back version h.files p.files h.are_files)
    ∙ (ap (λ o. option_map (λ ps. package_with p.files ps) o >>= if_once) (folders_back h.folders p.folders h.are_folders)
    ∙ ap (λ t. cond t (Some p) None) h.once))

-- each path of the packages is made of segments
abbrev pub AreProper : Packages → Type 0
AreProper ps = AllByRecursion (λ p. ArePathsProper p.1) ps

-- the packages that are read of members are those of their form
pub packages_are : (version : Version) (members : Members) (ps : Packages) → packages_of version members ≡ Some ps → AreProper ps → ArePackages version ps members
packages_are version no_members ps h s = subst (λ qs. ArePackages version qs no_members) (same_Some [] ps h) tt
packages_are version (member name d members) ps h s =
    let first = bind_some (package_of version d) (λ p. option_map (λ qs. (name, p) ∷ qs) (packages_of version members)) ps h in
    let rest = map_some (λ qs. (name, first.0) ∷ qs) (packages_of version members) ps first.2 in
    let both = subst AreProper (sym rest.2) s in
    subst (λ qs. ArePackages version qs (member name d members)) rest.2 (refl, package_is version d first.0 first.1 both.0, packages_are version members rest.0 rest.1 both.1)

-- a package with its name is the pair of the two
named : (name : List ℕ) (p : List ℕ × Package) → p.0 ≡ name → (name, p.1) ≡ p
named name p h = ap (λ n. (n, p.1)) (sym h)

-- and packages of the form are read
pub packages_back : (version : Version) (members : Members) (ps : Packages) → ArePackages version ps members → packages_of version members ≡ Some ps
packages_back version no_members [] h = refl
packages_back version no_members (p ∷ ps) h = absurd h
packages_back version (member name d _) [] h = absurd h
packages_back version (member name d members) (p ∷ ps) h =
    bind_goes (package_of version d) (λ q. option_map (λ qs. (name, q) ∷ qs) (packages_of version members)) p.1 (package_back version d p.1 h.1)
    ∙ (ap (option_map (λ qs. (name, p.1) ∷ qs)) (packages_back version members ps h.2) ∙ ap (λ q. Some (q ∷ ps)) (named name p h.0))

-- ---- listings

-- the version with a number is written as that number
numbered_is : (n : ℕ) (version : Version) → version_numbered n ≡ Some version → IsVersion version (number (unsigned n))
numbered_is n version h = at (n == 1) (n == 2) refl refl h
  where
    at : (a b : Bool) → (n == 1) ≡ a → (n == 2) ≡ b → cond a (Some First) (cond b (Some Second) None) ≡ Some version → IsVersion version (number (unsigned n))
    at true b e f g = subst (λ v. IsVersion v (number (unsigned n))) (same_Some First version g) (ap (λ m. number (unsigned m)) (eqb-true n 1 e))
    at false true e f g = subst (λ v. IsVersion v (number (unsigned n))) (same_Some Second version g) (ap (λ m. number (unsigned m)) (eqb-true n 2 f))
    at false false e f g = absurd (none-some version g)

-- a version that is read of JSON is the one of its form
pub version_is : (d : Data) (version : Version) → version_of d ≡ Some version → IsVersion version d
version_is null version h = absurd (none-some version h)
version_is (boolean b) version h = absurd (none-some version h)
version_is (number (unsigned n)) version h = numbered_is n version h
version_is (number (negative z)) version h = absurd (none-some version h)
version_is (number (float x)) version h = absurd (none-some version h)
version_is (string s) version h = absurd (none-some version h)
version_is (array items) version h = absurd (none-some version h)
version_is (object _) version h = absurd (none-some version h)

-- and a version of the form is read
pub version_back : (d : Data) (version : Version) → IsVersion version d → version_of d ≡ Some version
version_back d First h = ap version_of h
version_back d Second h = ap version_of h

-- a listing that is read of JSON is the one of its form
pub listing_is : (d : Data) (ps : Packages) → listing_of d ≡ Some ps → AreProper ps → IsListing ps d
listing_is d ps h s =
    let two = bind_some (two_of (codes "version") (codes "packages") d) listing_among ps h in
    let t = two_are (codes "version") (codes "packages") d two.0 two.1 in
    let version = bind_some (version_of two.0.0) (λ v. as_object two.0.1 >>= packages_of v) ps two.2 in
    let packages = bind_some (as_object two.0.1) (packages_of version.0) ps version.2 in
    record {
      members = t.members;
      is_object = t.is_object;
      just_two = t.just_two;
      version = version.0;
      numbered = two.0.0;
      has_version = t.first;
      is_version = version_is two.0.0 version.0 version.1;
      packages = packages.0;
      has_packages = t.second ∙ ap (λ x. Some x) (object_is two.0.1 packages.0 packages.1);
      are_packages = packages_are version.0 packages.0 ps packages.2 s;
    }

-- and a listing of the form is read
pub listing_back : (d : Data) (ps : Packages) → IsListing ps d → listing_of d ≡ Some ps
listing_back d ps h =
    let two = two_back (codes "version") (codes "packages") d h.numbered (object h.packages)
    (record { members = h.members; is_object = h.is_object; just_two = h.just_two; first = h.has_version; second = h.has_packages }) in
    bind_goes (two_of (codes "version") (codes "packages") d) listing_among (h.numbered, object h.packages) two
    ∙ (bind_goes (version_of h.numbered) (λ v. packages_of v h.packages) h.version (version_back h.numbered h.version h.is_version)
    ∙ packages_back h.version h.packages ps h.are_packages)

-- ---- texts

-- a text is read as one JSON only
same_data : (bytes : List ℕ) (a b : Data) → read bytes ≡ Some a → read bytes ≡ Some b → a ≡ b
same_data bytes a b e f = same_Some a b (sym e ∙ f)

-- the listing of a text is read of the JSON that the text is read as
pub same_listing : (bytes : List ℕ) (json : Data) (ps : Packages) → read bytes ≡ Some json → IsListingText bytes ps → listing_of json ≡ Some ps
same_listing bytes json ps e h = ap listing_of (same_data bytes json h.json e h.is_read) ∙ listing_back h.json ps h.is_listing

-- a text gives one listing only
pub one_listing : (bytes : List ℕ) (a b : Packages) → IsListingText bytes a → IsListingText bytes b → a ≡ b
one_listing bytes a b h k = same_Some a b (sym (listing_back h.json a h.is_listing) ∙ same_listing bytes h.json b h.is_read k)

-- a text whose JSON gives no listing gives none
pub no_listing : (bytes : List ℕ) (json : Data) → read bytes ≡ Some json → listing_of json ≡ None → (ps : Packages) → IsListingText bytes ps → ⊥
no_listing bytes json e n ps h = none-some ps (sym n ∙ same_listing bytes json ps e h)

-- and one whose JSON gives a listing is a text of it
pub listing_read : (bytes : List ℕ) (json : Data) (ps : Packages) → IsUtf8 bytes → read bytes ≡ Some json → listing_of json ≡ Some ps → AreProper ps → IsListingText bytes ps
listing_read bytes json ps text e h s = record { text = text; json = json; is_read = e; is_listing = listing_is json ps h s }

-- ---- objects as they are stored

-- an object that has not just two entries has no two values
pub not_two : (a b : List ℕ) (d : Data) (es : List Entry) → Some (members_view es) ≡ as_object d → (length es ≡ 2 → ⊥) → None ≡ two_of a b d
not_two a b d es h n =
    sym (ap (λ o. o >>= two_among a b) (sym h)
    ∙ ap (λ k. cond (k == 2) (get_member a (members_view es) >>= (λ x. option_map (λ y. (x, y)) (get_member b (members_view es)))) None) (members_len-members_view es)
    ∙ ap (λ t. cond t (get_member a (members_view es) >>= (λ x. option_map (λ y. (x, y)) (get_member b (members_view es)))) None) (ne_eqb (length es) 2 n))

-- a value under a key of JSON is the one of its members
got : (key : List ℕ) (d : Data) (members : Members) → Some members ≡ as_object d → get key d ≡ get_member key members
got key d members h = ap (get key) (object_is d members (sym h))

-- an object of two entries with a value under each key has these two
pub two_got : (a b : List ℕ) (d x y : Data) (es : List Entry) → Some (members_view es) ≡ as_object d → length es ≡ 2 → Some x ≡ get a d → Some y ≡ get b d → Some (x, y) ≡ two_of a b d
two_got a b d x y es h n first second =
    sym (two_back a b d x y (record {
      members = members_view es;
      is_object = object_is d (members_view es) (sym h);
      just_two = members_len-members_view es ∙ n;
      first = sym (got a d (members_view es) h) ∙ sym first;
      second = sym (got b d (members_view es) h) ∙ sym second;
    }))

-- a refusal of JSON that gives no listing is one of a text that gives none
pub refused_with : (bytes : List ℕ) (json : Data) (f : Fault) → read bytes ≡ Some json → listing_of json ≡ None → IfRefused f (IsRefusal 61 0 (codes "packages"))
    → IfRefused f (λ r. IsRefusal 61 0 (codes "packages") r × ((ps : Packages) → IsListingText bytes ps → ⊥))
refused_with bytes json (Refused r) is none h = (h, no_listing bytes json is none)
refused_with bytes json (Memory m) is none h = tt
