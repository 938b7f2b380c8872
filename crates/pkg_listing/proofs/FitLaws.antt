-- What is read may be listed.
use Rattle.std.proofs.Common.{◌≡◌, ℕ, Bool, true, false, cond, List, [], ◌∷◌, ◌++◌, map, Option, Some, None, option_map, IfSome, bytes_eq, Bor, refl, sym, ap, subst, ◌∙◌, String, Global, string_bytes, string_cmp}
use Rattle.std.specs.declared.cmp.Ordering.{Ordering}
use Rattle.std.specs.declared.cmp.Ordering.TheVariants.{Less, Equal}
use Rattle.std.specs.Ordering.{nat_cmp}
use Rattle.std.specs.Cmp.{tied_itself}
use Rattle.std.specs.Cmp.Lexicographic.{slice_cmp, nat_list_cmp_total}
use Rattle.std.specs.List.{AllByRecursion}
use Rattle.std.specs.List.Sorted.{IsStrictlySortedBy}
use Rattle.std.specs.Map.{keys_of}
use Rattle.std.proofs.lemmas.Slice.Eq.{bytes_eq-Decides}
use Rattle.serde_json.specs.Data.{Data, Items, no_items, item}
use Rattle.serde_json.specs.View.{view, members_view}
use Rattle.serde_json.proofs.Views.{Entry}
use Rattle.fs_semantics.specs.FileTree.{Path}
use Rattle.pp_value.specs.Keys.{value_at, with_pair}
use Rattle.pkg_listing.specs.declared.listing.Listed.{Listed}
use Rattle.pkg_listing.specs.declared.listing.Package.{Package}
use Rattle.pkg_listing.specs.declared.reading.Version.{Version}
use Rattle.pkg_listing.specs.declared.reading.Version.TheVariants.{First, Second}
use Rattle.pkg_listing.specs.Packages.{Packages, MayBeListed, IsDigest, IsFit, AreFit, names_of, ArePathsProper}
use Rattle.pkg_listing.specs.Reading.{package_of, packages_of}
use Rattle.pkg_listing.specs.Form.{IsPath, IsDigestOf, IsFile, AreFiles, AreFolders}
use Rattle.pkg_listing.proofs.PathLaws.{text_short}
use Rattle.pkg_listing.proofs.FormLaws.{package_is, AreProper}
use Rattle.rh_base.proofs.Options.{bind_some, map_some}

-- ---- one package

-- a path that a text gives may be listed
path_fits : (p : Path) (d : Data) → IsPath p d → MayBeListed p
path_fits p d h = record { segments = h.spells.segments; managed = h.managed; bytes = text_short p h.text h.managed.0 h.spells; depth = h.spells.depth }

-- a digest that JSON gives is one
digest_fits : (g : Option (List ℕ)) (d : Data) → IsDigestOf g d → IsDigest g
digest_fits None d h = tt
digest_fits (Some digest) d h = h.1

-- the path of a file that JSON gives may be listed, and its digest is one
file_fits : (version : Version) (f : Listed) (d : Data) → IsFile version f d → MayBeListed f.path × IsDigest f.digest
file_fits First f d h = (path_fits f.path d h.0, subst IsDigest (sym h.1) tt)
file_fits Second f d h = (path_fits f.path h.path h.is_path, digest_fits f.digest h.digest h.is_digest)

-- and so it is with all files of a list
files_fit : (version : Version) (files : List Listed) (items : Items) → AreFiles version files items
    → AllByRecursion MayBeListed (map (λ f. f.path) files) × AllByRecursion (λ f. IsDigest f.digest) files
files_fit version [] items h = (tt, tt)
files_fit version (f ∷ files) no_items h = absurd h
files_fit version (f ∷ files) (item d items) h =
    let here = file_fits version f d h.0 in
    let rest = files_fit version files items h.1 in
    ((here.0, rest.0), (here.1, rest.1))

-- the folders of a list may be listed
folders_fit : (folders : List Path) (items : Items) → AreFolders folders items → AllByRecursion MayBeListed folders
folders_fit [] items h = tt
folders_fit (p ∷ folders) no_items h = absurd h
folders_fit (p ∷ folders) (item d items) h = (path_fits p d h.0, folders_fit folders items h.1)

-- what holds of all of two lists holds of all of both joined
all_append : {X : Type 0} (P : X → Type 0) (xs ys : List X) → AllByRecursion P xs → AllByRecursion P ys → AllByRecursion P (xs ++ ys)
all_append P [] ys h k = k
all_append P (x ∷ xs) ys h k = (h.0, all_append P xs ys h.1 k)

-- a package that is read is fit
package_fits : (version : Version) (d : Data) (p : Package) → package_of version d ≡ Some p → ArePathsProper p → IsFit p
package_fits version d p h s =
    let is = package_is version d p h s in
    let files = files_fit version p.files is.files is.are_files in record {
      paths = all_append MayBeListed (map (λ f. f.path) p.files) p.folders files.0 (folders_fit p.folders is.folders is.are_folders);
      once = is.once;
      digests = files.1;
    }

-- ---- all packages

-- the packages that are read are fit, and their names are the keys
packages_fit : (version : Version) (es : List Entry) (ps : Packages) → packages_of version (members_view es) ≡ Some ps → AreProper ps → AllByRecursion (λ p. IsFit p.1) ps × (names_of ps ≡ map string_bytes (keys_of es))
packages_fit version [] ps h s =
    let none : ◌≡◌ {A = Packages} [] ps = at ps h in
    subst (λ qs. AllByRecursion (λ p. IsFit p.1) qs × (names_of qs ≡ [])) none (tt, refl)
  where
    at : (qs : Packages) → ◌≡◌ {A = Option Packages} (Some []) (Some qs) → ◌≡◌ {A = Packages} [] qs
    at qs e = cc
packages_fit version (e ∷ es) ps h s =
    let name = string_bytes e.0 in
    let first = bind_some (package_of version (view e.1)) (λ p. option_map (λ qs. (name, p) ∷ qs) (packages_of version (members_view es))) ps h in
    let rest = map_some (λ qs. (name, first.0) ∷ qs) (packages_of version (members_view es)) ps first.2 in
    let both = subst AreProper (sym rest.2) s in
    let more = packages_fit version es rest.0 rest.1 both.1 in
    subst (λ qs. AllByRecursion (λ p. IsFit p.1) qs × (names_of qs ≡ name ∷ map string_bytes (keys_of es))) rest.2
    ((package_fits version (view e.1) first.0 first.1 both.0, more.0), ap (λ l. name ∷ l) more.1)

-- a key that is less than all others is less by its bytes
all_names : (k : String Global) (ks : List (String Global)) → AllByRecursion (λ y. string_cmp k y ≡ Less) ks → AllByRecursion (λ y. slice_cmp nat_cmp (string_bytes k) y ≡ Less) (map string_bytes ks)
all_names k [] h = tt
all_names k (l ∷ ks) h = (h.0, all_names k ks h.1)

-- keys that rise do so by their bytes
names_rise : (ks : List (String Global)) → IsStrictlySortedBy string_cmp ks → IsStrictlySortedBy (slice_cmp nat_cmp) (map string_bytes ks)
unfolding IsStrictlySortedBy
names_rise [] h = tt
names_rise (k ∷ ks) h = (all_names k ks h.0, names_rise ks h.1)

-- packages that are read of members whose keys rise are fit, and their names rise
pub all_fit : (version : Version) (es : List Entry) (ps : Packages) → IsStrictlySortedBy string_cmp (keys_of es) → packages_of version (members_view es) ≡ Some ps → AreProper ps → AreFit ps
all_fit version es ps sorted h s =
    let fit = packages_fit version es ps h s in record {
      names = subst (IsStrictlySortedBy (slice_cmp nat_cmp)) (sym fit.1) (names_rise (keys_of es) sorted);
      packages = fit.0;
    }

-- no packages are fit
pub no_packages : AreFit []
unfolding IsStrictlySortedBy
no_packages = record { names = tt; packages = tt }

-- and so is a list of none
pub none_fit : (ps : Packages) → ps ≡ [] → AreFit ps
none_fit ps h = subst AreFit (sym h) no_packages

-- ---- what is found

-- a package that stands under a name among fit ones is fit
value_fits : (name : List ℕ) (ps : Packages) (p : Package) → AllByRecursion (λ q. IsFit q.1) ps → value_at name ps ≡ Some p → IsFit p
value_fits name [] p h e = absurd (none p e)
  where
    none : (q : Package) → ◌≡◌ {A = Option Package} None (Some q) → ⊥
    none q e = cc
value_fits name (q ∷ ps) p h e = at (value_fits name ps p h.1) (bytes_eq q.0 name) e
  where
    at : (value_at name ps ≡ Some p → IsFit p) → (t : Bool) → cond t (Some q.1) (value_at name ps) ≡ Some p → IsFit p
    at later true e = let same : q.1 ≡ p = cc in subst IsFit same h.0
    at later false e = later e

-- and so is one that is found there
pub found_fits : (name : List ℕ) (ps : Packages) (r : Option (Bor Package)) → AreFit ps → option_map (λ p. p.now) r ≡ value_at name ps → IfSome r (λ p. IsFit p.now)
found_fits name ps None h e = tt
found_fits name ps (Some p) h e = value_fits name ps p.now h.packages (sym e)

-- ---- names that rise stand once

-- a name that is less than a key isn't that key
below_differs : (name key : List ℕ) → slice_cmp nat_cmp name key ≡ Less → bytes_eq name key ≡ false
below_differs name key h = at (bytes_eq name key) refl
  where
    at : (t : Bool) → bytes_eq name key ≡ t → t ≡ false
    at true e =
        let same : name ≡ key = (bytes_eq-Decides name key).0 e in
        let clash : ◌≡◌ {A = Ordering} Equal Less = sym (tied_itself nat_list_cmp_total key) ∙ ap (λ n. slice_cmp nat_cmp n key) (sym same) ∙ h in cc
    at false e = refl

-- pairs whose names are all less than a name have it last
pub goes_last : (name : List ℕ) (p : Package) (ps : Packages) → AllByRecursion (λ q. slice_cmp nat_cmp q.0 name ≡ Less) ps → with_pair name p ps ≡ ps ++ (name, p) ∷ []
goes_last name p [] h = refl
goes_last name p (q ∷ ps) h =
    ap (λ t. cond t ((q.0, p) ∷ ps) (q ∷ with_pair name p ps)) (below_differs q.0 name h.0) ∙ ap (λ l. q ∷ l) (goes_last name p ps h.1)
