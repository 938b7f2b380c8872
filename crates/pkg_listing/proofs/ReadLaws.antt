-- The packages that are read, one after the other.
use Rattle.std.proofs.Common.{◌≡◌, ℕ, ◌==◌, Bool, true, false, ◌&&◌, List, [], ◌∷◌, ◌++◌, length, map, append_assoc, append-nil, Option, Some, None, option_map, refl, sym, ap, ap₂, subst, ◌∙◌, String, Global, string_bytes, string_cmp, true≢false}
use Rattle.std.specs.Prelude.{Result, Ok, Err, IfOk, OnOk}
use Rattle.std.specs.declared.cmp.Ordering.TheVariants.{Less}
use Rattle.std.specs.Ordering.{nat_cmp}
use Rattle.std.specs.Cmp.Lexicographic.{slice_cmp}
use Rattle.std.specs.List.{AllByRecursion}
use Rattle.std.specs.List.Sorted.{IsStrictlySortedBy}
use Rattle.std.specs.Map.{keys_of}
use Rattle.serde_json.specs.declared.value.Value.{Value}
use Rattle.serde_json.specs.View.{view, items_view, members_view}
use Rattle.serde_json.proofs.Views.{Entry}
use Rattle.rh_base.specs.Reading.{◌>>=◌}
use Rattle.rh_base.specs.declared.text.NoMemory.{NoMemory}
use Rattle.fs_semantics.specs.FileTree.{Path}
use Rattle.pp_value.specs.Keys.{with_pair}
use Rattle.pkg_listing.specs.declared.listing.Listed.{Listed}
use Rattle.pkg_listing.specs.declared.listing.Package.{Package}
use Rattle.pkg_listing.specs.declared.reading.Version.{Version}
use Rattle.pkg_listing.specs.Packages.{Packages, are_new, stand_once, ArePathsProper}
use Rattle.pkg_listing.specs.Reading.{pair_of, package_of, packages_of, AddsPackage, AddsAll}
use Rattle.pkg_listing.proofs.FormLaws.{AreProper}
use Rattle.pkg_listing.proofs.FitLaws.{goes_last}
use Rattle.pkg_listing.proofs.SetLaws.{are_new_append}
use Rattle.rh_base.proofs.Lists.{all_last}

-- each name comes before each of the keys
abbrev pub ComeBefore : Packages → List (String Global) → Type 0
ComeBefore ps ks = AllByRecursion (λ q. AllByRecursion (λ k. slice_cmp nat_cmp q.0 (string_bytes k) ≡ Less) ks) ps

-- these packages were read, and these members are left of what gives the whole
pub record AreRead (version : Version) (ps : Packages) (es : List Entry) (whole : Option Packages) : Type 0 where
  pub read : option_map (λ more. ps ++ more) (packages_of version (members_view es)) ≡ whole
  pub before : ComeBefore ps (keys_of es)
  pub sorted : IsStrictlySortedBy string_cmp (keys_of es)
  pub proper : AreProper ps

-- names that come before all keys come before the first
heads : (k : String Global) (ks : List (String Global)) (ps : Packages) → ComeBefore ps (k ∷ ks) → AllByRecursion (λ q. slice_cmp nat_cmp q.0 (string_bytes k) ≡ Less) ps
heads k ks [] h = tt
heads k ks (q ∷ ps) h = (h.0.0, heads k ks ps h.1)

-- and before the rest
tails : (k : String Global) (ks : List (String Global)) (ps : Packages) → ComeBefore ps (k ∷ ks) → ComeBefore ps ks
tails k ks [] h = tt
tails k ks (q ∷ ps) h = (h.0.1, tails k ks ps h.1)

-- one package ahead of the rest is one behind those that were read
by_more : (o : Option Packages) (ps : Packages) (q : List ℕ × Package) → option_map (λ more. (ps ++ q ∷ []) ++ more) o ≡ option_map (λ more. ps ++ more) (option_map (λ more. q ∷ more) o)
by_more None ps q = refl
by_more (Some more) ps q = ap (λ (qs : Packages). Some qs) (append_assoc ps (q ∷ []) more)

-- a key that is less than all others is less by its bytes
names_behind : (k : String Global) (ks : List (String Global)) → AllByRecursion (λ y. string_cmp k y ≡ Less) ks → AllByRecursion (λ l. slice_cmp nat_cmp (string_bytes k) (string_bytes l) ≡ Less) ks
names_behind k [] h = tt
names_behind k (l ∷ ks) h = (h.0, names_behind k ks h.1)

-- of keys that rise the first is less than all others, and these rise
first_and_rest : (k : String Global) (ks : List (String Global)) → IsStrictlySortedBy string_cmp (k ∷ ks) → AllByRecursion (λ y. string_cmp k y ≡ Less) ks × IsStrictlySortedBy string_cmp ks
unfolding IsStrictlySortedBy
first_and_rest k ks h = h

-- with one more package read, what was read and what is left are the same whole
one_more : (version : Version) (ps : Packages) (e : Entry) (rest : List Entry) (p : Package) (whole : Option Packages) → package_of version (view e.1) ≡ Some p → ArePathsProper p
    → AreRead version ps (e ∷ rest) whole → AreRead version (with_pair (string_bytes e.0) p ps) rest whole
one_more version ps e rest p whole is proper r =
    let name = string_bytes e.0 in
    let last = goes_last name p ps (heads e.0 (keys_of rest) ps r.before) in
    let two = first_and_rest e.0 (keys_of rest) r.sorted in
    subst (λ qs. AreRead version qs rest whole) (sym last) (record {
      read = by_more (packages_of version (members_view rest)) ps (name, p)
          ∙ (ap (λ o. option_map (λ more. ps ++ more) (o >>= (λ q. option_map (λ qs. (name, q) ∷ qs) (packages_of version (members_view rest))))) (sym is) ∙ r.read);
      before = all_last (λ q. AllByRecursion (λ k. slice_cmp nat_cmp q.0 (string_bytes k) ≡ Less) (keys_of rest)) ps (name, p) (tails e.0 (keys_of rest) ps r.before) (names_behind e.0 (keys_of rest) two.0);
      sorted = two.1;
      proper = all_last (λ q. ArePathsProper q.1) ps (name, p) r.proper proper;
    })

-- and so it is where the package is read of the next stored entry
pub next_read : (version : Version) (ps new : Packages) (es rest : List Entry) (k : String Global) (v : Value) (name : List ℕ) (whole : Option Packages) → es ≡ (k, v) ∷ rest → name ≡ string_bytes k
    → AddsPackage version name (view v) ps new → AreRead version ps es whole → AreRead version new rest whole
next_read version ps new es rest k v name whole next name_is added r =
    let read = subst (λ l. AreRead version ps l whole) next r in
    subst (λ qs. AreRead version qs rest whole) (ap (λ n. with_pair n added.0 ps) (sym name_is) ∙ sym added.3) (one_more version ps (k, v) rest added.0 whole added.1 added.2 read)

-- where no members are left, what was read is the whole
pub all_read : (version : Version) (ps : Packages) (es : List Entry) (whole : Option Packages) → es ≡ [] → AreRead version ps es whole → whole ≡ Some ps
all_read version ps es whole none r =
    let read = subst (λ l. AreRead version ps l whole) none r in
    sym read.read ∙ ap (λ (qs : Packages). Some qs) (append-nil ps)

-- ---- paths that stand once

-- the paths of these files
abbrev OfFiles : List Listed → List Path
OfFiles files = map (λ f. f.path) files

-- paths that were all added were new, and come last
added : (b : Bool) (ps old new : List Path) → AddsAll (Ok b) ps old new → b ≡ true → (are_new old ps ≡ true) × (new ≡ old ++ ps)
added true ps old new h e = h
added false ps old new h e = absurd (true≢false (sym e))

-- paths that weren't all added were not all new
not_added : (b : Bool) (ps old new : List Path) → AddsAll (Ok b) ps old new → b ≡ false → are_new old ps ≡ false
not_added true ps old new h e = absurd (true≢false e)
not_added false ps old new h e = h

-- where a path stands twice among the files, one does so among all
pub twice : (b : Bool) (slice files : List Listed) (qs old new : List Path) → AddsAll (Ok b) (OfFiles slice) old new → b ≡ false → slice ≡ files → old ≡ []
    → false ≡ stand_once (OfFiles files ++ qs)
twice b slice files qs old new h e is none =
    let first : are_new [] (OfFiles files) ≡ false = (λ i. are_new (sym none i) (OfFiles (sym is i))) ∙ not_added b (OfFiles slice) old new h e in
    sym (are_new_append [] (OfFiles files) qs ∙ ap (λ a. a && are_new (OfFiles files) qs) first)

-- what is told of the folders, where the files are kept
pub told_once : (r : Result Bool NoMemory) (b : Bool) (slice files : List Listed) (folders qs old new seen now : List Path) → AddsAll (Ok b) (OfFiles slice) old new → b ≡ true → slice ≡ files → old ≡ [] → folders ≡ qs
    → seen ≡ new → AddsAll r folders seen now → IfOk r (λ t. t ≡ stand_once (OfFiles files ++ qs))
told_once r b slice files folders qs old new seen now h e is none same same_seen a =
    let two = added b (OfFiles slice) old new h e in
    let first : are_new [] (OfFiles files) ≡ true = (λ i. are_new (sym none i) (OfFiles (sym is i))) ∙ two.0 in
    let kept : seen ≡ OfFiles files = same_seen ∙ two.1 ∙ (λ i. none i ++ OfFiles (is i)) in
    at r first (are_new_append [] (OfFiles files) qs) (subst (λ s. AddsAll r qs s now) kept (subst (λ l. AddsAll r l seen now) same a))
  where
    at : (s : Result Bool NoMemory) → are_new [] (OfFiles files) ≡ true → are_new [] (OfFiles files ++ qs) ≡ (are_new [] (OfFiles files) && are_new (OfFiles files) qs)
        → AddsAll s qs (OfFiles files) now → IfOk s (λ t. t ≡ stand_once (OfFiles files ++ qs))
    at (Ok true) first whole a = sym (whole ∙ ap₂ (λ x y. x && y) first a.0)
    at (Ok false) first whole a = sym (whole ∙ ap₂ (λ x y. x && y) first a)
    at (Err e) first whole a = tt

-- ---- lists that are no pair

-- a list of more than two items is no pair
pub too_many : (items more : List Value) (x y : Value) → items ≡ x ∷ y ∷ more → (length more == 0) ≡ false → pair_of (items_view items) ≡ None
too_many items [] x y e n = absurd (true≢false n)
too_many items (z ∷ more) x y e n = ap (λ l. pair_of (items_view l)) e

-- what holds anyway holds after an Ok
pub on_ok : {X E : Type 0} (r : Result X E) (P : Type 0) → P → OnOk r P
on_ok (Ok x) P h = h
on_ok (Err e) P h = tt
