-- JSON that is stored, and what it says.
use Rattle.std.proofs.Common.{◌≡◌, ℕ, ◌+◌, ◌<◌, ◌≤◌, false, List, [], ◌∷◌, ◌++◌, length, get_or, take, drop, add-one, Some, sym, ap, subst, ◌∙◌}
use Rattle.std.specs.Ordering.{nat_cmp}
use Rattle.std.specs.Cmp.Lexicographic.{slice_cmp}
use Rattle.std.specs.List.Sorted.{IsStrictlySortedBy}
use Rattle.std.proofs.Math.Seq.{drop-cons, take-suc}
use Rattle.std.proofs.lemmas.List.{take-append-drop}
use Rattle.serde_json.specs.Data.{Members, put, depth}
use Rattle.serde_json.specs.Read.{read, max_depth}
use Rattle.serde_json.specs.Written.{compact_text, has_float}
use Rattle.serde_json.specs.View.{view}
use Rattle.serde_json.specs.declared.value.Value as json
use Rattle.pkg_listing.specs.Packages.{Packages, names_of}
use Rattle.pkg_listing.specs.declared.listing.Package.{Package}
use Rattle.pkg_listing.specs.ListingText.{package_data, packages_data, listing_data, listing_text}
use Rattle.pkg_listing.proofs.TextLaws.{no_float, shallow, put_last}

-- what is stored of a listing is written as its text
pub written_text : (ps : Packages) (v : json.Value) (bytes : List ℕ) → view v ≡ listing_data ps → (has_float (view v) ≡ false → bytes ≡ compact_text (view v)) → bytes ≡ listing_text ps
written_text ps v bytes is h = subst (λ d. has_float d ≡ false → bytes ≡ compact_text d) is h (no_float ps)

-- and that text is read as the listing's JSON
pub written_read : (ps : Packages) (v : json.Value) (bytes : List ℕ) → view v ≡ listing_data ps → (depth (view v) ≤ max_depth → read bytes ≡ Some (view v)) → read bytes ≡ Some (listing_data ps)
written_read ps v bytes is h = subst (λ d. depth d ≤ max_depth → read bytes ≡ Some d) is h (shallow ps)

-- the members of one package more
pub next_member : (ps : Packages) (i : ℕ) (p : List ℕ × Package) (ms new : Members) → IsStrictlySortedBy (slice_cmp nat_cmp) (names_of ps) → i < length ps → p ≡ get_or ps i p
    → ms ≡ packages_data (take i ps) → new ≡ put p.0 (package_data p.1) ms → new ≡ packages_data (take (i + 1) ps)
next_member ps i p ms new sorted inside is before added =
    let rest : drop i ps ≡ p ∷ drop (i + 1) ps = drop-cons ps i p inside ∙ (λ k. sym is k ∷ drop (sym (add-one i) k) ps) in
    let whole : take i ps ++ p ∷ drop (i + 1) ps ≡ ps = ap (λ l. take i ps ++ l) (sym rest) ∙ take-append-drop i ps in
    let front : take (i + 1) ps ≡ take i ps ++ p ∷ [] = ap (λ n. take n ps) (add-one i) ∙ take-suc ps i p inside ∙ ap (λ q. take i ps ++ q ∷ []) (sym is) in
    added ∙ ap (put p.0 (package_data p.1)) before ∙ put_last (take i ps) (drop (i + 1) ps) p (subst (λ l. IsStrictlySortedBy (slice_cmp nat_cmp) (names_of l)) (sym whole) sorted) ∙ ap packages_data (sym front)
