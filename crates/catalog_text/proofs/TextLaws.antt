-- The lines of the resource at a place.
use Rattle.std.proofs.Common.{◌≡◌, ℕ, zero, suc, ◌+◌, ◌≤◌, Bool, true, false, cond, List, [], ◌∷◌, ◌++◌, length, drop, add-one, sym, ap, ◌∙◌, append_assoc, append-nil}
use Rattle.std.specs.Prelude.{slice_get, Some}
use Rattle.std.proofs.lemmas.List.{drop_all}
use Rattle.std.specs.List.{flat_map}
use Rattle.catalog_semantics.specs.declared.catalog.Resource.{Resource}
use Rattle.catalog_semantics.specs.Catalogs.{real_plain}
use Rattle.catalog_text.specs.CatalogText.{resource_lines, is_printed, if_printed}

-- the rest begins with the resource at the place
rest_at : (all : List Resource) (i : ℕ) (r : Resource) → slice_get all i ≡ Some r → drop i all ≡ r ∷ drop (suc i) all
rest_at [] i r h = cc
rest_at (q ∷ all) zero r h = let same : q ≡ r = cc in ap (λ (x : Resource). x ∷ all) same
rest_at (q ∷ all) (suc i) r h = rest_at all i r h

-- the lines of a resource go before those of the others, if it is printed
lines_by : (r : Resource) (more : List Resource) (text : List ℕ) (b : Bool) → text ++ flat_map resource_lines (cond b (r ∷ more) more) ≡ (text ++ cond b (resource_lines r) []) ++ flat_map resource_lines more
lines_by r more text true = sym (append_assoc text (resource_lines r) (flat_map resource_lines more))
lines_by r more text false = ap (λ t. t ++ flat_map resource_lines more) (sym (append-nil text))

-- the lines of one more resource go behind the text, if it is printed
pub next_lines : (all : List Resource) (i : ℕ) (r : Resource) (text : List ℕ) → slice_get all i ≡ Some r
    → text ++ flat_map resource_lines (real_plain (drop i all)) ≡ (text ++ if_printed r) ++ flat_map resource_lines (real_plain (drop (i + 1) all))
next_lines all i r text h =
    ap (λ rest. text ++ flat_map resource_lines (real_plain rest)) (rest_at all i r h ∙ ap (λ n. r ∷ drop n all) (sym (add-one i)))
    ∙ lines_by r (real_plain (drop (i + 1) all)) text (is_printed r)

-- behind the last there are no lines
pub no_lines : (all : List Resource) (i : ℕ) (text : List ℕ) → length all ≤ i → text ++ flat_map resource_lines (real_plain (drop i all)) ≡ text
no_lines all i text h = ap (λ rest. text ++ flat_map resource_lines (real_plain rest)) (drop_all i all h) ∙ append-nil text
