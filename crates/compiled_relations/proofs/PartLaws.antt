-- What is gathered resource by resource.
use Rattle.std.proofs.Common.{◌≡◌, ℕ, zero, suc, ◌+◌, Bool, true, false, ◌||◌, List, [], ◌∷◌, ◌++◌, get_or, drop, slice_get, Option, Some, None, refl, ap, sym, ◌∙◌, append_assoc}
use Rattle.std.specs.List.{flat_map}
use Rattle.std.proofs.lemmas.List.{drop_more}
use Rattle.std.proofs.lemmas.List.Concat.{flat_map-cons}
use Rattle.std.proofs.lemmas.Grind.{flat_map-append}
use Rattle.std.proofs.lemmas.Option.{slice_get_within}
use Rattle.catalog_semantics.specs.declared.catalog.Resource.{Resource}
use Rattle.catalog_semantics.specs.Catalogs.{Catalog}
use Rattle.graph_semantics.specs.Relations.{relations_of}
use Rattle.compiled_relations.specs.Links.{has_pair, same_pair, related_by}

-- equal things as found are equal
one_some : (x y : Resource) → ◌≡◌ {A = Option Resource} (Some x) (Some y) → x ≡ y
one_some x y h = cc

-- nothing isn't something
nothing : (x : Resource) → ◌≡◌ {A = Option Resource} None (Some x) → ⊥
nothing x h = cc

-- what stands at a place is read there
read_at : (rs : List Resource) (i : ℕ) (r : Resource) → slice_get rs i ≡ Some r → get_or rs i r ≡ r
read_at [] i r h = refl
read_at (x ∷ rs) zero r h = one_some x r h
read_at (x ∷ rs) (suc i) r h = read_at rs i r h

-- the resource at a place stands ahead of those behind it
at_place : (rs : List Resource) (i : ℕ) (r : Resource) → slice_get rs i ≡ Some r → drop i rs ≡ r ∷ drop (i + 1) rs
at_place rs i r h = drop_more rs i r (slice_get_within rs i r h) ∙ ap (λ x. x ∷ drop (i + 1) rs) (read_at rs i r h)

-- what resources give that are counted from a number on, one after another
pub next_part : {X : Type 0} (whole : ℕ → List Resource → List X) (part : ℕ → Resource → List X) → ((i : ℕ) (r : Resource) (rs : List Resource) → whole i (r ∷ rs) ≡ part i r ++ whole (i + 1) rs)
    → (done new w : List X) (rs : List Resource) (i : ℕ) (r : Resource) → slice_get rs i ≡ Some r → done ++ whole i (drop i rs) ≡ w → new ≡ done ++ part i r → new ++ whole (i + 1) (drop (i + 1) rs) ≡ w
next_part whole part step done new w rs i r h before is =
    ap (λ xs. xs ++ whole (i + 1) (drop (i + 1) rs)) is
    ∙ (append_assoc done (part i r) (whole (i + 1) (drop (i + 1) rs))
    ∙ (ap (λ xs. done ++ xs) (sym (ap (whole i) (at_place rs i r h) ∙ step i r (drop (i + 1) rs))) ∙ before))

-- ---- pairs

-- a pair is among two lists where it is in one of them
pub any_append : (xs ys : List (ℕ × ℕ)) (p : ℕ × ℕ) → has_pair (xs ++ ys) p ≡ (has_pair xs p || has_pair ys p)
any_append [] ys p = refl
any_append (x ∷ xs) ys p = ap (λ t. same_pair p x || t) (any_append xs ys p) ∙ sym (assoc (same_pair p x) (has_pair xs p) (has_pair ys p))
  where
    assoc : (a b c : Bool) → ((a || b) || c) ≡ (a || (b || c))
    assoc true b c = refl
    assoc false b c = refl

-- a disjunction of three may be grouped either way
or_assoc : (a b c : Bool) → ((a || b) || c) ≡ (a || (b || c))
or_assoc true b c = refl
or_assoc false b c = refl

-- what one more resource relates is put to what those before it relate
pub next_pairs : (c : Catalog) (old new : List (ℕ × ℕ)) (rs : List Resource) (i : ℕ) (r : Resource) (p : ℕ × ℕ) (w : Bool) → slice_get rs i ≡ Some r
    → has_pair new p ≡ (has_pair old p || has_pair (flat_map (related_by c) (relations_of r)) p) → (has_pair old p || has_pair (flat_map (related_by c) (flat_map relations_of (drop i rs))) p) ≡ w
    → (has_pair new p || has_pair (flat_map (related_by c) (flat_map relations_of (drop (i + 1) rs))) p) ≡ w
next_pairs c old new rs i r p w h is before =
    let rest = flat_map relations_of (drop (i + 1) rs) in
    let split : flat_map (related_by c) (flat_map relations_of (drop i rs)) ≡ flat_map (related_by c) (relations_of r) ++ flat_map (related_by c) rest =
    ap (λ xs. flat_map (related_by c) (flat_map relations_of xs)) (at_place rs i r h) ∙ (ap (flat_map (related_by c)) (flat_map-cons relations_of r (drop (i + 1) rs)) ∙ flat_map-append (related_by c) (relations_of r) rest) in
    ap (λ t. t || has_pair (flat_map (related_by c) rest) p) is
    ∙ (or_assoc (has_pair old p) (has_pair (flat_map (related_by c) (relations_of r)) p) (has_pair (flat_map (related_by c) rest) p)
    ∙ (ap (λ t. has_pair old p || t) (sym (ap (λ xs. has_pair xs p) split ∙ any_append (flat_map (related_by c) (relations_of r)) (flat_map (related_by c) rest) p)) ∙ before))
