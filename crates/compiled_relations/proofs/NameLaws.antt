-- Each resource is found by its type and title.
use Rattle.std.proofs.Common.{◌≡◌, ◌≢◌, ℕ, zero, suc, ◌<◌, Bool, true, false, cond, ◌||◌, ◌&&◌, not, ◌⊎◌, inl, inr, List, [], ◌∷◌, slice_get, Some, None, option_map, map, codes, refl, ap, ap₂, sym, ◌∙◌, arith}
use Rattle.std.specs.Str.{bytes_eq}
use Rattle.pp_value.specs.declared.value.Ref.{Ref}
use Rattle.pp_value.specs.Values.{same_ref, value_at}
use Rattle.compiled_text.specs.declared.catalog.CompiledResource.{CompiledResource}
use Rattle.compiled_text.specs.Compiled.{Compiled, AreDistinct, IsSound, is_concat_file, counts_as, text_or}
use Rattle.compiled_text.proofs.RefLaws.{same_where, differs, other_at}
use Rattle.compiled_relations.specs.Finding.{names_of, first_called, is_one, aliases_of, at_path, or_else, place_found}
use Rattle.std.proofs.lemmas.Option.{none-some, same_Some}
use Rattle.compiled_text.proofs.BracketLaws.{empty_not}

-- ---- the first that is called so

-- the first resource that is called so is found at its place
first_at : (calls : CompiledResource → List Ref) (ref : Ref) (rs : List CompiledResource) (place : ℕ) (r : CompiledResource) → slice_get rs place ≡ Some r → is_one ref (calls r) ≡ true
    → ((i : ℕ) (x : CompiledResource) → i < place → slice_get rs i ≡ Some x → is_one ref (calls x) ≡ false) → first_called calls ref rs ≡ Some place
first_at calls ref [] place r h one none = absurd (none-some r h)
first_at calls ref (x ∷ rs) zero r h one none = ap (λ t. cond t (Some 0) (option_map suc (first_called calls ref rs))) (ap (λ y. is_one ref (calls y)) (same_Some x r h) ∙ one)
first_at calls ref (x ∷ rs) (suc place) r h one none =
    ap (λ t. cond t (Some 0) (option_map suc (first_called calls ref rs))) (none 0 x (omega arith) refl)
    ∙ ap (option_map suc) (first_at calls ref rs place r h one (λ i y k at. none (suc i) y (omega arith) at))

-- ---- references that differ

-- of references that differ two stand at two places
apart_at : (refs : List Ref) (i j : ℕ) (a b : Ref) → AreDistinct refs → i < j → slice_get refs i ≡ Some a → slice_get refs j ≡ Some b → a ≢ b
apart_at [] i j a b d k h e = absurd (none-some a h)
apart_at (p ∷ refs) i zero a b d k h e = absurd (omega (arith, k))
apart_at (p ∷ refs) zero (suc j) a b d k h e = λ same. other_at p refs j b d.0 e (same_Some p a h ∙ same)
apart_at (p ∷ refs) (suc i) (suc j) a b d k h e = apart_at refs i j a b d.1 (omega arith) h e

-- the image of what stands at a place stands there
mapped_at : (f : CompiledResource → Ref) (rs : List CompiledResource) (i : ℕ) (r : CompiledResource) → slice_get rs i ≡ Some r → slice_get (map f rs) i ≡ Some (f r)
mapped_at f [] i r h = absurd (none-some r h)
mapped_at f (x ∷ rs) zero r h = ap (λ y. Some (f y)) (same_Some x r h)
mapped_at f (x ∷ rs) (suc i) r h = mapped_at f rs i r h

-- ---- what counts as a resource of this reference

-- a resource that isn't put together counts as itself
kept_name : (r : CompiledResource) → is_concat_file r ≡ false → counts_as r ≡ r.id
kept_name r h = ap (λ t. cond t (record { kind = codes "file"; title = text_or r.id.title (value_at (codes "path") r.parameters) }) r.id) h

-- a resource that isn't put together counts as itself, and what is named as another counts as that, counts as it too
counts_alike : (r x : CompiledResource) → r.id ≡ counts_as x → (r.id ≡ x.id) ⊎ (counts_as r ≡ counts_as x)
counts_alike r x same = at (is_concat_file x) refl
  where
    other_kind : is_concat_file x ≡ true → is_concat_file r ≡ false
    other_kind e =
        let kind : r.id.kind ≡ codes "file" = ap (λ q. q.kind) (same ∙ ap (λ t. cond t (record { kind = codes "file"; title = text_or x.id.title (value_at (codes "path") x.parameters) }) x.id) e) in
        ap (λ k. bytes_eq k (codes "concat_file") && not r.is_container) kind

    at : (t : Bool) → is_concat_file x ≡ t → (r.id ≡ x.id) ⊎ (counts_as r ≡ counts_as x)
    at true e = inr (kept_name r (other_kind e) ∙ same)
    at false e = inl (same ∙ kept_name x e)

-- ---- found by name

-- where both are false so is the disjunction
neither : (a b : Bool) → a ≡ false → b ≡ false → (a || (b || false)) ≡ false
neither a b h k = ap₂ (λ x y. x || (y || false)) h k

-- no earlier resource of a sound compiled catalog is called so
earlier_differs : (c : Compiled) (place i : ℕ) (r x : CompiledResource) → IsSound c → slice_get c.resources place ≡ Some r → i < place → slice_get c.resources i ≡ Some x → is_one r.id (names_of x) ≡ false
earlier_differs c place i r x sound h k at =
    let ids = apart_at (map (λ y. y.id) c.resources) i place x.id r.id sound.references k (mapped_at (λ y. y.id) c.resources i x at) (mapped_at (λ y. y.id) c.resources place r h) in
    let counted = apart_at (map counts_as c.resources) i place (counts_as x) (counts_as r) sound.apart k (mapped_at counts_as c.resources i x at) (mapped_at counts_as c.resources place r h) in
    neither (same_ref r.id x.id) (same_ref r.id (counts_as x)) (differs r.id x.id (λ e. ids (sym e)))
    (differs r.id (counts_as x) (λ e. elim (counts_alike r x e) [ inl same ↦ ids (sym same) | inr same ↦ counted (sym same) ]))

-- each resource is found by its own reference
pub found_by_name : (c : Compiled) (place : ℕ) (r : CompiledResource) → IsSound c → slice_get c.resources place ≡ Some r → r.id.title ≢ [] → place_found c.resources r.id ≡ Some place
found_by_name c place r sound h some =
    let others = or_else (first_called aliases_of r.id c.resources) (at_path r.id c.resources) in
    let itself : is_one r.id (names_of r) ≡ true = ap (λ t. t || (same_ref r.id (counts_as r) || false)) ((same_where r.id r.id).1 refl) in
    let first = first_at names_of r.id c.resources place r h itself (λ i x k at. earlier_differs c place i r x sound h k at) in
    ap (λ t. cond t None (or_else (first_called names_of r.id c.resources) others)) (empty_not r.id.title some) ∙ ap (λ o. or_else o others) first
