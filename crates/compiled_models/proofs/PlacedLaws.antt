-- Assumptions with the places of their resources beside them.
use Rattle.std.proofs.Common.{◌≡◌, ℕ, zero, suc, ◌<◌, false, cond, List, [], ◌∷◌, drop, get_or, length, Option, Some, refl, sym, ap, ◌∙◌, arith}
use Rattle.compiled_text.specs.declared.catalog.CompiledResource.{CompiledResource}
use Rattle.assumed_text.specs.declared.assumed.Assumption.{Assumption}
use Rattle.compiled_models.specs.Assumed.{place_of_subject, places_of, is_at, assumed_of_place}
use Rattle.compiled_models.specs.Hosts.{first_of}

-- each assumption has a place beside it, or none
pub as_many : (resources : List CompiledResource) (rows : List Assumption) → length rows ≡ length (places_of resources rows)
as_many resources [] = refl
as_many resources (a ∷ rows) = ap suc (as_many resources rows)

-- the first assumption of a place is that of the resource there
pub first_is : (resources : List CompiledResource) (place : ℕ) (rows : List Assumption) → first_of place (places_of resources rows) rows ≡ assumed_of_place resources place rows
first_is resources place [] = refl
first_is resources place (a ∷ rows) = ap (cond (is_at place (place_of_subject resources a.subject)) (Some a.assumed)) (first_is resources place rows)

-- what the first says stays where one is passed beside which another place stands
pub past_first : (place k n : ℕ) (d : Option ℕ) (places : List (Option ℕ)) (rows : List Assumption) → n ≡ suc k → k < length rows → length rows ≡ length places
    → is_at place (get_or places k d) ≡ false → first_of place (drop n places) (drop n rows) ≡ first_of place (drop k places) (drop k rows)
past_first place k n d places rows e h same not = ap (λ n. first_of place (drop n places) (drop n rows)) e ∙ at k places rows h same not
  where
    at : (k : ℕ) (places : List (Option ℕ)) (rows : List Assumption) → k < length rows → length rows ≡ length places
        → is_at place (get_or places k d) ≡ false → first_of place (drop (suc k) places) (drop (suc k) rows) ≡ first_of place (drop k places) (drop k rows)
    at k places [] h same not = absurd (omega (arith, h))
    at k [] (a ∷ rows) h same not = absurd (omega (arith, same))
    at zero (p ∷ places) (a ∷ rows) h same not = sym (ap (λ b. cond b (Some a.assumed) (first_of place places rows)) not)
    at (suc k) (p ∷ places) (a ∷ rows) h same not = at k places rows (omega (arith, h)) (omega (arith, same)) not
