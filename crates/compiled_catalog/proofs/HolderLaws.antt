-- What contains a resource is one of the resources.
use Rattle.std.proofs.Common.{◌≡◌, ℕ, ◌<◌, ◌==◌, Bool, true, false, true≢false, cond, List, [], ◌∷◌, length, slice_get, Option, Some, None, refl, sym, subst}
use Rattle.std.specs.List.{AllByRecursion}
use Rattle.std.proofs.lemmas.Option.{slice_get_within}
use Rattle.compiled_text.specs.declared.catalog.CompiledResource.{CompiledResource}
use Rattle.compiled_text.specs.declared.catalog.Containment.{Containment}
use Rattle.compiled_text.specs.Compiled.{Compiled, passes, is_container_at, is_class_at, first_outer, holder_of, IsContainment, IsSound}
use Rattle.pp_value.proofs.PlaceLaws.{some_here}

-- a container stands within the resources
container_within : (rs : List CompiledResource) (place : ℕ) → is_container_at rs place ≡ true → place < length rs
container_within rs place h = at (slice_get rs place) refl h
  where
    at : (o : Option CompiledResource) → slice_get rs place ≡ o → passes (λ r. r.is_container) o ≡ true → place < length rs
    at None e k = absurd (true≢false (sym k))
    at (Some r) e k = slice_get_within rs place r e

-- so does the one that an edge leads from
outer_within : (rs : List CompiledResource) (edges : List Containment) (place h : ℕ) → AllByRecursion (IsContainment rs) edges → first_outer place edges ≡ Some h → h < length rs
outer_within rs [] place h all e = cc
outer_within rs (f ∷ edges) place h all e = at (outer_within rs edges place h all.1) (f.inner == place) e
  where
    at : (first_outer place edges ≡ Some h → h < length rs) → (t : Bool) → cond t (Some f.outer) (first_outer place edges) ≡ Some h → h < length rs
    at later true k = subst (λ n. n < length rs) (some_here f.outer h k) (container_within rs f.outer all.0.container)
    at later false k = later k

-- and so does what contains a resource
pub holder_within : (c : Compiled) (place h : ℕ) → IsSound c → holder_of c place ≡ Some h → h < length c.resources
holder_within c place h sound e = at (is_class_at c.resources place) e
  where
    at : (t : Bool) → cond t None (first_outer place c.edges) ≡ Some h → h < length c.resources
    at true k = cc
    at false k = outer_within c.resources c.edges place h sound.edges k
