-- Native resources, one after another.
use Rattle.std.proofs.Common.{◌≡◌, ℕ, suc, ◌<◌, List, ◌∷◌, ◌++◌, drop, get_or, length, slice_get, Some, sym, ap, ap₂, ◌∙◌}
use Rattle.std.proofs.Math.Seq.{drop-cons}
use Rattle.catalog_semantics.specs.declared.catalog.Resource.{Resource}
use Rattle.compiled_text.specs.declared.catalog.CompiledResource.{CompiledResource}
use Rattle.compiled_models.specs.Programs.{Native, native_at, natives_at}

-- the first of some places, at which both have a resource
next_native : (texts : List CompiledResource) (resources : List Resource) (places : List ℕ) (n : Native) → slice_get texts n.place ≡ Some n.text → slice_get resources n.place ≡ Some n.resource
    → natives_at texts resources (n.place ∷ places) ≡ n ∷ natives_at texts resources places
next_native texts resources places n told made = ap₂ (λ c r. native_at n.place c r ++ natives_at texts resources places) told made

-- the native resources at places that are left begin with the one at the first of them
pub next_at : (texts : List CompiledResource) (resources : List Resource) (places : List ℕ) (i next d : ℕ) (n : Native) → next ≡ suc i → i < length places → n.place ≡ get_or places i d
    → slice_get texts (get_or places i d) ≡ Some n.text → slice_get resources (get_or places i d) ≡ Some n.resource → natives_at texts resources (drop i places) ≡ n ∷ natives_at texts resources (drop next places)
next_at texts resources places i next d n e h at told made =
    ap (natives_at texts resources) (drop-cons places i d h)
    ∙ (ap₂ (λ place k. natives_at texts resources (place ∷ drop k places)) (sym at) (sym e)
    ∙ next_native texts resources (drop next places) n (ap (slice_get texts) at ∙ told) (ap (slice_get resources) at ∙ made))
