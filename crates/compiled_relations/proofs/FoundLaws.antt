-- What is found stands among the resources.
use Rattle.std.proofs.Common.{◌≡◌, ℕ, List, Some}
use Rattle.rh_base.specs.Reading.{◌>>=◌}
use Rattle.pp_value.specs.declared.value.Ref.{Ref}
use Rattle.compiled_text.specs.declared.catalog.CompiledResource.{CompiledResource}
use Rattle.compiled_text.specs.Reading.{reference_of}
use Rattle.compiled_relations.specs.Finding.{place_found, reference_at, reference_found, found_by, StandsIn}
use Rattle.rh_base.proofs.Options.{bind_some}

-- what a text finds is the reference of a resource
pub found_stands : (all : List CompiledResource) (text : List ℕ) (ref : Ref) → found_by all text ≡ Some ref → StandsIn all ref
found_stands all text ref h =
    let named = bind_some (reference_of text) (reference_found all) ref h in
    let place = bind_some (place_found all named.0) (reference_at all) ref named.2 in
    (place.0, place.2)
