-- What is assumed of the resources of a compiled catalog.
use Rattle.std.specs.Prelude.{ℕ, ◌==◌, Bool, true, false, if◌then◌else◌, List, [], ◌∷◌, length, map, filter, slice_get, Option, Some, None}
use Rattle.std.specs.Option.{option_or}
use Rattle.compiled_text.specs.declared.catalog.CompiledResource.{CompiledResource}
use Rattle.compiled_text.specs.Compiled.{counts_as}
use Rattle.compiled_relations.specs.Finding.{place_found}
use Rattle.assumed_text.specs.declared.assumed.Assumed.{Assumed}
use Rattle.assumed_text.specs.declared.assumed.Assumed.TheVariants.{Nothing, Refused, Does}
use Rattle.assumed_text.specs.declared.assumed.Subject.{Subject}
use Rattle.assumed_text.specs.declared.assumed.Subject.TheVariants.{One, EachOf}
use Rattle.assumed_text.specs.declared.assumed.Assumption.{Assumption}
use Rattle.assumed_text.specs.Assumptions.{assumed_of_type}

-- the place of the resource of which it speaks alone, if its reference finds one
abbrev pub place_of_subject : List CompiledResource → Subject → Option ℕ
place_of_subject resources (One ref) = place_found resources ref
place_of_subject resources (EachOf kind) = None

-- the place of each assumption's resource
abbrev pub places_of : List CompiledResource → List Assumption → List (Option ℕ)
places_of resources rows = map (λ a. place_of_subject resources a.subject) rows

-- there is a place, and it is this one
abbrev pub is_at : ℕ → Option ℕ → Bool
is_at place None = false
is_at place (Some found) = found == place

-- what the first assumption of the resource at a place says
abbrev pub assumed_of_place : List CompiledResource → ℕ → List Assumption → Option Assumed
assumed_of_place resources place [] = None
assumed_of_place resources place (a ∷ rows) =
    if is_at place (place_of_subject resources a.subject) then Some a.assumed else assumed_of_place resources place rows

-- What is assumed of a resource at a place: an assumption of the resource wins over that of its type. What is put together of fragments
-- has the type of files.
abbrev pub assumed_at : List CompiledResource → List Assumption → ℕ → CompiledResource → Option Assumed
assumed_at resources rows place r = option_or (assumed_of_place resources place rows) (assumed_of_type (counts_as r).kind rows)

-- ---- which resources are assumed

-- Something is assumed that gives a program. `refused` gives none: the resource is as if nothing were assumed of it.
abbrev pub gives_program : Option Assumed → Bool
gives_program None = false
gives_program (Some Nothing) = true
gives_program (Some Refused) = false
gives_program (Some (Does b)) = true

-- what is assumed of what stands at a place, if a resource does
abbrev pub assumed_there : List CompiledResource → List Assumption → ℕ → Option CompiledResource → Option Assumed
assumed_there resources rows place None = None
assumed_there resources rows place (Some r) = assumed_at resources rows place r

-- the program of the resource at a place comes from an assumption
abbrev pub is_assumed_at : List CompiledResource → List Assumption → ℕ → Bool
is_assumed_at resources rows place = gives_program (assumed_there resources rows place (slice_get resources place))

-- how many of the resources at these places are assumed
abbrev pub count_assumed : List CompiledResource → List Assumption → List ℕ → ℕ
count_assumed resources rows places = length (filter (is_assumed_at resources rows) places)
