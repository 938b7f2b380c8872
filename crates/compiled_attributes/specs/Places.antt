-- Where the fragments of a compiled catalog stand.
use Rattle.std.specs.Prelude.{◌≡◌, ℕ, ◌+◌, Bool, if◌then◌else◌, List, [], ◌∷◌, Option, Some, None, slice_get}
use Rattle.std.specs.BTreeSet.{insert_key}
use Rattle.std.specs.Map.{lookup}
use Rattle.std.specs.Ordering.{nat_cmp}
use Rattle.std.specs.Str.{bytes_eq}
use Rattle.compiled_text.specs.declared.catalog.CompiledResource.{CompiledResource}
use Rattle.compiled_attributes.specs.Fragments.{is_for}

-- the places of those that pass the test, counted from n on
abbrev pub places_where : {X : Type 0} → (X → Bool) → ℕ → List X → List ℕ
places_where test n [] = []
places_where test n (r ∷ rs) = if test r then n ∷ places_where test (n + 1) rs else places_where test (n + 1) rs

-- the places that are there, or none
abbrev pub or_none : Option (List ℕ) → List ℕ
or_none None = []
or_none (Some places) = places

-- the places that stand beside a target
abbrev pub places_in : List (List ℕ × List ℕ) → List ℕ → List ℕ
places_in table target = or_none (lookup (bytes_eq target) table)

-- For each target the table has the places of its fragments, in the text's order.
abbrev pub HoldsFragments : List CompiledResource → List (List ℕ × List ℕ) → Type 0
HoldsFragments resources table = (target : List ℕ) → places_in table target ≡ places_where (is_for target) 0 resources

-- ---- what the parts of the code do

-- the place, if the target is this text
abbrev pub if_target : List ℕ → Option (List ℕ) → ℕ → List ℕ
if_target target None place = []
if_target target (Some text) place = if bytes_eq target text then place ∷ [] else []

-- ascending places, and then others, each put where it belongs
abbrev pub with_places : List ℕ → List ℕ → List ℕ
with_places places [] = places
with_places places (p ∷ more) = with_places (insert_key nat_cmp places p) more

-- a resource, if there is one, ahead of others
abbrev pub if_there : {X : Type 0} → Option X → List X → List X
if_there None rs = rs
if_there (Some r) rs = r ∷ rs

-- the resources at these places
abbrev pub at_places : {X : Type 0} → List X → List ℕ → List X
at_places resources [] = []
at_places resources (p ∷ places) = if_there (slice_get resources p) (at_places resources places)
