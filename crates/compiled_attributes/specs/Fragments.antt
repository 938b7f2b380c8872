-- Fragments, and the files that Puppet's module concat puts together of them.
use Rattle.std.specs.Prelude.{ℕ, Bool, false, not, ◌||◌, ◌&&◌, if◌then◌else◌, List, [], ◌∷◌, ◌++◌, codes, filter, Option, Some, None, is_none, is_some}
use Rattle.std.specs.declared.cmp.Ordering.{Ordering}
use Rattle.std.specs.BTreeMap.{insert_entry}
use Rattle.std.specs.List.{flat_map}
use Rattle.std.specs.Option.{option_or}
use Rattle.std.specs.Ordering.{nat_cmp, ordering_then}
use Rattle.std.specs.Cmp.Lexicographic.{slice_cmp}
use Rattle.std.specs.Str.{bytes_eq}
use Rattle.pp_value.specs.declared.value.Value.{Value}
use Rattle.pp_value.specs.declared.value.Value.TheVariants as v
use Rattle.pp_value.specs.Shown.{shown_int}
use Rattle.pp_value.specs.Table.{or_undef}
use Rattle.pp_value.specs.Values.{Pair, value_at}
use Rattle.catalog_text.specs.Json.{json}
use Rattle.compiled_text.specs.declared.catalog.CompiledResource.{CompiledResource}
use Rattle.compiled_text.specs.Compiled.{is_concat_file, counts_as}
use Rattle.model_semantics.specs.Names.{text_at}
use Rattle.compiled_attributes.specs.Given.{given_value, gives, says, is_untold}

-- ---- which fragments a file gathers

abbrev pub is_fragment : CompiledResource → Bool
is_fragment r = bytes_eq r.id.kind (codes "concat_fragment") && not r.is_container

-- the target of a fragment, if it is a text
abbrev pub target_of : CompiledResource → Option (List ℕ)
target_of r = if is_fragment r then text_at (codes "target") r.parameters else None

-- it is this text, if there is one
abbrev pub is_target : List ℕ → Option (List ℕ) → Bool
is_target target None = false
is_target target (Some text) = bytes_eq target text

-- a fragment whose target is this text
abbrev pub is_for : List ℕ → CompiledResource → Bool
is_for target r = is_target target (target_of r)

-- The file gathers it: its target is the file's path, or the file's title.
abbrev pub is_gathered_by : CompiledResource → CompiledResource → Bool
is_gathered_by file r = is_for (counts_as file).title r || is_for file.id.title r

-- the fragments that a file gathers, in the text's order
abbrev pub gathered : List CompiledResource → CompiledResource → List CompiledResource
gathered resources file = filter (is_gathered_by file) resources

-- ---- what a fragment says

-- a text as it is, and a number in decimal
abbrev pub order_text : Value → Option (List ℕ)
order_text (v.Str text) = Some text
order_text (v.Int n) = Some (shown_int n)
order_text _ = None

-- `10` where none is given
abbrev pub order_given : Option Value → Option (List ℕ)
order_given None = Some (codes "10")
order_given (Some x) = order_text x

-- the order of a fragment
abbrev pub order_of : CompiledResource → Option (List ℕ)
order_of r = order_given (given_value (codes "order") r.parameters)

-- the attribute for which a fragment can't be put into a file
abbrev pub misfit_of : CompiledResource → Option (List ℕ)
misfit_of r =
    if is_none (order_of r) then Some (codes "order") else (
    if gives (codes "source") r.parameters then Some (codes "source") else (
    if is_some (text_at (codes "content") r.parameters) then None else Some (codes "content")))

-- that of the first of these which has one
abbrev pub first_misfit : List CompiledResource → Option (List ℕ)
first_misfit [] = None
first_misfit (r ∷ rs) = option_or (misfit_of r) (first_misfit rs)

-- ---- files that can't be filled

-- the attribute for which a file can't be put together, whatever its fragments are: a `format` other than `plain`, or what its content
-- has to tell and can't
abbrev pub own_misfit : List Pair → Option (List ℕ)
own_misfit ps =
    if gives (codes "format") ps && not (says (codes "plain") (codes "format") ps) then Some (codes "format") else (
    if is_untold (codes "order") ps then Some (codes "order") else (
    if is_untold (codes "ensure_newline") ps then Some (codes "ensure_newline") else None))

-- it is to be put together, and not to be absent
abbrev pub is_filled : CompiledResource → Bool
is_filled r = is_concat_file r && not (says (codes "absent") (codes "ensure") r.parameters)

-- the attribute for which such a file has no content: its own, or that of the first fragment that has one
abbrev pub why_unfilled : List CompiledResource → CompiledResource → Option (List ℕ)
why_unfilled resources r = if is_filled r then option_or (own_misfit r.parameters) (first_misfit (gathered resources r)) else None

-- ---- their content

-- where a fragment stands: by its order, and by its title
abbrev pub Position : Type 0
Position = List ℕ × List ℕ

-- by bytes, the order first
abbrev pub position_cmp : Position → Position → Ordering
position_cmp a b = ordering_then (slice_cmp nat_cmp a.0 b.0) (slice_cmp nat_cmp a.1 b.1)

-- a text that is there, or the empty one
abbrev pub or_empty : Option (List ℕ) → List ℕ
or_empty None = []
or_empty (Some text) = text

abbrev pub position_of : CompiledResource → Position
position_of r = (or_empty (order_of r), r.id.title)

-- the content of a fragment, which is a text where the fragment fits
abbrev pub piece_of : CompiledResource → List ℕ
piece_of r = or_empty (text_at (codes "content") r.parameters)

-- some fragments at their positions, and then others, each put to its own
abbrev pub with_pieces : List (Position × List ℕ) → List CompiledResource → List (Position × List ℕ)
with_pieces pieces [] = pieces
with_pieces pieces (r ∷ rs) = with_pieces (insert_entry position_cmp pieces (position_of r) (piece_of r)) rs

-- `["ORDER","TITLE","CONTENT"]`
abbrev pub piece_text : Position × List ℕ → List ℕ
piece_text p = json (v.List (v.Str p.0.0 ∷ v.Str p.0.1 ∷ v.Str p.1 ∷ []))

-- `[ORDER,ENSURE_NEWLINE]` of the file itself
abbrev pub frame_text : List Pair → List ℕ
frame_text ps = json (v.List (or_undef (value_at (codes "order") ps) ∷ or_undef (value_at (codes "ensure_newline") ps) ∷ []))

-- What stands for the content of a file with these attributes and these fragments: it tells the file, and each fragment in its order.
abbrev pub content_with : List Pair → List CompiledResource → List ℕ
content_with ps fragments = codes "concat:" ++ (frame_text ps ++ flat_map piece_text (with_pieces [] fragments))

-- the content, unless there is none
abbrev pub filling_of : List CompiledResource → CompiledResource → Option (List ℕ)
filling_of resources r = if is_filled r && is_none (why_unfilled resources r) then Some
    (content_with r.parameters (gathered resources r)) else None
