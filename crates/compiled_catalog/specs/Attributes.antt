-- The attributes that the catalog has of a resource of a compiled catalog, or what refuses them.
use Rattle.std.specs.Prelude.{ℕ, Bool, not, if◌then◌else◌, List, [], ◌∷◌, ◌++◌, codes, Option, Some, None, Result, Ok, Err}
use Rattle.rh_base.specs.declared.fault.Refusal.{Refusal}
use Rattle.pp_value.specs.declared.value.Value.{Value}
use Rattle.pp_value.specs.Shown.{shown_ref}
use Rattle.pp_value.specs.Values.{Pair, value_at, with_pair, has_opaque, exceeds_limits}
use Rattle.pp_eval.specs.Evaluating.{◌>>=◌, refusal}
use Rattle.catalog_semantics.specs.Attributes.{is_metaparameter, metaparameters}
use Rattle.compiled_text.specs.declared.catalog.CompiledResource.{CompiledResource}
use Rattle.compiled_text.specs.Compiled.{counts_as}
use Rattle.compiled_attributes.specs.Attributes.{attributes_of}
use Rattle.compiled_relations.specs.Finding.{name_and_line}
use Rattle.compiled_relations.specs.Values.{are_references, related_to}

-- ---- refusals of one attribute

-- the reference of the resource, a blank and the attribute
abbrev pub attribute_name : CompiledResource → List ℕ → List ℕ
attribute_name r name = name_and_line r (shown_ref (counts_as r) ++ (codes " " ++ name))

-- the refusal by the first attribute that passes the test, if one does
abbrev pub none_is : (Pair → Bool) → ℕ → CompiledResource → List Pair → Result (Unit {0}) Refusal
none_is test number r [] = Ok tt
none_is test number r (p ∷ ps) = if test p then Err (refusal number 0 (attribute_name r p.0)) else none_is test number r ps

-- its value exceeds the limits
abbrev pub is_large : Pair → Bool
is_large p = exceeds_limits p.1

-- Its value has to be known and isn't: that of a relation is no references, and that of another attribute has an opaque value in it.
abbrev pub is_unknown : Pair → Bool
is_unknown p = if is_metaparameter p.0 then not (are_references p.1) else has_opaque p.1

-- ---- relations

-- the attributes, in which the relation of this name has what its texts find
abbrev pub with_related : List CompiledResource → CompiledResource → List ℕ → List Pair → Option Value → Result (List Pair) Refusal
with_related all r name ps None = Ok ps
with_related all r name ps (Some x) = do
  y ← related_to all r x
  Ok (with_pair name y ps)

-- the relations of these names so, one after another
abbrev pub related_in_turn : List CompiledResource → CompiledResource → List (List ℕ) → List Pair → Result (List Pair) Refusal
related_in_turn all r [] ps = Ok ps
related_in_turn all r (name ∷ names) ps = do
  more ← with_related all r name ps (value_at name ps)
  related_in_turn all r names more

-- ---- all attributes

-- Each value is within the limits, then each is known, and then `before`, `notify`, `require` and `subscribe` find what they name.
abbrev pub settled : List CompiledResource → CompiledResource → List Pair → Result (List Pair) Refusal
settled all r ps = do
  _ ← none_is is_large 32 r ps
  _ ← none_is is_unknown 29 r ps
  related_in_turn all r metaparameters ps

-- the attributes of a resource among all of them
abbrev pub settled_attributes : List CompiledResource → CompiledResource → Result (List Pair) Refusal
settled_attributes all r = settled all r (attributes_of all r)
