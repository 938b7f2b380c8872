-- The values of relations: of `before`, `notify`, `require` and `subscribe` in a compiled catalog.
use Rattle.std.specs.Prelude.{ℕ, Bool, true, false, ◌||◌, ◌&&◌, if◌then◌else◌, List, [], ◌∷◌, Option, Some, None, is_some, Result, Ok, Err}
use Rattle.rh_base.specs.declared.fault.Refusal.{Refusal}
use Rattle.pp_value.specs.declared.value.Ref.{Ref}
use Rattle.pp_value.specs.declared.value.Value.{Value, Row_of-Value, end_of-Value, more_of-Value}
use Rattle.pp_value.specs.declared.value.Value.TheVariants as v
use Rattle.pp_value.specs.Values.{is_undef}
use Rattle.pp_eval.specs.Evaluating.{◌>>=◌, refusal}
use Rattle.compiled_text.specs.declared.catalog.CompiledResource.{CompiledResource}
use Rattle.compiled_text.specs.Reading.{reference_of}
use Rattle.compiled_relations.specs.Finding.{found_by, name_and_line}

-- A text that is a reference, or a list of such values at any depth. In a list undef counts as not there.
abbrev mutual
  pub are_references : Value → Bool
  are_references v.Undef = false
  are_references (v.Bool b) = false
  are_references (v.Int n) = false
  are_references (v.Str text) = is_some (reference_of text)
  are_references (v.List' shape row) = are_references_in row
  are_references (v.Map' keys row) = false
  are_references (v.Refer r) = false
  are_references v.Opaque = false

  pub are_references_in : {m : _} → Row_of-Value m → Bool
  are_references_in end_of-Value = true
  are_references_in (more_of-Value x row) = (is_undef x || are_references x) && are_references_in row

-- what a text finds, or the refusal by the text as it is written
abbrev pub if_found : CompiledResource → List ℕ → Option Ref → Result Value Refusal
if_found r text None = Err (refusal 40 0 (name_and_line r text))
if_found r text (Some ref) = Ok (v.Refer ref)

-- The value of a relation of this resource, with what each text finds among all resources, or the refusal of the first that finds
-- nothing. Lists stay lists, without undef. Another value, which is refused before, counts as undef.
abbrev mutual
  pub related_to : List CompiledResource → CompiledResource → Value → Result Value Refusal
  related_to all r v.Undef = Ok v.Undef
  related_to all r (v.Bool b) = Ok v.Undef
  related_to all r (v.Int n) = Ok v.Undef
  related_to all r (v.Str text) = if_found r text (found_by all text)
  related_to all r (v.List' shape row) = related_to_row all r row >>= (λ items. Ok (v.List items))
  related_to all r (v.Map' keys row) = Ok v.Undef
  related_to all r (v.Refer ref) = Ok v.Undef
  related_to all r v.Opaque = Ok v.Undef

  pub related_to_row : {m : _} → List CompiledResource → CompiledResource → Row_of-Value m → Result (List Value) Refusal
  related_to_row all r end_of-Value = Ok []
  related_to_row all r (more_of-Value x row) = if is_undef x then related_to_row all r row else
      (related_to all r x >>= (λ item. related_to_row all r row >>= (λ items. Ok (item ∷ items))))
