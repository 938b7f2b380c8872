-- The values of relations, in the words of lists.
use Rattle.std.specs.Prelude.{Bool, true, ◌||◌, ◌&&◌, if◌then◌else◌, List, [], ◌∷◌, Result, Ok}
use Rattle.rh_base.specs.declared.fault.Refusal.{Refusal}
use Rattle.pp_value.specs.declared.value.Value.{Value}
use Rattle.pp_value.specs.Values.{is_undef}
use Rattle.pp_eval.specs.Evaluating.{◌>>=◌}
use Rattle.compiled_text.specs.declared.catalog.CompiledResource.{CompiledResource}
use Rattle.compiled_relations.specs.Values.{are_references, related_to}

-- each of these is undef, a reference or a list of them
abbrev pub are_all_references : List Value → Bool
are_all_references [] = true
are_all_references (x ∷ xs) = (is_undef x || are_references x) && are_all_references xs

-- each of these but undef, with what its texts find
abbrev pub related_to_all : List CompiledResource → CompiledResource → List Value → Result (List Value) Refusal
related_to_all all r [] = Ok []
related_to_all all r (x ∷ xs) = if is_undef x then related_to_all all r xs else
    (related_to all r x >>= (λ item. related_to_all all r xs >>= (λ items. Ok (item ∷ items))))
