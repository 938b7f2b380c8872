-- The values of relations in lists.
use Rattle.std.proofs.Common.{◌≡◌, Bool, cond, ◌||◌, ◌&&◌, List, [], ◌∷◌, ◌++◌, refl, ap}
use Rattle.std.specs.Prelude.{Result, Ok}
use Rattle.rh_base.specs.declared.fault.Refusal.{Refusal}
use Rattle.pp_value.specs.declared.value.Value.{Value}
use Rattle.pp_value.specs.declared.value.Value.TheVariants as v
use Rattle.pp_value.specs.declared.value.Value.TheBlock as block
use Rattle.pp_value.specs.Values.{is_undef}
use Rattle.pp_eval.specs.Evaluating.{◌>>=◌}
use Rattle.compiled_text.specs.declared.catalog.CompiledResource.{CompiledResource}
use Rattle.compiled_relations.specs.Values.{are_references, related_to, related_to_row}
use Rattle.compiled_relations.specs.Lists.{are_all_references, related_to_all}

-- a list is references where each of its members is, or undef
pub all_references : (xs : List Value) → are_references (v.List xs) ≡ are_all_references xs
unfolding block.hidden-the_row-Value-0 denote.Hole.Carrier.hidden
all_references [] = refl
all_references (x ∷ xs) = ap (λ b. (is_undef x || are_references x) && b) (all_references xs)

-- what was found of the first, unless that is undef, and then the rest
abbrev with_rest : Bool → Result Value Refusal → Result (List Value) Refusal → Result (List Value) Refusal
with_rest undef item rest = cond undef rest (item >>= (λ x. rest >>= (λ items. Ok (x ∷ items))))

-- a list becomes the list of what its members become
pub related_list : (all : List CompiledResource) (r : CompiledResource) (xs : List Value) → related_to all r (v.List xs) ≡ (related_to_all all r xs >>= (λ items. Ok (v.List items)))
unfolding block.hidden-the_row-Value-0 denote.Hole.Carrier.hidden
related_list all r xs = ap (λ (m : Result (List Value) Refusal). m >>= (λ items. Ok (v.List items))) (rows xs)
  where
    rows : (xs : List Value) → related_to_row all r (block.hidden-the_row-Value-0 xs) ≡ related_to_all all r xs
    rows [] = refl
    rows (x ∷ xs) = ap (with_rest (is_undef x) (related_to all r x)) (rows xs)

-- values, and behind them others, unless there is a refusal
abbrev pub behind : List Value → Result (List Value) Refusal → Result (List Value) Refusal
behind values found = found >>= (λ more. Ok (values ++ more))
