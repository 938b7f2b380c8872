-- What is found in values.
use Rattle.std.proofs.Common.{refl, ap}
use Rattle.std.specs.Prelude.{◌≡◌, ℕ, Bool, true, false, List, [], ◌∷◌, ◌++◌, Option, Some, None, option_map, option_and_then, Result, Ok}
use Rattle.rh_base.specs.declared.fault.Refusal.{Refusal}
use Rattle.pp_eval.specs.Evaluating.{◌>>=◌}
use Rattle.pp_value.specs.declared.value.Ref.{Ref}
use Rattle.pp_value.specs.declared.value.Value.{Value}
use Rattle.pp_value.specs.declared.value.Value.TheVariants as v
use Rattle.pp_value.specs.declared.value.Value.TheBlock as block
use Rattle.catalog_semantics.specs.Attributes.{references_in}
use Rattle.catalog_semantics.specs.Functions.{Argument, shown_arguments, spaced}

-- Where something is found it is appended, and else nothing is said of the list.
abbrev pub Appends : {X : Type 0} → Option (List X) → List X → List X → Bool → Type 0
Appends found old new true = option_map (λ more. old ++ more) found ≡ Some new
Appends found old new false = found ≡ None

-- references, and those that are found behind them
abbrev pub refs_behind : List Ref → Result (List Ref) Refusal → Result (List Ref) Refusal
refs_behind refs found = do
  more ← found
  Ok (refs ++ more)

abbrev pub references_in_all : List Value → Option (List Ref)
references_in_all [] = Some []
references_in_all (x ∷ xs) = option_and_then (λ first. option_map (λ more. first ++ more) (references_in_all xs)) (references_in x)

pub references_in_list : (xs : List Value) → references_in (v.List xs) ≡ references_in_all xs
unfolding block.hidden-the_row-Value-0 denote.Hole.Carrier.hidden
references_in_list [] = refl
references_in_list (x ∷ xs) = ap
    (λ rest. option_and_then (λ first. option_map (λ more. first ++ more) rest) (references_in x))
    (references_in_list xs)

-- the text of a failure: the shown arguments, with a space between them
abbrev pub failure_of : List Argument → Result (List ℕ) Refusal
failure_of xs = do
  texts ← shown_arguments xs
  Ok (spaced texts)
