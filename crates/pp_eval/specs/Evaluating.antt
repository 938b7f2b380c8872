-- What an expression gives: a value, or one refusal at one place.
use Rattle.std.specs.Prelude.{◌≡◌, ℕ, if◌then◌else◌, List, ◌∷◌, codes, Option, Some, None, Result, Ok, Err}
use Rattle.rh_base.specs.declared.fault.Fault.{Fault}
use Rattle.rh_base.specs.declared.fault.Fault.TheVariants as fault
use Rattle.rh_base.specs.declared.fault.Refusal.{Refusal}
use Rattle.pp_value.specs.declared.value.Value.{Value}
use Rattle.pp_value.specs.declared.fault.Misfit.{Misfit}
use Rattle.pp_value.specs.declared.fault.Misfit.TheVariants.{Operand, Range}
use Rattle.pp_value.specs.Values.{exceeds_limits}

-- a value, or one refusal
abbrev pub Evaluation : Type 0
Evaluation = Result Value Refusal

-- an expression that was evaluated: its place, and what it gives
pub record Evaluated : Type 0 where
  pub at : ℕ
  pub gives : Evaluation

-- What follows is made of a result; a refusal ends it.
infixl 10 ◌>>=◌
abbrev pub ◌>>=◌ : {A B : Type 0} → Result A Refusal → (A → Result B Refusal) → Result B Refusal
(Ok x) >>= f = f x
(Err r) >>= f = Err r

-- ---- the refusals at a place

-- a refusal by its number, its place and its name
abbrev pub refusal : ℕ → ℕ → List ℕ → Refusal
refusal number at name = record { number = number; at = at; name = name }

-- a variable has no binding
abbrev pub unbound : ℕ → List ℕ → Refusal
unbound at name = refusal 20 at (36 ∷ name)

-- the scope has a binding of the variable already
abbrev pub bound_again : ℕ → List ℕ → Refusal
bound_again at name = refusal 21 at (36 ∷ name)

-- no option of a selector is equal
abbrev pub no_option : ℕ → Refusal
no_option at = refusal 28 at (codes "selector")

-- the tables name no result
abbrev pub no_result : ℕ → Refusal
no_result at = refusal 29 at (codes "operand")

-- the value exceeds the limits
abbrev pub too_large : ℕ → Refusal
too_large at = refusal 32 at (codes "value")

-- a whole number leaves 64 bits
abbrev pub out_of_range : ℕ → Refusal
out_of_range at = refusal 33 at (codes "integer")

-- ---- what is made at a place

-- a value, unless it exceeds the limits
abbrev pub limited : ℕ → Value → Evaluation
limited at x = if exceeds_limits x then Err (too_large at) else Ok x

-- what a table names
abbrev pub evaluation_at : ℕ → Result Value Misfit → Evaluation
evaluation_at at (Ok x) = Ok x
evaluation_at at (Err Operand) = Err (no_result at)
evaluation_at at (Err Range) = Err (out_of_range at)

-- what a table names, unless it exceeds the limits
abbrev pub made : ℕ → Result Value Misfit → Evaluation
made at (Ok x) = limited at x
made at (Err Operand) = Err (no_result at)
made at (Err Range) = Err (out_of_range at)

-- what is there, or no result
abbrev pub if_there : {X : Type 0} → ℕ → Option X → Result X Refusal
if_there at (Some x) = Ok x
if_there at None = Err (no_result at)

-- ---- what a call answers

-- The refusal that is due. Memory may always be refused.
abbrev pub Refuses : {Y : Type 0} → Result Y Refusal → Fault → Type 0
Refuses evaluation (fault.Refused r) = evaluation ≡ Err r
Refuses evaluation (fault.Memory m) = Unit {0}

-- Where a value or a refusal is due, a call answers with just that.
abbrev pub AnswersBy : {X Y : Type 0} → (X → Y) → Result Y Refusal → Result X Fault → Type 0
AnswersBy view evaluation (Ok x) = evaluation ≡ Ok (view x)
AnswersBy view evaluation (Err e) = Refuses evaluation e

-- the value that is due, or the refusal
abbrev pub Answers : Evaluation → Result Value Fault → Type 0
Answers evaluation answer = AnswersBy (λ x. x) evaluation answer
