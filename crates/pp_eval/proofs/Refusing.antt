-- Refusals by their number, place and name.
use Rattle.std.proofs.Common.{◌≡◌, ℕ, List}
use Rattle.rh_base.specs.declared.fault.Fault.{Fault}
use Rattle.rh_base.specs.declared.fault.Fault.TheVariants as fault
use Rattle.rh_base.specs.Refused.{IfRefused, IsRefusal}
use Rattle.pp_eval.specs.Evaluating.{refusal}

-- a refusal of this number, place and name is just that one
pub is_refusal : (e : Fault) (number at : ℕ) (name : List ℕ) → IfRefused e (IsRefusal number at name) → IfRefused e (λ r. r ≡ refusal number at name)
is_refusal (fault.Refused r) number at name h = λ i. record { number = h.number_is i; at = h.at_is i; name = h.name_is i }
is_refusal (fault.Memory m) number at name h = tt
