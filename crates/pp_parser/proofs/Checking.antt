-- What the check of tokens answers.
use Rattle.std.proofs.Common.{◌≡◌, inl, inr, List, Some, None, false, sym}
use Rattle.std.specs.Prelude.{codes}
use Rattle.rh_base.specs.declared.fault.Fault as rh
use Rattle.rh_base.specs.declared.fault.Fault.TheVariants as faults
use Rattle.rh_base.specs.Refused.{IfRefused, IsRefusal}
use Rattle.pp_syntax.specs.Tokens.{Lexeme}
use Rattle.pp_parser.specs.Nested.{at_start}
use Rattle.pp_parser.specs.Scanning.{first_left_out, first_too_deep}
use Rattle.pp_parser.specs.Refusing.{IsCheckRefusal}
use Rattle.pp_parser.proofs.LeftOutLaws.{left_out_found, none_left_out}
use Rattle.pp_parser.proofs.DepthLaws.{too_deep_found}

-- a refusal of code 14 at the first token that is left out is one that the check may answer
pub left_out_refusal : (tokens : List Lexeme) (t : Lexeme) (f : rh.Fault) → Some t ≡ first_left_out false tokens → IfRefused f (λ r. IsRefusal 14 t.at t.text r) → IfRefused f (IsCheckRefusal tokens)
left_out_refusal tokens t (faults.Refused r) h is = inl (record { token = t; first = left_out_found tokens t (sym h); refusal = is })
left_out_refusal tokens t (faults.Memory m) h is = tt

-- so is one of code 13 at the first token that is too deep, where none is left out
pub depth_refusal : (tokens : List Lexeme) (t : Lexeme) (f : rh.Fault) → None ≡ first_left_out false tokens → Some t ≡ first_too_deep at_start tokens → IfRefused f (λ r. IsRefusal 13 t.at (codes "nesting") r) → IfRefused f (IsCheckRefusal tokens)
depth_refusal tokens t (faults.Refused r) none h is = inr (record { all_in = none_left_out tokens (sym none); token = t; first = too_deep_found tokens t (sym h); refusal = is })
depth_refusal tokens t (faults.Memory m) none h is = tt
