-- What an expression lends of what is bound.
use Rattle.std.specs.Prelude.{◌≡◌, Result, Ok, Err}
use Rattle.rh_base.specs.declared.fault.Fault.{Fault}
use Rattle.pp_value.specs.declared.value.Value.TheVariants as v
use Rattle.pp_eval.specs.declared.lent.Lent.{Lent}
use Rattle.pp_eval.specs.declared.lent.Lent.TheVariants as lent
use Rattle.pp_eval.specs.Evaluating.{Evaluation, Refuses}

-- What is lent is the value that is due, or the refusal that is due is answered. Where nothing is lent, nothing is said of it.
abbrev pub Lends : Evaluation → Result Lent Fault → Type 0
Lends evaluation (Ok lent.Nothing) = Unit {0}
Lends evaluation (Ok lent.Undef) = evaluation ≡ Ok v.Undef
Lends evaluation (Ok (lent.Found x)) = evaluation ≡ Ok x.now
Lends evaluation (Err e) = Refuses evaluation e
