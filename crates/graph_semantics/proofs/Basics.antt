-- Truth values and what is found.
use Rattle.std.proofs.Common.{◌≡◌, true, false, ◌&&◌}
use Rattle.std.specs.Prelude.{Result, Ok, Err}
use Rattle.rh_base.specs.declared.fault.Refusal.{Refusal}

-- false isn't true
pub no_way : false ≡ true → ⊥
no_way h = cc

-- a refusal isn't a result
pub err_ok : {X : Type 0} (r : Refusal) (x : X) → ◌≡◌ {A = Result X Refusal} (Err r) (Ok x) → ⊥
err_ok r x h = cc

-- equal results are equal
pub ok_same : {X : Type 0} (x y : X) → ◌≡◌ {A = Result X Refusal} (Ok x) (Ok y) → x ≡ y
ok_same x y h = cc
