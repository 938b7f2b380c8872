-- A text whose end alone is too large is too large.
use Rattle.std.proofs.Common.{◌≡◌, ℕ, ◌+◌, Bool, true, false, ◌||◌, List, ◌++◌, length, cond, ap, sym, subst, arith}
use Rattle.std.specs.Prelude.{nat_lt, Some, None, Result, Ok, Err}
use Rattle.std.proofs.lemmas.List.{length-append}
use Rattle.std.proofs.lemmas.Bool.{ltb-true, lt-ltb}
use Rattle.rh_base.specs.declared.limits.TheConstants.{VALUE_SIZE}
use Rattle.pp_value.specs.declared.value.Value.{Value}
use Rattle.pp_value.specs.declared.value.Value.TheVariants as v
use Rattle.pp_value.specs.declared.fault.Misfit.{Misfit}
use Rattle.pp_value.specs.declared.fault.Misfit.TheVariants.{Operand}
use Rattle.pp_value.specs.Values.{has_opaque}
use Rattle.pp_value.specs.Shown.{show_table, shown, is_long_text}
use Rattle.pp_eval.specs.Evaluating.{◌>>=◌, if_there, too_large}
use Rattle.pp_eval.specs.Evaluation.{longer, limited_text}

-- a text is too large where what is put behind it is
is_over : (text more : List ℕ) → is_long_text more ≡ true → nat_lt VALUE_SIZE (1 + length (text ++ more)) ≡ true
is_over text more long =
    let sum = length-append text more in
    let large = ltb-true VALUE_SIZE (1 + length more) long in
    lt-ltb VALUE_SIZE (1 + length (text ++ more)) (omega arith)

-- a member that alone is too large makes the text too large
pub too_long : (whole at : ℕ) (text : List ℕ) (x : Value) (more : List ℕ) → show_table x ≡ Ok more → is_long_text more ≡ true → longer whole text at x ≡ Err (too_large whole)
too_long whole at text x more h large = by_test (has_opaque x) h
  where
    by_test : (b : Bool) → ◌≡◌ {A = Result (List ℕ) Misfit} (cond b (Err Operand) (Ok (shown x))) (Ok more) → (if_there at (cond b None (Some (shown x))) >>= λ m. limited_text whole (text ++ m)) ≡ Err (too_large whole)
    by_test true h = cc
    by_test false h = let same : shown x ≡ more = cc in
        ap (λ (b : Bool). cond (b || false) (Err (too_large whole)) (Ok (v.Str (text ++ shown x))) >>= λ y. Ok (text ++ shown x))
        (is_over text (shown x) (subst (λ (m : List ℕ). is_long_text m ≡ true) (sym same) large))
