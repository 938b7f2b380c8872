-- Whole numbers of 64 bits with a sign.
use Rattle.std.proofs.Common.{◌≡◌, ℤ, pos, negsuc, Bool, true, false, cond, Result, Ok, Err, ap, ◌∙◌, sym, subst}
use Rattle.std.specs.Prelude.{FitsSigned, Option, Some, None, SomeIff}
use Rattle.std.specs.Int.{w64}
use Rattle.std.proofs.lemmas.Bool.Decides.{Decides-ltb}
use Rattle.pp_value.specs.declared.value.Value.{Value}
use Rattle.pp_value.specs.declared.value.Value.TheVariants as v
use Rattle.pp_value.specs.declared.fault.Misfit.{Misfit}
use Rattle.pp_value.specs.declared.fault.Misfit.TheVariants.{Range}
use Rattle.pp_value.specs.Table.{number, fits_word}
use Rattle.std.proofs.lemmas.Bool.{false_from_ne_true}

-- a number of 64 bits with a sign passes the test
fits_test : (z : ℤ) → FitsSigned w64 z → fits_word z ≡ true
fits_test (pos n) h = (Decides-ltb n 0x8000_0000_0000_0000).1 h.sfits
fits_test (negsuc n) h = (Decides-ltb n 0x8000_0000_0000_0000).1 h.sfits

-- a number that doesn't fit fails the test
leaves_test : (z : ℤ) → (FitsSigned w64 z → ⊥) → fits_word z ≡ false
leaves_test (pos n) h = false_from_ne_true _ (λ e. h (record { sfits = (Decides-ltb n 0x8000_0000_0000_0000).0 e }))
leaves_test (negsuc n) h = false_from_ne_true _ (λ e. h (record { sfits = (Decides-ltb n 0x8000_0000_0000_0000).0 e }))

-- a number where it fits, and else the refusal of its range
abbrev choice : ℤ → Bool → Result Value Misfit
choice z b = cond b (Ok (v.Int z)) (Err Range)

-- a result that is there is the number, and fits
some_case : (n z : ℤ) → SomeIff (Some n) (FitsSigned w64 z) z → number z ≡ Ok (v.Int n)
some_case n z h = ap (choice z) (fits_test z h.0) ∙ ap (λ m. Ok (v.Int m)) (sym h.1)

-- the same of a result that is named
pub of_some : (o : Option ℤ) (n z : ℤ) → o ≡ Some n → SomeIff o (FitsSigned w64 z) z → number z ≡ Ok (v.Int n)
of_some o n z e h = some_case n z (let P : Option ℤ → Type 0 = λ p. SomeIff p (FitsSigned w64 z) z in subst P e h)

-- where there is no result the number leaves 64 bits
none_case : (z : ℤ) → SomeIff None (FitsSigned w64 z) z → number z ≡ Err Range
none_case z h = ap (choice z) (leaves_test z h)

-- the same of a result that is named
pub of_none : (o : Option ℤ) (z : ℤ) → o ≡ None → SomeIff o (FitsSigned w64 z) z → number z ≡ Err Range
of_none o z e h = none_case z (let P : Option ℤ → Type 0 = λ p. SomeIff p (FitsSigned w64 z) z in subst P e h)
