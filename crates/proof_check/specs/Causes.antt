-- Facts of the causes that a check carries.
use Rattle.std.specs.Prelude.{◌≡◌, ℕ}
use Rattle.proof_check.specs.declared.fault.Cause.{Cause as ACause}
use Rattle.proof_check.specs.declared.fault.StepFault.{StepFault}
use Rattle.proof_check.specs.declared.fault.StepFault.TheVariants as step
use Rattle.proof_check.specs.declared.fault.CheckFault.{CheckFault}
use Rattle.proof_check.specs.declared.fault.CheckFault.TheVariants as fault

-- a fact of the cause, if it is no want of memory
abbrev pub IfCause : StepFault → (ACause → Type 0) → Type 0
IfCause (step.Cause cause) P = P cause
IfCause (step.Memory m) P = Unit {0}

-- a fact of the step and its cause, if it is no want of memory
abbrev pub IfBad : CheckFault → (ℕ → ACause → Type 0) → Type 0
IfBad (fault.Bad bad) P = P bad.step bad.cause
IfBad (fault.Memory m) P = Unit {0}

-- the fault of a step with its number
abbrev pub IsLocated : ℕ → StepFault → CheckFault → Type 0
IsLocated n (step.Cause cause) f = f ≡ fault.Bad (record { step = n; cause = cause })
IsLocated n (step.Memory m) f = f ≡ fault.Memory m
