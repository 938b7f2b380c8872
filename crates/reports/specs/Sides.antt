-- Which manifest a refusal speaks of.
use Rattle.rh_base.specs.declared.fault.Refusal.{Refusal}
use Rattle.rh_base.specs.declared.fault.Fault.{Fault}
use Rattle.rh_base.specs.declared.fault.Fault.TheVariants as fault
use Rattle.reports.specs.declared.sides.Side.{Side}
use Rattle.reports.specs.declared.sides.Side.TheVariants as side
use Rattle.reports.specs.declared.sides.Untold.{Untold}
use Rattle.reports.specs.declared.sides.Untold.TheVariants as untold

-- the fault, as one of this manifest
abbrev pub refused_in : Side → Fault → Untold
refused_in s (fault.Refused r) = untold.Refused s r
refused_in s (fault.Memory m) = untold.Memory m

-- a fact of the manifest and the refusal, where there is one
abbrev pub IfUntold : Untold → (Side → Refusal → Type 0) → Type 0
IfUntold (untold.Refused s r) P = P s r
IfUntold (untold.Memory m) P = Unit {0}

-- the refusal speaks of the input
abbrev pub OfInput : (Refusal → Type 0) → Side → Refusal → Type 0
OfInput P side.Input r = P r
OfInput P side.Other r = ⊥
