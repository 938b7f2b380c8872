-- The faults of operations that take no memory, among those of the others.
use Rattle.pp_value.specs.declared.fault.Misfit.{Misfit}
use Rattle.pp_value.specs.declared.fault.Misfit.TheVariants as misfit
use Rattle.pp_value.specs.declared.fault.ValueFault.{ValueFault}
use Rattle.pp_value.specs.declared.fault.ValueFault.TheVariants as fault

abbrev pub as_fault : Misfit → ValueFault
as_fault misfit.Operand = fault.Operand
as_fault misfit.Range = fault.Range
