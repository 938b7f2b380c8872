-- What an operator makes of the values of its operands.
use Rattle.std.specs.Prelude.{Bool, true, false, not, Option, Some, None, Result, Ok, Err}
use Rattle.pp_syntax.specs.declared.tree.Op.{Op}
use Rattle.pp_syntax.specs.declared.tree.Op.TheVariants as op
use Rattle.pp_value.specs.declared.value.Value.{Value}
use Rattle.pp_value.specs.declared.value.Value.TheVariants as v
use Rattle.pp_value.specs.declared.fault.Misfit.{Misfit}
use Rattle.pp_value.specs.declared.fault.Misfit.TheVariants.{Operand}
use Rattle.pp_value.specs.Table.{equal_table, less_table, within_table, add_table, subtract_table, multiply_table}

-- a truth value as it is, or turned round
abbrev pub as_value : Result Bool Misfit → Result Value Misfit
as_value (Ok b) = Ok (v.Bool b)
as_value (Err m) = Err m

abbrev pub turned : Result Bool Misfit → Result Value Misfit
turned (Ok b) = Ok (v.Bool (not b))
turned (Err m) = Err m

-- an operator between two operands whose values both count; `and`, `or` and `!` are none
abbrev pub operation : Op → Value → Value → Result Value Misfit
operation op.Less a b = as_value (less_table a b)
operation op.Greater a b = as_value (less_table b a)
operation op.AtMost a b = turned (less_table b a)
operation op.AtLeast a b = turned (less_table a b)
operation op.Same a b = as_value (equal_table a b)
operation op.NotSame a b = turned (equal_table a b)
operation op.Plus a b = add_table a b
operation op.Minus a b = subtract_table a b
operation op.Times a b = multiply_table a b
operation op.In a b = as_value (within_table a b)
operation op.Or a b = Err Operand
operation op.And a b = Err Operand
operation op.Not a b = Err Operand

-- `undef` and `false` are false, every other value is true, the empty text too; an opaque value has no truth
abbrev pub truth_of : Value → Option Bool
truth_of v.Undef = Some false
truth_of (v.Bool b) = Some b
truth_of (v.Int n) = Some true
truth_of (v.Str text) = Some true
truth_of (v.List' shape row) = Some true
truth_of (v.Map' shape row) = Some true
truth_of (v.Refer r) = Some true
truth_of v.Opaque = None
