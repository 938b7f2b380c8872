use Rattle.std.proofs.Common.{◌≡◌, ◌++◌, take}
use Rattle.std.specs.List.{flat_map}
use Rattle.pp_print.specs.Expressions.{operator}
use Rattle.pp_print.proofs.expression.operators.Given as goal

abbrev pub invariant-loop-op : goal.invariant-loop-op
invariant-loop-op l = l.words ≡ l.initial.words ++ flat_map operator (take l.op-index l.ops)
