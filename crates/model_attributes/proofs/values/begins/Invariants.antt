use Rattle.std.proofs.Common.{◌≡◌, length}
use Rattle.pp_value.specs.Texts.{begins}
use Rattle.model_attributes.proofs.values.begins.Given as goal

abbrev pub invariant-loop-x : goal.invariant-loop-x
invariant-loop-x l = begins l.front l.rest ≡ begins l.fn.front l.text

abbrev pub decreases-loop-x : goal.decreases-loop-x
decreases-loop-x l = length l.front
