use Rattle.std.proofs.Common.{◌≡◌, [], take, drop}
use Rattle.model_semantics.specs.Attributes.{misfit_behind}
use Rattle.model_attributes.proofs.fitting.misfit.Given as goal

-- behind those that are accepted
abbrev pub invariant-loop-i : goal.invariant-loop-i
invariant-loop-i l = misfit_behind l.k l.e (take l.i l.attrs) (drop l.i l.attrs) ≡ misfit_behind l.k l.e [] l.attrs
