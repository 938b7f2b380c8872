use Rattle.std.proofs.Common.{sym, ◌∙◌}
use Rattle.pp_eval.proofs.NameLaws.{no_colon}
use Rattle.pp_eval.proofs.names.variable_in.Goals as goal

pub returns : goal.returns
returns c = sym (no_colon _ c.in_default.ensures) ∙ c.loop-tail.invariant.is
