use Rattle.sym_run.proofs.inputs.+width_for.Given as goal

abbrev pub decreases-width_for : goal.decreases-width_for
decreases-width_for l = l.m
