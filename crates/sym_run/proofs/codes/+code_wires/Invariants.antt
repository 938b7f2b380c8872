use Rattle.sym_run.proofs.codes.+code_wires.Given as goal

abbrev pub decreases-code_wires : goal.decreases-code_wires
decreases-code_wires l = l.n
