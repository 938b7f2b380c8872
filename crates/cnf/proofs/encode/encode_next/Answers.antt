use Rattle.std.proofs.Common.{true, length, arith}
use Rattle.cnf.proofs.Wires.{encodes_skip, encodes_more, have_variables}
use Rattle.cnf.proofs.encode.encode_next.Goals as goal

pub returns-then-not-needed-lits : goal.returns-then-not-needed-lits
returns-then-not-needed-lits c =
    encodes_skip c.args.circuit.now c.args.needed.now (length c.args.lits.now) c.args.lits.now c.args.cnf.now c.requires.so_far (record { var = 1; positive = true }) c.if-not-needed-lits.true

pub encode_gate-requires-clause-variables : goal.encode_gate-requires-clause-variables
encode_gate-requires-clause-variables c =
    have_variables c.args.needed.now (length c.args.lits.now) c.args.cnf.now.vars c.args.lits.now c.gate-gate.result c.requires.so_far.variables c.gate-gate.ensures.operands
    (c.requires.closed (length c.args.lits.now) c.gate-gate.result (omega arith) c.if-not-needed-lits.false c.gate-gate.ensures.gate)

pub returns : goal.returns
returns c =
    encodes_more c.args.circuit.now c.args.needed.now (length c.args.lits.now) c.args.lits.now c.args.cnf.now c.requires.so_far
    c.encode_gate.new.cnf c.in_ok-lit.lit c.gate-gate.result c.in_ok-lit.ensures c.gate-gate.ensures.value c.gate-gate.ensures.operands c.gate-gate.ensures.place
    (c.requires.closed (length c.args.lits.now) c.gate-gate.result (omega arith) c.if-not-needed-lits.false c.gate-gate.ensures.gate)
