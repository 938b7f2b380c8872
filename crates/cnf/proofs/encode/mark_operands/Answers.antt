use Rattle.cnf.proofs.Wires.{needed_mark}
use Rattle.cnf.proofs.encode.mark_operands.Goals as goal

pub returns-then-needed-w-clause-closed : goal.returns-then-needed-w-clause-closed
returns-then-needed-w-clause-closed c =
    needed_mark c.args.circuit.now c.args.needed.now c.mark.new.needed c.args.w c.gate.result c.requires.closed c.gate.ensures.gate c.mark.ensures.marked c.mark.ensures.more
    (λ w low. c.mark.ensures.above c.args.w w c.gate.ensures.operands low)
