use Rattle.std.proofs.Common.{List, subst, sym}
use Rattle.cnf.specs.declared.lit.Lit.{Lit}
use Rattle.cnf.specs.Defining.{Encodes}
use Rattle.cnf.proofs.Wires.{encodes_none}
use Rattle.cnf.proofs.encode.encode.Goals as goal

pub loop-turn-init : goal.loop-turn-init
loop-turn-init c =
    subst (λ (lits : List Lit). Encodes c.args.circuit.now c.args.needed.now 0 lits c.args.cnf.now) (sym c.new-lits.ensures.items)
    (encodes_none c.args.circuit.now c.args.needed.now c.args.cnf.now c.requires.start)
