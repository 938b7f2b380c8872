-- The place where two orders part.
use Rattle.std.specs.Prelude.{◌≡◌, List, length}
use Rattle.bool_circuit.specs.declared.gate.Gate.{Gate}
use Rattle.fs_interpreter.specs.Places.{Listed}
use Rattle.fs_interpreter.specs.States.{AreCells}
use Rattle.sym_run.specs.Wires.{AreWires, circuit_meanings}
use Rattle.order_encode.specs.declared.fork.Fork.{Fork}

-- The codes of the two nodes are of wires of the circuit, and so are the cells, one for each path of the table.
pub record IsFork (gates : List Gate) (table : Listed) (f : Fork) : Type 0 where
  pub first : AreWires gates f.first.now
  pub second : AreWires gates f.second.now
  pub cells : AreCells (circuit_meanings gates) f.cells.now
  pub places : length f.cells.now.present ≡ length table.paths
