-- A circuit that grows, and grows on, has grown; and what cells stand for stays.
use Rattle.std.proofs.Common.{List, subst, sym}
use Rattle.bool_circuit.specs.declared.gate.Wire.{Wire}
use Rattle.bool_circuit.specs.declared.gate.Gate.{Gate}
use Rattle.fs_semantics.specs.Programs.{Outcome}
use Rattle.fs_interpreter.specs.Meanings.{Valuation, Meanings, Grows}
use Rattle.fs_interpreter.specs.Places.{Listed}
use Rattle.fs_interpreter.specs.States.{State, AreCells, state_of}
use Rattle.fs_interpreter.specs.Standing.{StandsFor}
use Rattle.fs_interpreter.specs.declared.cells.Cells.{Cells}
use Rattle.fs_interpreter.proofs.Frames.{grows_on, cells_stay, state_keeps}
use Rattle.sym_run.specs.Wires.{circuit_meanings}
use Rattle.order_encode.specs.declared.fork.Fork.{Fork}
use Rattle.order_encode.specs.Forks.{IsFork}

infixl 10 ◌>>◌
-- what grows twice has grown
pub ◌>>◌ : {l m n : Meanings Wire (List Wire)} → Grows l m → Grows m n → Grows l n
◌>>◌ {l} {m} {n} g h = grows_on l m n g h

-- what cells stand for they stand for as bits grow
pub still_stands : {B : Type 0} {m n : Meanings Wire (List Wire)} {cells : Cells B Wire (List Wire)} (table : Listed) (o : Outcome) → Grows m n → AreCells m cells
    → (v : Valuation) → StandsFor table (state_of m v cells) o → StandsFor table (state_of n v cells) o
still_stands {m = m} {n = n} {cells = cells} table o g are v h = subst (λ (s : State). StandsFor table s o) (sym (state_keeps m n cells g are v)) h

-- a fork is one as the circuit grows
pub fork_stays : {old new : List Gate} {table : Listed} {f : Fork} → Grows (circuit_meanings old) (circuit_meanings new) → IsFork old table f → IsFork new table f
fork_stays {f = f} g is = record { first = g.owns_code f.first.now is.first; second = g.owns_code f.second.now is.second; cells = cells_stay _ _ _ g is.cells; places = is.places }
