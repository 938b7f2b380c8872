use Rattle.std.specs.Prelude.{if◌then◌else◌}
use Rattle.fs_interpreter.specs.Meanings.{Grows}
use Rattle.sym_run.specs.Bitwise.{AreOwnBits, BitsSoFar, bit_at}
use Rattle.sym_run.proofs.bitwise.choose_bits.Given as goal

-- the bits of the places so far are chosen
abbrev pub invariant-loop-i : goal.invariant-loop-i
invariant-loop-i g l =
    let m = g.B.Bits.meanings l.bits in
    let m0 = g.B.Bits.meanings l.fn.bits in
    record {
      when : m.owns l.when;
      a : AreOwnBits m l.a;
      b : AreOwnBits m l.b;
      chosen : BitsSoFar m (λ v i. if m0.bit v l.when then bit_at m0 v l.a i else bit_at m0 v l.b i) l.i l.chosen;
      grows : Grows m0 m;
    }
