use Rattle.std.specs.Prelude.{if◌then◌else◌}
use Rattle.fs_interpreter.specs.Meanings.{Grows}
use Rattle.sym_run.specs.Bitwise.{AreOwnCodes, CodesSoFar, code_at}
use Rattle.sym_run.proofs.bitwise.choose_codes.Given as goal

-- the codes of the places so far are chosen
abbrev pub invariant-loop-i : goal.invariant-loop-i
invariant-loop-i g l =
    let m = g.B.Bits.meanings l.bits in
    let m0 = g.B.Bits.meanings l.fn.bits in
    record {
      when : m.owns l.when;
      a : AreOwnCodes m l.a;
      b : AreOwnCodes m l.b;
      chosen : CodesSoFar m (λ v i. if m0.bit v l.when then code_at m0 v l.a i else code_at m0 v l.b i) l.i l.chosen;
      grows : Grows m0 m;
    }
