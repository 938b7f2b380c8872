use Rattle.std.proofs.Common.{◌+◌, ◌∙◌, cond, sym, subst, arith}
use Rattle.fs_interpreter.proofs.Frames.{grows_on}
use Rattle.sym_run.specs.Bitwise.{BitsSoFar, bit_at}
use Rattle.sym_run.proofs.BitLaws.{bits_more, bits_done, own_later, chosen_at}
use Rattle.sym_run.proofs.bitwise.choose_bits.Goals as goal

pub loop-i-preserved : goal.loop-i-preserved
loop-i-preserved g c =
    let m0 = g.B.Bits.meanings c.args.bits.now in
    let m1 = g.B.Bits.meanings c.loop-i.bits in
    let m2 = g.B.Bits.meanings c.mux.new.self in
    let before = c.loop-i.invariant in
    let w = c.args.when.now in
    let ls = c.args.a.now in
    let bs = c.args.b.now in
    record {
      when = c.mux.ensures.grows.owns w before.when;
      a = own_later m1 m2 ls c.mux.ensures.grows before.a;
      b = own_later m1 m2 bs c.mux.ensures.grows before.b;
      chosen = subst (λ xs. BitsSoFar m2 (λ v i. cond (m0.bit v w) (bit_at m0 v ls i) (bit_at m0 v bs i)) (c.loop-i.i + 1) xs) (sym c.in_ok-push.ensures.ok)
          (bits_more m1 m2 (λ v i. cond (m0.bit v w) (bit_at m0 v ls i) (bit_at m0 v bs i)) c.loop-i.i c.loop-i.chosen c.in_ok-bit.bit c.mux.ensures.grows before.chosen c.in_ok-bit.ensures.gives.owned
          (λ v. c.in_ok-bit.ensures.gives.means v ∙ chosen_at m0 m1 w ls bs c.loop-i.i c.at.result.now c.at-in-loop-i.result.now before.grows c.requires.when c.requires.a c.requires.b c.at.ensures c.at-in-loop-i.ensures v));
      grows = grows_on m0 m1 m2 before.grows c.mux.ensures.grows;
    }

pub returns-clause-chosen : goal.returns-clause-chosen
returns-clause-chosen g c =
    let m0 = g.B.Bits.meanings c.args.bits.now in
    let m1 = g.B.Bits.meanings c.loop-i.bits in
    bits_done m1 m0 (λ v. m0.bit v c.args.when.now) c.args.a.now c.args.b.now c.loop-i.chosen c.loop-i.i c.loop-i.invariant.chosen (omega (arith, c.loop-i-test.false, c.len-i-end.ensures)) (omega (arith, c.loop-i-test.false, c.len-i-end.ensures, c.requires.long))
