use Rattle.std.proofs.Common.{◌+◌, ◌∙◌, cond, sym, subst, arith}
use Rattle.fs_interpreter.proofs.Frames.{grows_on}
use Rattle.sym_run.specs.Bitwise.{CodesSoFar, code_at}
use Rattle.sym_run.proofs.BitLaws.{codes_more, codes_done, own_codes_later, chosen_code_at}
use Rattle.sym_run.proofs.bitwise.choose_codes.Goals as goal

pub loop-i-preserved : goal.loop-i-preserved
loop-i-preserved g c =
    let m0 = g.B.Bits.meanings c.args.bits.now in
    let m1 = g.B.Bits.meanings c.loop-i.bits in
    let m2 = g.B.Bits.meanings c.pick.new.self in
    let before = c.loop-i.invariant in
    let w = c.args.when.now in
    let ls = c.args.a.now in
    let bs = c.args.b.now in
    record {
      when = c.pick.ensures.grows.owns w before.when;
      a = own_codes_later m1 m2 ls c.pick.ensures.grows before.a;
      b = own_codes_later m1 m2 bs c.pick.ensures.grows before.b;
      chosen = subst (λ xs. CodesSoFar m2 (λ v i. cond (m0.bit v w) (code_at m0 v ls i) (code_at m0 v bs i)) (c.loop-i.i + 1) xs) (sym c.in_ok-push.ensures.ok)
          (codes_more m1 m2 (λ v i. cond (m0.bit v w) (code_at m0 v ls i) (code_at m0 v bs i)) c.loop-i.i c.loop-i.chosen c.in_ok-code.code c.pick.ensures.grows before.chosen c.in_ok-code.ensures.gives.owned
          (λ v. c.in_ok-code.ensures.gives.means v ∙ chosen_code_at m0 m1 w ls bs c.loop-i.i c.at.result.now c.at-in-loop-i.result.now before.grows c.requires.when c.requires.a c.requires.b c.at.ensures c.at-in-loop-i.ensures v));
      grows = grows_on m0 m1 m2 before.grows c.pick.ensures.grows;
    }

pub returns-clause-chosen : goal.returns-clause-chosen
returns-clause-chosen g c =
    let m0 = g.B.Bits.meanings c.args.bits.now in
    let m1 = g.B.Bits.meanings c.loop-i.bits in
    codes_done m1 m0 (λ v. m0.bit v c.args.when.now) c.args.a.now c.args.b.now c.loop-i.chosen c.loop-i.i c.loop-i.invariant.chosen (omega (arith, c.loop-i-test.false, c.len-i-end.ensures)) (omega (arith, c.loop-i-test.false, c.len-i-end.ensures, c.requires.long))
