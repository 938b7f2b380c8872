use Rattle.std.proofs.Common.{◌+◌, false, sym, subst}
use Rattle.fs_interpreter.proofs.Frames.{grows_on}
use Rattle.sym_run.specs.Bitwise.{BitsSoFar}
use Rattle.sym_run.specs.Wires.{circuit_meanings}
use Rattle.sym_run.proofs.BitLaws.{bits_more}
use Rattle.order_circuit.proofs.allowed.none_taken.Goals as goal

pub returns-in_err-push-clause-grows : goal.returns-in_err-push-clause-grows
returns-in_err-push-clause-grows c = grows_on (circuit_meanings c.args.sym.now) (circuit_meanings c.loop-turn.sym) (circuit_meanings c.constant.new.self) c.loop-turn.invariant.grows c.constant.ensures.grows

pub loop-turn-preserved : goal.loop-turn-preserved
loop-turn-preserved c =
    let before = c.loop-turn.invariant in
    let m0 = circuit_meanings c.args.sym.now in
    let m1 = circuit_meanings c.loop-turn.sym in
    let m2 = circuit_meanings c.constant.new.self in
    let made = c.in_ok-one.ensures.gives in
    record {
      taken = subst (λ xs. BitsSoFar m2 (λ v i. false) (c.loop-turn._turn + 1) xs) (sym c.in_ok-push.ensures.ok) (bits_more m1 m2 (λ v i. false) c.loop-turn._turn c.loop-turn.taken c.in_ok-one.one c.constant.ensures.grows before.taken made.owned made.means);
      grows = grows_on m0 m1 m2 before.grows c.constant.ensures.grows;
    }
