use Rattle.std.proofs.Common.{◌+◌}
use Rattle.rehearsal_core.proofs.ProofLaws.{broken, NoProof, HasFirstBad, first_is_refused}
use Rattle.rehearsal_core.proofs.checking.check_all.Goals as goal

pub returns-in-Err-clause-bad : goal.returns-in-Err-clause-bad
returns-in-Err-clause-bad c =
    broken c.in-Err.fault (NoProof c.in-Some.cnf c.in-Some.log (c.loop-cnf.number + 1)) (HasFirstBad c.args.proofs.items)
    (λ r bad. first_is_refused c.args.proofs.items c.loop-cnf.yielded (c.in-Some.cnf, c.in-Some.log) c.next.new.self.rest.items c.loop-cnf.cnf-iterator.rest.items
    c.loop-cnf.number r c.loop-cnf.invariant.2 c.in-Some.ensures.steps.0 c.loop-cnf.invariant.3 c.loop-cnf.invariant.4 bad)
    c.in-Err.ensures.bad
