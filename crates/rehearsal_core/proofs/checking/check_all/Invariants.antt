use Rattle.std.proofs.Common.{◌≡◌, map, ◌++◌, length}
use Rattle.std.specs.List.{AllByRecursion}
use Rattle.proof_check.specs.Refuted.{refutation}
use Rattle.rehearsal_core.specs.Verified.{IsRefuted}
use Rattle.rehearsal_core.proofs.checking.check_all.Given as goal

-- the proofs so far are right, and were counted
abbrev pub invariant-loop-cnf : goal.invariant-loop-cnf
invariant-loop-cnf l =
    (goal.iterator-loop-cnf).can_next l.cnf-iterator ×
    (goal.iterator-loop-cnf).is_finite l.cnf-iterator ×
    (l.fn.proofs.items ≡ l.yielded ++ l.cnf-iterator.rest.items) ×
    AllByRecursion IsRefuted (map refutation l.yielded) ×
    (l.number ≡ length l.yielded)
