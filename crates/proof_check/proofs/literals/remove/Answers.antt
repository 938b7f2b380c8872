use Rattle.std.proofs.Common.{rules, false}
use Rattle.cnf.specs.contracts.lit.LitPartialEq.TheImpl.{eq-value}
use Rattle.proof_check.proofs.LitLaws.{changed}
use Rattle.proof_check.proofs.literals.remove.Goals as goal

pub returns : goal.returns
returns c = changed eq-value.it (λ x y e. search rules) (λ x. search rules) c.args.lits.now.keys c.swap_remove-there.new.self.keys c.args.lit false (λ x. c.swap_remove-there.ensures.updates.0 x)
