use Rattle.std.proofs.Common.{subst}
use Rattle.proof_check.specs.Refuted.{Refutation, HasNoModel}
use Rattle.proof_check.proofs.Chains.{no_model}
use Rattle.proof_check.proofs.steps.Verified.log.Goals as goal

pub returns-clause-no_model : goal.returns-clause-no_model
returns-clause-no_model c = subst (λ (r : Refutation). HasNoModel r.formula) c.self.view_is (no_model c.self.inside.cnf c.self.inside.log.steps c.self.invariant)
