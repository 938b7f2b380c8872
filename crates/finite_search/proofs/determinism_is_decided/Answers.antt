use Rattle.finite_search.proofs.Determinism.{determinism_decided}
use Rattle.finite_search.proofs.determinism_is_decided.Goals as goal

pub returns : goal.returns
returns c = record { decided = determinism_decided c.domains.ensures.exist c.trees_over_the_domain.ensures.deterministic }
