use Rattle.failure_semantics.proofs.ReasonLaws.{place_lacks, removal_lacks, copy_lacks}
use Rattle.failure_semantics.proofs.reasons.Goals as goal

pub returns : goal.returns
returns c = record {
  place = λ p x t h. place_lacks t p x h;
  removal = λ p t h. removal_lacks t p h;
  copy = λ from p t h. copy_lacks t from p h;
}
