use Rattle.std.proofs.Common.{None}
use Rattle.failure_semantics.proofs.Found.{found, error, told}
use Rattle.failure_semantics.proofs.Once.{once}
use Rattle.failure_semantics.proofs.failures.Goals as goal

pub returns : goal.returns
returns c = record {
  exact = λ e t. ((λ h. found None e t h), (λ f. error None e t f.0 f.1));
  one = λ e t f g h k. once None e t f g h k;
  explained = λ e t f h. (told None e t f tt h).why;
  fails = λ e t f h. (told None e t f tt h).fails;
}
