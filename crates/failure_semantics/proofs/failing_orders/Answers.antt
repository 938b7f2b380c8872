use Rattle.failure_semantics.proofs.OrderLaws.{some_fails, order_fails, one_fails, is_last, last_fails}
use Rattle.failure_semantics.proofs.failing_orders.Goals as goal

pub returns : goal.returns
returns c = record {
  exact = λ es order t. ((λ h. some_fails es order t h), (λ f. order_fails es order t f.0 f.1 f.2));
  one = λ es order t i j f g h k. one_fails es order t i j f g h k;
  last = λ es order t i. ((λ f. is_last es order t i f.0 f.1), (λ h. last_fails es order t i h));
}
