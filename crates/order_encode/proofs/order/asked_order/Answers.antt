use Rattle.std.proofs.Common.{ap, subst₂}
use Rattle.order_encode.specs.Asking.{IsAsking}
use Rattle.order_encode.specs.Plans.{Planned}
use Rattle.order_encode.proofs.order.asked_order.Goals as goal

pub returns-clause-asks : goal.returns-clause-asks
returns-clause-asks c =
    let domain_is = ap (λ (p : Planned). p.domain) c.plan.view_is in
    record {
      before = c.order_inputs.new.sym;
      asking = subst₂ (λ d n. IsAsking c.order_inputs.new.sym d n c.in_ok-asking.asking) domain_is c.count.ensures.count c.in_ok-asking.ensures.asking;
      grows = c.goal_of_order.ensures.grows;
      exact = c.in_ok-asked.ensures.exact;
    }
