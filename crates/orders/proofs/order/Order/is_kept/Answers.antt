use Rattle.std.proofs.Common.{sym, ◌∙◌}
use Rattle.std.proofs.lemmas.Bool.{false≢true}
use Rattle.std.proofs.lemmas.List.{take_rest}
use Rattle.orders.specs.Relation.{Comes}
use Rattle.orders.proofs.Lists.{kept_at}
use Rattle.orders.proofs.order.Order.is_kept.Goals as goal

pub returns-then-not-none_before : goal.returns-then-not-none_before
returns-then-not-none_before c = (
  λ f. absurd (false≢true f),
  λ h.
      absurd (false≢true (sym c.if-not-none_before.true ∙ c.none_before.ensures.1 (rw take_rest (kept_at (Comes c.args.self.now) c.args.list.now c.loop-k.k h c.loop-k-test.true)))),
)
