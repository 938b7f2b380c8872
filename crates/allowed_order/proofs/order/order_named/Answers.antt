use Rattle.std.proofs.Common.{◌≡◌, Bool, true, false, sym, ◌∙◌}
use Rattle.orders.specs.Relation.{Comes}
use Rattle.allowed_order.proofs.OrderLaws.{found_none, found_allowed, found_free}
use Rattle.allowed_order.proofs.order.order_named.Goals as goal

pub returns-in_default : goal.returns-in_default
returns-in_default c = found_none c.args.catalog.now c.args.plain.now (Comes c.args.order.now) c.args.texts.now c.in_ok-positions.field-0 c.in_ok-positions.ensures c.in_default.is

pub returns-then-branch : goal.returns-then-branch
returns-then-branch c =
    found_allowed c.args.catalog.now c.args.plain.now (Comes c.args.order.now) c.args.texts.now c.args.order.now.count c.in_ok-positions.field-0 c.in-Some.positions c.as_slice.result.now
    c.requires c.in_ok-positions.ensures c.in-Some.is c.as_slice.ensures (c.in_ok-is_allowed.ensures.0 c.if-branch.true)

pub returns-else-branch : goal.returns-else-branch
returns-else-branch c =
    found_free c.args.catalog.now c.args.plain.now (Comes c.args.order.now) c.args.texts.now c.args.order.now.count c.in_ok-positions.field-0 c.in-Some.positions c.as_slice.result.now
    c.requires c.in_ok-positions.ensures c.in-Some.is c.as_slice.ensures
    (λ h. let clash : ◌≡◌ {A = Bool} false true = sym c.if-branch.false ∙ c.in_ok-is_allowed.ensures.1 h in cc)
