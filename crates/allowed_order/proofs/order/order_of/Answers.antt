use Rattle.std.proofs.lemmas.Result.{err_from_is_err_and}
use Rattle.orders.specs.Relation.{Comes}
use Rattle.allowed_order.proofs.OrderLaws.{no_text, only_of, none_of}
use Rattle.allowed_order.proofs.order.order_of.Goals as goal

pub returns-in_err-texts-clause-refused : goal.returns-in_err-texts-clause-refused
returns-in_err-texts-clause-refused c =
    let p = err_from_is_err_and c.from_residual.result c.from_residual.ensures.1 in
    rw (p.1, p.2) (no_text c.args.catalog.now c.args.plain.now (Comes c.args.order.now) c.args.bytes.now c.in_err-texts.field-0.0 c.in_err-texts.ensures.refused)

pub returns-in-Some-clause-only : goal.returns-in-Some-clause-only
returns-in-Some-clause-only c apart o h =
    only_of c.args.catalog.now c.args.plain.now (Comes c.args.order.now) c.args.bytes.now c.in_ok-texts.texts c.as_slice.result.now c.in_ok-found.field-0 c.in-Some.found o
    c.one_order.ensures c.in_ok-texts.ensures.found c.as_slice.ensures c.in_ok-found.ensures c.in-Some.is apart h

pub returns-clause-refused : goal.returns-clause-refused
returns-clause-refused c =
    none_of c.args.catalog.now c.args.plain.now (Comes c.args.order.now) c.args.bytes.now c.in_ok-texts.texts c.as_slice.result.now c.in_ok-found.field-0 c.refused.result
    c.one_order.ensures c.in_ok-texts.ensures.found c.as_slice.ensures c.in_ok-found.ensures c.in-None.is c.refused.ensures
