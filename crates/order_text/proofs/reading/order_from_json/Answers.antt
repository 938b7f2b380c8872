use Rattle.std.proofs.Common.{◌≡◌, None, Some, subst, ap, ◌∙◌}
use Rattle.serde_json.specs.View.{view, items_view}
use Rattle.rh_base.specs.Reading.{Fails}
use Rattle.order_text.specs.OrderText.{texts_of}
use Rattle.order_text.proofs.OrderLaws.{order_read, refused_texts}
use Rattle.order_text.proofs.reading.order_from_json.Goals as goal

pub returns-in-Ok-texts_of-clause-found : goal.returns-in-Ok-texts_of-clause-found
returns-in-Ok-texts_of-clause-found c =
    order_read c.args.bytes.now (view c.in-Ok.json) (items_view c.as_slice.result.now) c.in-Ok-texts_of.texts c.in-Ok.ensures.ok.0 c.in-Ok.ensures.ok.1
    (ap (λ l. Some (items_view l)) c.as_slice.ensures.value ∙ c.in-Some.ensures) c.in-Ok-texts_of.ensures

pub returns-in-Ok-texts_of-clause-only : goal.returns-in-Ok-texts_of-clause-only
returns-in-Ok-texts_of-clause-only c ts h =
    c.one_order.ensures c.args.bytes.now c.in-Ok-texts_of.texts ts
    (order_read c.args.bytes.now (view c.in-Ok.json) (items_view c.as_slice.result.now) c.in-Ok-texts_of.texts c.in-Ok.ensures.ok.0 c.in-Ok.ensures.ok.1
    (ap (λ l. Some (items_view l)) c.as_slice.ensures.value ∙ c.in-Some.ensures) c.in-Ok-texts_of.ensures) h

pub returns-in-Err-Form-clause-refused : goal.returns-in-Err-Form-clause-refused
returns-in-Err-Form-clause-refused c =
    let none : texts_of (items_view c.as_slice.result.now) ≡ None = subst (λ m. Fails m (texts_of (items_view c.as_slice.result.now))) c.in-Err-Form.field-0-is c.in-Err-Form.ensures in
    refused_texts c.args.bytes.now (view c.in-Ok.json) (items_view c.as_slice.result.now) c.refused-in-Err-Form.result c.in-Ok.ensures.ok.1
    (ap (λ l. Some (items_view l)) c.as_slice.ensures.value ∙ c.in-Some.ensures) none c.refused-in-Err-Form.ensures
