use Rattle.std.proofs.Common.{subst}
use Rattle.serde_json.specs.View.{view}
use Rattle.given_text.specs.declared.given.Given.{Given}
use Rattle.given_text.specs.Form.{IsGivenBy}
use Rattle.json_parts.specs.Forms.{IfForm}
use Rattle.given_text.proofs.OneGiven.{refused_with}
use Rattle.given_text.proofs.reading.given_from_json.Goals as goal

pub returns-in-Ok-given_of-clause-only : goal.returns-in-Ok-given_of-clause-only
returns-in-Ok-given_of-clause-only c g is =
    c.given_texts.ensures.one c.args.bytes.now c.in-Ok-given_of.given g
    (record { text = c.in-Ok.ensures.ok.0; json = view c.in-Ok.json; is_read = c.in-Ok.ensures.ok.1; gives = c.in-Ok-given_of.ensures.given }) is

pub returns-in-Err-Form-clause-refused : goal.returns-in-Err-Form-clause-refused
returns-in-Err-Form-clause-refused c =
    let none = subst (λ m. IfForm m ((g : Given) → IsGivenBy (view c.in-Ok.json) g → ⊥)) c.in-Err-Form.field-0-is c.in-Err-Form.ensures.none in
    refused_with c.args.bytes.now (view c.in-Ok.json) c.refused-in-Err-Form.result c.in-Ok.ensures.ok.1 none c.refused-in-Err-Form.ensures
