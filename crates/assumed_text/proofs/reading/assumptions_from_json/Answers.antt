use Rattle.std.proofs.Common.{List, subst}
use Rattle.serde_json.specs.View.{view}
use Rattle.assumed_text.specs.declared.assumed.Assumption.{Assumption}
use Rattle.assumed_text.specs.Form.{SaysAssumptions}
use Rattle.json_parts.specs.Forms.{IfForm}
use Rattle.assumed_text.proofs.OneText.{refused_with}
use Rattle.assumed_text.proofs.reading.assumptions_from_json.Goals as goal

pub returns-in-Ok-assumptions_of-clause-only : goal.returns-in-Ok-assumptions_of-clause-only
returns-in-Ok-assumptions_of-clause-only c rows is =
    c.assumption_texts.ensures.one c.args.bytes.now c.in-Ok-assumptions_of.assumptions rows
    (record { text = c.in-Ok.ensures.ok.0; json = view c.in-Ok.json; is_read = c.in-Ok.ensures.ok.1; says = c.in-Ok-assumptions_of.ensures.says }) is

pub returns-in-Err-Form-clause-refused : goal.returns-in-Err-Form-clause-refused
returns-in-Err-Form-clause-refused c =
    let none = subst (λ m. IfForm m ((rows : List Assumption) → SaysAssumptions rows (view c.in-Ok.json) → ⊥)) c.in-Err-Form.field-0-is c.in-Err-Form.ensures.none in
    refused_with c.args.bytes.now (view c.in-Ok.json) c.refused-in-Err-Form.result c.in-Ok.ensures.ok.1 none c.refused-in-Err-Form.ensures
