use Rattle.std.proofs.Common.{◌≡◌, None, subst}
use Rattle.serde_json.specs.View.{view}
use Rattle.rh_base.specs.Reading.{Fails}
use Rattle.compiled_text.specs.Reading.{compiled_of}
use Rattle.compiled_text.proofs.FormLaws.{compiled_is}
use Rattle.compiled_text.proofs.OneCompiled.{refused_with}
use Rattle.compiled_text.proofs.reading.compiled_from_json.Goals as goal

pub returns-in-Ok-compiled_of-clause-found : goal.returns-in-Ok-compiled_of-clause-found
returns-in-Ok-compiled_of-clause-found c = record {
  text = c.in-Ok.ensures.ok.0;
  json = view c.in-Ok.json;
  is_read = c.in-Ok.ensures.ok.1;
  says = compiled_is (view c.in-Ok.json) c.in-Ok-compiled_of.compiled c.in-Ok-compiled_of.ensures;
}

pub returns-in-Ok-compiled_of-clause-only : goal.returns-in-Ok-compiled_of-clause-only
returns-in-Ok-compiled_of-clause-only c other is =
    c.compiled_texts.ensures.one c.args.bytes.now c.in-Ok-compiled_of.compiled other (record {
      text = c.in-Ok.ensures.ok.0;
      json = view c.in-Ok.json;
      is_read = c.in-Ok.ensures.ok.1;
      says = compiled_is (view c.in-Ok.json) c.in-Ok-compiled_of.compiled c.in-Ok-compiled_of.ensures;
    }) is

pub returns-in-Err-Form-clause-refused : goal.returns-in-Err-Form-clause-refused
returns-in-Err-Form-clause-refused c =
    let none : compiled_of (view c.in-Ok.json) ≡ None = subst (λ m. Fails m (compiled_of (view c.in-Ok.json))) c.in-Err-Form.field-0-is c.in-Err-Form.ensures in
    refused_with c.args.bytes.now (view c.in-Ok.json) c.refused-in-Err-Form.result c.in-Ok.ensures.ok.1 none c.refused-in-Err-Form.ensures
