use Rattle.std.proofs.Common.{◌≡◌, None, subst}
use Rattle.serde_json.specs.View.{view}
use Rattle.rh_base.specs.Reading.{Fails}
use Rattle.pp_data.specs.Reading.{data_in}
use Rattle.pp_data.proofs.FormLaws.{refused_with}
use Rattle.pp_data.proofs.reading.data_from_json.Goals as goal

pub returns-in-Err-Form-clause-refused : goal.returns-in-Err-Form-clause-refused
returns-in-Err-Form-clause-refused c =
    let none : data_in (view c.in-Ok.json) ≡ None = subst (λ m. Fails m (data_in (view c.in-Ok.json))) c.in-Err-Form.field-0-is c.in-Err-Form.ensures.levels in
    refused_with c.args.bytes.now (view c.in-Ok.json) c.refused-in-Err-Form.result c.in-Ok.ensures.ok.1 none c.refused-in-Err-Form.ensures
