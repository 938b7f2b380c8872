use Rattle.std.proofs.Common.{sym, subst}
use Rattle.std.proofs.lemmas.Result.{err_from_is_err_and}
use Rattle.serde_json.specs.View.{view}
use Rattle.assumed_text.specs.Form.{SaysAssumptions}
use Rattle.assumed_text.proofs.FormLaws.{says}
use Rattle.assumed_text.proofs.OneText.{all_sound, says_none}
use Rattle.assumed_text.proofs.reading.assumptions_of.Goals as goal

pub returns-in_err-rows-clause-none : goal.returns-in_err-rows-clause-none
returns-in_err-rows-clause-none c =
    let p = err_from_is_err_and c.from_residual.result c.from_residual.ensures.1 in
    rw (p.1, p.2) (says_none c.compiled_texts.ensures.references c.package_paths.ensures (view c.args.json.now) c.in_err-rows.field-0.0 c.in_err-rows.ensures.rows)

pub of-requires : goal.of-requires
of-requires c =
    let s = says c.compiled_texts.ensures.references c.package_paths.ensures (view c.args.json.now) c.in_ok-rows.rows c.in_ok-rows.ensures.rows c.in_ok-rows.ensures.proper in
    all_sound c.in_ok-rows.rows s.resources s.are_assumptions

pub returns-clause-says : goal.returns-clause-says
returns-clause-says c =
    subst (λ l. SaysAssumptions l (view c.args.json.now)) (sym c.in_ok-of.ensures)
    (says c.compiled_texts.ensures.references c.package_paths.ensures (view c.args.json.now) c.in_ok-rows.rows c.in_ok-rows.ensures.rows c.in_ok-rows.ensures.proper)
