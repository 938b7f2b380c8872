use Rattle.std.proofs.Common.{true≢false, sym, ◌∙◌}
use Rattle.std.proofs.lemmas.Result.{err_from_is_err_and}
use Rattle.serde_json.specs.View.{view}
use Rattle.given_text.proofs.FormLaws.{stated_is}
use Rattle.given_text.proofs.OneGiven.{not_stated, not_sound}
use Rattle.given_text.proofs.reading.given_of.Goals as goal

pub returns-in_err-stated-clause-none : goal.returns-in_err-stated-clause-none
returns-in_err-stated-clause-none c =
    let p = err_from_is_err_and c.from_residual.result c.from_residual.ensures.1 in
    rw (p.1, p.2) (not_stated (view c.args.json.now) c.in_err-stated.field-0.0 c.in_err-stated.ensures.stated)

pub returns-then-not-sound-clause-none : goal.returns-then-not-sound-clause-none
returns-then-not-sound-clause-none c =
    not_sound (view c.args.json.now) c.in_ok-stated.stated (stated_is (view c.args.json.now) c.in_ok-stated.stated c.in_ok-stated.ensures.stated c.in_ok-stated.ensures.proper)
    (λ is. true≢false (sym (c.in_ok-sound.ensures.1 is) ∙ c.if-not-sound.true))

pub returns-clause-given : goal.returns-clause-given
returns-clause-given c = record {
  stated = c.in_ok-stated.stated;
  states = stated_is (view c.args.json.now) c.in_ok-stated.stated c.in_ok-stated.ensures.stated c.in_ok-stated.ensures.proper;
  sound = c.in_ok-sound.ensures.0 c.if-not-sound.false;
  closed = c.in_ok-closed.ensures;
}
