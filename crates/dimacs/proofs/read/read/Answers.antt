use Rattle.std.proofs.Common.{map, ◌∙◌}
use Rattle.std.specs.Prelude.{codes}
use Rattle.rh_base.specs.Refused.{IsRefusal}
use Rattle.proof_check.specs.Refuted.{refutation}
use Rattle.dimacs.proofs.Reading.{reads_only, reads_none}
use Rattle.dimacs.proofs.read.read.Goals as goal

pub returns-in-Ok : goal.returns-in-Ok
returns-in-Ok c =
    reads_only c.args.text.now c.deref.result.now (c.deref.ensures.value ∙ c.in_ok-framed.ensures) (map refutation c.in-Ok.proofs.items)
    c.in-Ok.ensures.spelled c.in-Ok.ensures.only c.only.result c.only.ensures.some c.only.ensures.none

pub returns-in-Err-Refused : goal.returns-in-Err-Refused
returns-in-Err-Refused c =
    reads_none c.args.text.now c.deref.result.now (c.deref.ensures.value ∙ c.in_ok-framed.ensures) c.in-Err-Refused.field-0
    c.in-Err-Refused.field-0-0 c.in-Err-Refused.field-0-is (IsRefusal 80 0 (codes "proof")) c.in-Err-Refused.ensures.refused
