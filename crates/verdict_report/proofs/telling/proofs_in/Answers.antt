use Rattle.std.proofs.Common.{◌∙◌}
use Rattle.verdict_report.specs.Lines.{proofs_of}
use Rattle.verdict_report.proofs.TrimmedLaws.{told_proofs}
use Rattle.verdict_report.proofs.telling.proofs_in.Goals as goal

pub returns : goal.returns
returns c =
    told_proofs (proofs_of c.args.judged) c.as_slice.result.now c.in_ok-left.left c.as_slice-2.result.now c.in_ok-text.text (c.as_slice.ensures ∙ c.in_ok-refuted.ensures) c.in_ok-left.ensures
    c.as_slice-2.ensures c.in_ok-text.ensures.text c.in_ok-text.ensures.proved
