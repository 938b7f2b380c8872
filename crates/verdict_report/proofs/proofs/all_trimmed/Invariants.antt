use Rattle.std.proofs.Common.{take}
use Rattle.verdict_report.specs.Told.{AreTrimmedOf}
use Rattle.verdict_report.proofs.proofs.all_trimmed.Given as goal

-- those so far
abbrev pub invariant-loop-verified : goal.invariant-loop-verified
invariant-loop-verified l = AreTrimmedOf (take l.verified-index l.refuted) l.left
