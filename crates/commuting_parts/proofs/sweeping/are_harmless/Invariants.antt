use Rattle.std.proofs.Common.{◌≡◌, drop}
use Rattle.std.specs.List.{AllByRecursion}
use Rattle.fs_semantics.specs.FileTree.{parent}
use Rattle.fs_lang.specs.Meaning.{program_of}
use Rattle.commuting_parts.specs.Sweeps.{IsHarmlessTo}
use Rattle.commuting_parts.proofs.sweeping.are_harmless.Given as goal

-- where those that follow are harmless, all are
abbrev pub invariant-loop-step : goal.invariant-loop-step
invariant-loop-step l = l.above ≡ parent l.d → AllByRecursion (λ e. IsHarmlessTo l.d (program_of e)) (drop l.step-index l.steps)
    → AllByRecursion (λ e. IsHarmlessTo l.d (program_of e)) l.steps
