use Rattle.std.proofs.Common.{drop}
use Rattle.std.specs.List.{AllByRecursion}
use Rattle.fs_lang.specs.Meaning.{program_of}
use Rattle.effect_sets.specs.Members.{sets_of}
use Rattle.commuting_parts.specs.Parts.{IsApartFrom}
use Rattle.commuting_parts.proofs.parts.steps_are_apart.Given as goal

-- where those that follow are apart, all are
abbrev pub invariant-loop-step : goal.invariant-loop-step
invariant-loop-step l = AllByRecursion (λ e. IsApartFrom l.folders (sets_of l.shared) (program_of e)) (drop l.step-index l.steps)
    → AllByRecursion (λ e. IsApartFrom l.folders (sets_of l.shared) (program_of e)) l.steps
