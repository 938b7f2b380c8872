use Rattle.std.proofs.Common.{◌≡◌, ◌++◌, map}
use Rattle.fs_lang.specs.Meaning.{program_of}
use Rattle.assumed_models.proofs.lost.push_all.Given as goal

abbrev pub invariant-loop-step : goal.invariant-loop-step
invariant-loop-step l =
    (goal.iterator-loop-step).can_next l.step-iterator
    × (goal.iterator-loop-step).is_finite l.step-iterator
    × (l.fn.more ≡ l.yielded ++ l.step-iterator.rest.items)
    × (map program_of l.steps ≡ map program_of l.initial.steps ++ map program_of l.yielded)
