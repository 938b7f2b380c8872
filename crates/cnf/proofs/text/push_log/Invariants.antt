use Rattle.std.proofs.Common.{◌≡◌, ◌++◌, take, map}
use Rattle.std.specs.List.{flat_map}
use Rattle.cnf.specs.ProofText.{step_words, line_text}
use Rattle.cnf.proofs.text.push_log.Given as goal

abbrev pub invariant-loop-step : goal.invariant-loop-step
invariant-loop-step l = l.out.items ≡ l.initial.out.items ++ flat_map line_text (map step_words (take l.step-index l.steps))
