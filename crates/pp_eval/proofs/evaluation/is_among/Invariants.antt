use Rattle.std.proofs.Common.{◌≡◌, map, drop, option_map}
use Rattle.pp_eval.specs.Evaluation.{evaluated, is_among}
use Rattle.pp_eval.proofs.evaluation.is_among.Given as goal

abbrev pub invariant-loop-option : goal.invariant-loop-option
invariant-loop-option l = is_among l.blame l.value (map (option_map (evaluated l.scopes)) (drop l.option-index l.options)) ≡ is_among l.blame l.value (map (option_map (evaluated l.scopes)) l.options)
