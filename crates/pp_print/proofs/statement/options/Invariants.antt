use Rattle.std.proofs.Common.{◌≡◌, ◌++◌, take}
use Rattle.std.specs.List.{flat_map}
use Rattle.pp_print.specs.Words.{comma}
use Rattle.pp_print.specs.Expressions.{option_by, expr_words}
use Rattle.pp_print.proofs.statement.options.Given as goal

abbrev pub invariant-loop-e : goal.invariant-loop-e
invariant-loop-e l = l.words ≡ l.initial.words ++ flat_map (λ x. comma ++ option_by expr_words x) (take l.e-index l.more)
