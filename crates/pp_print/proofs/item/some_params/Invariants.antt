use Rattle.std.proofs.Common.{◌≡◌, ◌++◌, take}
use Rattle.std.specs.List.{flat_map}
use Rattle.pp_print.specs.Words.{comma}
use Rattle.pp_print.specs.Statements.{param_words}
use Rattle.pp_print.proofs.item.some_params.Given as goal

abbrev pub invariant-loop-p : goal.invariant-loop-p
invariant-loop-p l = l.words ≡ l.initial.words ++ flat_map (λ x. comma ++ param_words x) (take l.p-index l.more)
