use Rattle.std.proofs.Common.{◌≡◌, ◌++◌, take}
use Rattle.std.specs.List.{flat_map}
use Rattle.pp_print.specs.Words.{comma, quoted}
use Rattle.pp_print.specs.Expressions.{option_by}
use Rattle.pp_print.proofs.item.node_names.Given as goal

abbrev pub invariant-loop-name : goal.invariant-loop-name
invariant-loop-name l = l.words ≡ l.initial.words ++ flat_map (λ x. comma ++ option_by quoted x) (take l.name-index l.more)
