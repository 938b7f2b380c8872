use Rattle.std.proofs.Common.{◌≡◌, ◌++◌, take}
use Rattle.std.specs.List.{flat_map}
use Rattle.pp_print.specs.Words.{comma, quoted}
use Rattle.pp_print.proofs.types.texts.Given as goal

abbrev pub invariant-loop-t : goal.invariant-loop-t
invariant-loop-t l = l.words ≡ l.initial.words ++ flat_map (λ x. comma ++ quoted x) (take l.t-index l.more)
