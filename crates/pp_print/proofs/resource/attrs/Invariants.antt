use Rattle.std.proofs.Common.{◌≡◌, ◌++◌, take}
use Rattle.std.specs.List.{flat_map}
use Rattle.pp_print.specs.Words.{comma}
use Rattle.pp_print.specs.Statements.{attr_words}
use Rattle.pp_print.proofs.resource.attrs.Given as goal

abbrev pub invariant-loop-a : goal.invariant-loop-a
invariant-loop-a l = l.words ≡ l.initial.words ++ flat_map (λ x. comma ++ attr_words x) (take l.a-index l.more)
