use Rattle.std.proofs.Common.{◌≡◌, ◌++◌, take}
use Rattle.std.specs.Prelude.{codes}
use Rattle.std.specs.List.{flat_map}
use Rattle.pp_print.specs.Words.{sign}
use Rattle.pp_print.specs.Statements.{body_words}
use Rattle.pp_print.proofs.resource.bodies.Given as goal

abbrev pub invariant-loop-b : goal.invariant-loop-b
invariant-loop-b l = l.words ≡ l.initial.words ++ flat_map (λ x. sign (codes ";") ++ body_words x) (take l.b-index l.more)
