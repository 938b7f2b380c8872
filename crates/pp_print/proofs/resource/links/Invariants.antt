use Rattle.std.proofs.Common.{◌≡◌, ◌++◌, drop}
use Rattle.pp_print.specs.Statements.{links}
use Rattle.pp_print.proofs.resource.links.Given as goal

abbrev pub invariant-loop-a : goal.invariant-loop-a
invariant-loop-a l = l.words ++ links (drop l.a-index l.arrows) l.rest ≡ l.initial.words ++ links l.arrows l.sides
