use Rattle.std.proofs.Common.{◌≡◌, drop}
use Rattle.pp_syntax.specs.Statements.{arrow_among}
use Rattle.pp_syntax.proofs.tree.arrow_among.Given as goal

-- What is found from here on is what is found in all.
abbrev pub invariant-loop-arrow : goal.invariant-loop-arrow
invariant-loop-arrow l = arrow_among (drop l.arrow-index l.arrows) l.symbol ≡ arrow_among l.arrows l.symbol
