use Rattle.std.proofs.Common.{◌≡◌, [], drop}
use Rattle.assumed_text.specs.Reading.{firsts}
use Rattle.assumed_text.proofs.assumed.types_of.Given as goal

-- with those that are left it is what it is with all
abbrev pub invariant-loop-row : goal.invariant-loop-row
invariant-loop-row l = (firsts l.types l.place (drop l.row-index l.rows) ≡ firsts [] 0 l.rows) × (l.place ≡ l.row-index)
