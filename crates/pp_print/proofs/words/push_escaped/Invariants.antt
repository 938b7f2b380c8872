use Rattle.std.proofs.Common.{◌≡◌, ◌++◌, length}
use Rattle.pp_print.specs.Words.{escaped}
use Rattle.pp_print.proofs.words.push_escaped.Given as goal

-- what was written, with what the rest gives, is what the whole text gives
abbrev pub invariant-loop-b : goal.invariant-loop-b
invariant-loop-b l = l.raw.items ++ escaped l.rest ≡ l.initial.raw.items ++ escaped l.text

abbrev pub decreases-loop-b : goal.decreases-loop-b
decreases-loop-b l = length l.rest
