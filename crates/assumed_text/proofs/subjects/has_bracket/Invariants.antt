use Rattle.std.proofs.Common.{◌≡◌, drop}
use Rattle.assumed_text.specs.Reading.{has_bracket}
use Rattle.assumed_text.proofs.subjects.has_bracket.Given as goal

-- one stands in what is left just where one stands in the whole
abbrev pub invariant-loop-byte : goal.invariant-loop-byte
invariant-loop-byte l = has_bracket (drop l.byte-index l.byte-items) ≡ has_bracket l.text
