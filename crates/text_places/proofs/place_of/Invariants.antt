use Rattle.std.proofs.Common.{◌≤◌, ◌+◌, take}
use Rattle.text_places.proofs.PlaceLaws.{IsRead}
use Rattle.text_places.proofs.place_of.Given as goal

-- what was read so far, and numbers that fit
abbrev pub invariant-loop-b : goal.invariant-loop-b
invariant-loop-b l = record { read : IsRead (take l.b-index l.ahead) l.line l.column; line : l.line ≤ l.b-index + 1; column : l.column ≤ l.b-index + 1 }
