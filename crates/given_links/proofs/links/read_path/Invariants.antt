use Rattle.std.proofs.Common.{◌≡◌, ◌-◌, length}
use Rattle.given_links.specs.Reading.{read_by}
use Rattle.given_links.proofs.links.read_path.Given as goal

-- what is left of the turns reads what was found so far as the whole path
abbrev pub invariant-loop-turn : goal.invariant-loop-turn
invariant-loop-turn l = read_by (length l.path - l._turn) l.links l.read ≡ read_by (length l.path) l.links l.path
