use Rattle.std.proofs.Common.{◌≡◌, ◌+◌, ◌-◌, ◌<◌, ℕ, length}
use Rattle.std.specs.Prelude.{IsTrue}
use Rattle.finite_domain.specs.Layouts.{other_segment}
use Rattle.path_domain.specs.Segments.{texts_in}
use Rattle.path_domain.proofs.TextLaws.{longest}
use Rattle.path_domain.proofs.segments.fresh_segment.Given as goal

-- the shorter ones are in the set
abbrev pub invariant-loop-name : goal.invariant-loop-name
invariant-loop-name l = (n : ℕ) × (l.name ≡ other_segment n) × ((k : ℕ) → k < n → IsTrue (texts_in l.segments (other_segment k)))

abbrev pub decreases-loop-name : goal.decreases-loop-name
decreases-loop-name l = longest l.segments.keys + 1 - length l.name
