use Rattle.std.proofs.Common.{◌≡◌, ◌++◌, false, drop, get_or}
use Rattle.commuting_parts.specs.Parts.{chosen_by, unmarked}
use Rattle.commuting_parts.proofs.parts.parted.Given as goal

-- the parts so far, and those of the rest
abbrev pub invariant-loop-i : goal.invariant-loop-i
invariant-loop-i l = record {
  own : l.parts.own ++ unmarked (λ n. get_or l.marks n false) l.i (drop l.i l.steps) ≡ unmarked (λ n. get_or l.marks n false) 0 l.steps;
  shared : l.parts.shared ++ chosen_by (λ n. get_or l.marks n false) l.i (drop l.i l.steps) ≡ chosen_by (λ n. get_or l.marks n false) 0 l.steps;
}
