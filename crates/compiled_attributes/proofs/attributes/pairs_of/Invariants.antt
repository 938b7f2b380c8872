use Rattle.std.proofs.Common.{◌≡◌, []}
use Rattle.pp_value.specs.Keys.{with_pairs}
use Rattle.compiled_attributes.proofs.attributes.pairs_of.Given as goal

-- the pairs so far, with those that are left
abbrev pub invariant-loop-name : goal.invariant-loop-name
invariant-loop-name l = with_pairs l.pairs l.name-iterator ≡ with_pairs [] l.fn.attributes.entries
