use Rattle.std.proofs.Common.{◌≡◌, [], drop}
use Rattle.compiled_attributes.specs.Attributes.{value_read, with_all}
use Rattle.compiled_attributes.proofs.attributes.read_all.Given as goal

-- the attributes so far, with what becomes of those that are left
abbrev pub invariant-loop-pair : goal.invariant-loop-pair
invariant-loop-pair l = with_all (value_read l.reading l.ps) l.attributes.entries (drop l.pair-index l.ps) ≡ with_all (value_read l.reading l.ps) [] l.ps
