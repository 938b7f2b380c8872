use Rattle.std.proofs.Common.{◌≡◌, drop}
use Rattle.compiled_text.specs.Reading.{goes_on, is_type}
use Rattle.compiled_text.proofs.names.is_type.Given as goal

-- what is left goes on from the spot just where the whole is a type
abbrev pub invariant-loop-byte : goal.invariant-loop-byte
invariant-loop-byte l = goes_on (drop l.byte-index l.byte-items) l.spot ≡ is_type l.text
