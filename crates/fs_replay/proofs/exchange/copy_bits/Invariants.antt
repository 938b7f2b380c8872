use Rattle.std.proofs.Common.{◌≡◌, take}
use Rattle.fs_replay.proofs.exchange.copy_bits.Given as goal

abbrev pub invariant-loop-bit : goal.invariant-loop-bit
invariant-loop-bit l = l.copy ≡ take l.bit-index l.bits
