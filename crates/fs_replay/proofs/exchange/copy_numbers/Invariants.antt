use Rattle.std.proofs.Common.{◌≡◌, take}
use Rattle.fs_replay.proofs.exchange.copy_numbers.Given as goal

abbrev pub invariant-loop-n : goal.invariant-loop-n
invariant-loop-n l = l.copy ≡ take l.n-index l.numbers
