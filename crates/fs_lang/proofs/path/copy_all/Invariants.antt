use Rattle.std.proofs.Common.{◌≡◌, take}
use Rattle.fs_lang.proofs.path.copy_all.Given as goal

abbrev pub invariant-loop-segment : goal.invariant-loop-segment
invariant-loop-segment l = l.copies ≡ take l.segment-index l.segments
