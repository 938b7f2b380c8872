use Rattle.std.proofs.Common.{◌≡◌, ◌++◌, drop}
use Rattle.fs_lang.specs.PathText.{spelled}
use Rattle.fs_lang.proofs.path.spelled_out.Given as goal

-- what is written, with what is left to be written
abbrev pub invariant-loop-segment : goal.invariant-loop-segment
invariant-loop-segment l = l.text ++ spelled (drop l.segment-index l.segments) ≡ spelled l.segments
