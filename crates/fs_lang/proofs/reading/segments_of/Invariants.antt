use Rattle.std.proofs.Common.{◌≡◌, length, Some}
use denote.Shadow.{shadow}
use denote.Text.{Utf8}
use Rattle.fs_lang.specs.Reading.{pieces, joined, segments_of}
use Rattle.fs_lang.proofs.reading.segments_of.Given as goal

abbrev pub invariant-loop-piece : goal.invariant-loop-piece
invariant-loop-piece l = record {
  is : joined (Some l.segments) (segments_of (pieces l.rest)) ≡ segments_of (pieces l.text);
  text : shadow (Utf8 l.rest);
}

abbrev pub decreases-loop-piece : goal.decreases-loop-piece
decreases-loop-piece l = length l.rest
