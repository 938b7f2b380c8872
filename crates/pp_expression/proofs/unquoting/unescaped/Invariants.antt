use Rattle.std.proofs.Common.{◌≡◌, length, string_bytes}
use denote.Shadow.{shadow}
use denote.Text.{Utf8}
use Rattle.pp_readers.specs.Values.{dq, with_bytes}
use Rattle.pp_expression.proofs.unquoting.unescaped.Given as goal

-- the value so far, and that of the rest
abbrev pub invariant-loop-front : goal.invariant-loop-front
invariant-loop-front l = record {
  is : with_bytes (string_bytes l.value) (dq l.rest) ≡ dq l.raw;
  text : shadow (Utf8 l.rest);
}

abbrev pub decreases-loop-front : goal.decreases-loop-front
decreases-loop-front l = length l.rest
