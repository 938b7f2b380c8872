use Rattle.std.proofs.Common.{◌≡◌, ◌++◌, length, string_bytes}
use denote.Shadow.{shadow}
use denote.Text.{Utf8}
use Rattle.pp_syntax.specs.TokenValues.{sq_value}
use Rattle.pp_expression.proofs.values.unescaped.Given as goal

abbrev pub invariant-loop-front : goal.invariant-loop-front
invariant-loop-front l = record {
  is : string_bytes l.value ++ sq_value l.rest ≡ sq_value l.raw;
  text : shadow (Utf8 l.rest);
}

abbrev pub decreases-loop-front : goal.decreases-loop-front
decreases-loop-front l = length l.rest
