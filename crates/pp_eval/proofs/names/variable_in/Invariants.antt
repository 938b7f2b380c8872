use Rattle.std.proofs.Common.{◌≡◌, length}
use denote.Shadow.{shadow}
use denote.Text.{Utf8}
use Rattle.pp_eval.specs.Names.{variable_in}
use Rattle.pp_eval.proofs.names.variable_in.Given as goal

abbrev pub invariant-loop-tail : goal.invariant-loop-tail
invariant-loop-tail l = record {
  is : variable_in l.rest ≡ variable_in l.name;
  text : shadow (Utf8 l.rest);
}

abbrev pub decreases-loop-tail : goal.decreases-loop-tail
decreases-loop-tail l = length l.rest
