use Rattle.std.proofs.Common.{◌≡◌, ◌++◌, length}
use denote.Shadow.{shadow}
use denote.Text.{Utf8}
use Rattle.fs_lang.specs.Names.{replaced}
use Rattle.assumed_models.proofs.marks.replaced.Given as goal

-- what is made, with what becomes of the rest
abbrev pub invariant-loop-front : goal.invariant-loop-front
invariant-loop-front l = record {
  is : l.made ++ replaced l.c l.other (l.rest) ≡ replaced l.c l.other l.text;
  text : shadow (Utf8 l.rest);
}

abbrev pub decreases-loop-front : goal.decreases-loop-front
decreases-loop-front l = length l.rest
